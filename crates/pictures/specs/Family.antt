-- The marks and the rows of a family. Assumes nothing.
use Rattle.std.specs.Prelude.{ℕ, suc, ◌+◌, ◌-◌, cond, List, [], ◌∷◌, ◌==◌, min}
use Rattle.lines.specs.declared.vertex.Vertex.{Vertex}
use Rattle.lines.specs.declared.level.Level.{Level}
use Rattle.pictures.specs.declared.picture.Mark.{Mark}
use Rattle.pictures.specs.declared.picture.Row.{Row}

-- How many of the numbers are v, and `count` more.
abbrev pub count_on : ℕ → List ℕ → ℕ → ℕ
count_on count [] v = count
count_on count (number ∷ numbers) v = count_on (cond (number == v) (count + 1) count) numbers v

-- On how many chains vertex v lies, where the chains stand end to end; `top` if it is on more.
abbrev pub stay_of : List ℕ → ℕ → ℕ → ℕ
stay_of chains v top = min (count_on 0 chains v) top

-- The vertices of a line, the first of which is vertex v, with their stays.
abbrev pub marks_from : ℕ → List Vertex → List ℕ → ℕ → List Mark
marks_from v [] chains top = []
marks_from v (vertex ∷ vertices) chains top = record { vertex = vertex; stay = stay_of chains v top } ∷ marks_from (suc v) vertices chains top

-- The row of a level, whose chain has so many vertices, in the legend: it follows that of the line, and `before` others.
abbrev pub row_of_level : ℕ → ℕ → Level → ℕ → Row
row_of_level before number level chain =
    record { place = min (before + 1) 255; level = number; tolerance = level.tolerance; links = chain - 1; weight = level.weight }
