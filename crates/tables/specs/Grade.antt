-- The grade table: for each link the first level that allows it. Assumes nothing.
use Rattle.std.specs.Prelude.{◌≡◌, ℕ, ◌+◌, ◌*◌, ◌<◌, ◌≤◌, Bool, false, cond, ◌&&◌, List, length, Some, None, Option, nat_le, nat_lt, slice_index}
use Rattle.lines.specs.declared.level.Level.{Level}
use Rattle.lines.specs.declared.vertex.Vertex.{Vertex}
use Rattle.measures.specs.Measure.{Answer, allowed_by, grade, level_in, FirstAllowed}

-- What the cell of i and j holds: the grade of the link i → j, and 0 where i is not below j.
abbrev pub grade_cell : Answer → List Vertex → List Level → ℕ → ℕ → ℕ
grade_cell says vs ls i j = cond (nat_lt i j) (grade says vs ls i j) 0

-- Cell i × n + j of a line of n vertices holds its grade, for all i and j below n.
abbrev pub Graded : Answer → List Vertex → List Level → List ℕ → Type 0
Graded says vs ls cells =
    (i j : ℕ) → i < length vs → j < length vs → slice_index cells (i * length vs + j) ≡ grade_cell says vs ls i j

-- The memory has room for the grades of n vertices, and m levels are no more than a job has.
abbrev pub GradeRoom : ℕ → ℕ → ℕ → Type 0
GradeRoom m n room = (m ≤ 8) × (n * n ≤ room)

-- The first level that allows the link i → j, read off the cells of n vertices and m levels: none for a link that no level
-- allows, and none for a pair that is no link.
abbrev pub first_level : List ℕ → ℕ → ℕ → ℕ → ℕ → Option ℕ
first_level cells n m i j = cond (nat_lt i j && nat_lt j n) (level_in m (slice_index cells (i * n + j))) None

-- Whether the level k is the first level or comes after it.
abbrev pub reaches : Option ℕ → ℕ → Bool
reaches None k = false
reaches (Some first) k = nat_le first k

-- What the cells allow: the link i → j at its first level and at every level after it.
abbrev pub by_grade : List ℕ → ℕ → ℕ → ℕ → ℕ → ℕ → Bool
by_grade cells n m k i j = reaches (first_level cells n m i j) k

-- An answer is the first of m levels that allows the link i → j of a line of n vertices; none is answered exactly when there is
-- no such level or no such link.
abbrev pub FirstLevel : (ℕ → ℕ → ℕ → Bool) → ℕ → ℕ → ℕ → ℕ → Option ℕ → Type 0
FirstLevel allowed m n i j (Some k) =
    (i < j) × (j < n) × FirstAllowed (λ h. allowed h i j) m (Some k)
FirstLevel allowed m n i j None = i < j → j < n → FirstAllowed (λ h. allowed h i j) m None

-- On cells that hold the grades of a measure, an answer is the first level that the measure allows the link at.
abbrev pub TellsFirstLevel : List ℕ → ℕ → ℕ → ℕ → ℕ → Option ℕ → Type 0
TellsFirstLevel cells n m i j r =
    (says : Answer) (vs : List Vertex) (ls : List Level) → length vs ≡ n → length ls ≡ m → Graded says vs ls cells →
    FirstLevel (allowed_by says vs ls) m n i j r
