-- The text of a job. Assumes nothing.
use Rattle.std.specs.Prelude.{ℕ, ◌+◌, List, [], ◌∷◌, ◌++◌, codes, decimal, map}
use Rattle.std.specs.Fmt.{signed_decimal}
use Rattle.lines.specs.declared.level.Level.{Level as JobLevel}
use Rattle.lines.specs.declared.vertex.Vertex.{Vertex as LineVertex}
use Rattle.packs.specs.Job.{Content}
use Rattle.packs.specs.declared.kind.MeasureKind.{MeasureKind}
use Rattle.packs.specs.declared.kind.MeasureKind.TheVariants.{Segment, Strip, Area}
use Rattle.packs.specs.declared.kind.PriceKind.{PriceKind}
use Rattle.packs.specs.declared.kind.PriceKind.TheVariants.{Count, CountThenArea}
use Rattle.words.specs.Lines.{each_with}
use Rattle.drawings.specs.Text.{level_text, total_text}
use Rattle.texts.specs.declared.statement.Statement.{Statement}
use Rattle.texts.specs.declared.statement.Statement.TheVariants.{Measure, Price, Level, Vertex}

-- The name of each measure.
abbrev pub measure_name : MeasureKind → List ℕ
measure_name Segment = codes "segment"
measure_name Strip = codes "strip"
measure_name Area = codes "area"

-- The name of each price.
abbrev pub price_name : PriceKind → List ℕ
price_name Count = codes "count"
price_name CountThenArea = codes "count-area"

-- The line of a measure.
abbrev pub measure_line : MeasureKind → List ℕ
measure_line m = codes "measure " ++ measure_name m

-- The line of a price.
abbrev pub price_line : PriceKind → List ℕ
price_line p = codes "price " ++ price_name p

-- The line of a level: its tolerance and its weight.
abbrev pub level_line : JobLevel → List ℕ
level_line l = codes "level " ++ (decimal l.tolerance ++ (codes " " ++ decimal l.weight))

-- A vertex: x and y.
abbrev pub vertex_text : LineVertex → List ℕ
vertex_text v = signed_decimal v.x ++ (codes " " ++ signed_decimal v.y)

-- The line of a vertex.
abbrev pub vertex_line : LineVertex → List ℕ
vertex_line v = codes "vertex " ++ vertex_text v

-- Vertices with commas between them.
abbrev pub vertices_text : List LineVertex → List ℕ
vertices_text [] = []
vertices_text (v ∷ []) = vertex_text v
vertices_text (v ∷ next ∷ vs) = vertex_text v ++ (codes ", " ++ vertices_text (next ∷ vs))

-- The line of all vertices.
abbrev pub line_string : List LineVertex → List ℕ
line_string vs = codes "LINESTRING (" ++ (vertices_text vs ++ codes ")")

-- The line that says one thing.
abbrev pub statement_line : Statement → List ℕ
statement_line (Measure m) = measure_line m
statement_line (Price p) = price_line p
statement_line (Level l) = level_line l
statement_line (Vertex v) = vertex_line v

-- The lines of a job.
abbrev pub job_lines : Content → List (List ℕ)
job_lines j = measure_line j.measure ∷ (price_line j.price ∷ (map level_line j.levels ++ map vertex_line j.vertices))

-- The text of a job: its lines, each with a line feed behind it.
abbrev pub job_text : Content → List ℕ
job_text j = each_with 10 (job_lines j)

-- The text of a job with all its vertices in one line.
abbrev pub short_text : Content → List ℕ
short_text j = each_with 10 (measure_line j.measure ∷ (price_line j.price ∷ (map level_line j.levels ++ (line_string j.vertices ∷ []))))

-- A line that says nothing.
abbrev pub comment : List ℕ → List ℕ
comment line = codes "# " ++ line

-- The comments of chains, the first of which is that of level k.
abbrev pub chain_lines : ℕ → List (List ℕ) → List (List ℕ)
chain_lines k [] = []
chain_lines k (chain ∷ chains) = comment (level_text k chain) ∷ chain_lines (k + 1) chains

-- The comments of a family: its chains, the finest first, and the form of its total.
abbrev pub family_lines : List (List ℕ) → ℕ × ℕ → List (List ℕ)
family_lines chains form = chain_lines 1 chains ++ (comment (total_text form) ∷ [])
