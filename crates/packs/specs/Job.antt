-- Jobs as bytes: the numbers of measure and price, the vertices, the levels. Assumes nothing.
use Rattle.std.specs.Prelude.{◌≡◌, ℕ, zero, suc, ◌+◌, ◌/◌, ◌≤◌, cond, ◌↔◌, List, [], ◌∷◌, ◌++◌, length, drop, Some, None, Ok, Err, Option, Result, ◌==◌, slice_index}
use Rattle.std.specs.List.{flat_map}
use Rattle.lines.specs.Fault.{fault, then}
use Rattle.lines.specs.Vertex.{at}
use Rattle.lines.specs.Line.{Lawful, judged_line}
use Rattle.lines.specs.Level.{level, LawfulLevels, judged_levels}
use Rattle.lines.specs.declared.fault.Fault.{Fault}
use Rattle.lines.specs.declared.fault.Cause.TheVariants.{LeftOver, Unknown}
use Rattle.lines.specs.declared.fault.Layer.TheVariants.{Pack}
use Rattle.lines.specs.declared.fault.Layer.TheVariants.{Content as ContentLayer}
use Rattle.lines.specs.declared.vertex.Vertex.{Vertex}
use Rattle.lines.specs.declared.level.Level.{Level}
use Rattle.packs.specs.declared.kind.MeasureKind.{MeasureKind}
use Rattle.packs.specs.declared.kind.PriceKind.{PriceKind}
use Rattle.packs.specs.declared.record.Due.TheVariants.{Numbers, Vertices, Levels}
use Rattle.packs.specs.declared.job.Layout.{Layout}
use Rattle.packs.specs.declared.job.Job.{Job}
use Rattle.packs.specs.Bytes.{le, field, signed, unsigned}
use Rattle.packs.specs.Record.{a_record, record_at}
use Rattle.packs.specs.Kind.{measure_number, price_number, measure_numbered, price_numbered, measure_largest}

-- What a job says.
pub record Content : Type 0 where
  pub measure : MeasureKind
  pub price : PriceKind
  pub vertices : List Vertex
  pub levels : List Level

-- A lawful job: a lawful line and 1 to 8 levels that are lawful under the measure.
pub record LawfulContent (j : Content) : Type 0 where
  pub line : Lawful j.vertices
  pub count : (1 ≤ length j.levels) × (length j.levels ≤ 8)
  pub levels_lawful : LawfulLevels (measure_largest j.measure) j.levels

-- A vertex as bytes: x and y, 16 bits each.
abbrev pub vertex_bytes : Vertex → List ℕ
vertex_bytes v = le 2 (unsigned v.x) ++ le 2 (unsigned v.y)

-- A level as bytes: tolerance and weight, 32 bits each.
abbrev pub level_bytes : Level → List ℕ
level_bytes l = le 4 l.tolerance ++ le 4 l.weight

-- A job as bytes: a job pack, and the beginning of a family pack.
abbrev pub encoded : Content → List ℕ
encoded j =
    a_record 1 (measure_number j.measure ∷ price_number j.price ∷ []) ++
    (a_record 2 (flat_map vertex_bytes j.vertices) ++ a_record 3 (flat_map level_bytes j.levels))

-- The vertex that bytes begin with.
abbrev pub vertex_from : List ℕ → Vertex
vertex_from bs = at (signed (field 2 0 bs)) (signed (field 2 2 bs))

-- The level that bytes begin with.
abbrev pub level_from : List ℕ → Level
level_from bs = level (field 4 0 bs) (field 4 4 bs)

-- So many items of w bytes each that bytes begin with.
abbrev pub items : {X : Type 0} → ℕ → (List ℕ → X) → ℕ → List ℕ → List X
items w from zero bs = []
items w from (suc k) bs = from bs ∷ items w from k (drop w bs)

-- The structure of the first three records: the lengths of the two bodies, and where the rest starts.
abbrev pub laid_out : ℕ → ℕ → Layout
laid_out b c = record { vertices = b; levels = c; end = 20 + b + c }

abbrev pub layout_in : List ℕ → Result Layout Fault
layout_in bs =
    then (record_at Numbers 0 bs) (λ _.
    then (record_at Vertices 8 (drop 8 bs)) (λ b.
    then (record_at Levels (14 + b) (drop (14 + b) bs)) (λ c.
    Ok (laid_out b c))))

-- What the structure of accepted records keeps: 2 to 256 vertices and 1 to 8 levels, all within the bytes.
pub record Within (bs : List ℕ) (l : Layout) : Type 0 where
  pub vertices_fit : (8 ≤ l.vertices) × (l.vertices ≤ 1024)
  pub levels_fit : (8 ≤ l.levels) × (l.levels ≤ 64)
  pub ends : l.end ≡ 20 + l.vertices + l.levels
  pub inside : l.end ≤ length bs

-- The vertices in the second record.
abbrev pub vertices_in : List ℕ → Layout → List Vertex
vertices_in bs l = items 4 vertex_from (l.vertices / 4) (drop 14 bs)

-- The levels in the third record.
abbrev pub levels_in : List ℕ → Layout → List Level
levels_in bs l = items 8 level_from (l.levels / 8) (drop (20 + l.vertices) bs)

-- What comes after a number that is known; an unknown one ends the reading.
abbrev pub known : {X Y : Type 0} → Option X → Fault → (X → Result Y Fault) → Result Y Fault
known (Some x) e f = f x
known None e f = Err e

-- The vertices are judged as a line, then the levels under the measure.
abbrev pub judged_content : MeasureKind → List Vertex → List Level → Result (Unit {0}) Fault
judged_content me vs ls = then (judged_line vs) (λ _. judged_levels (measure_largest me) ContentLayer ls)

-- The content of the three records: measure and price are looked up first, then come the vertices, then the levels.
abbrev pub content_in : List ℕ → Layout → Result Content Fault
content_in bs l =
    known (measure_numbered (slice_index bs 6)) (fault Unknown ContentLayer 0) (λ me.
    known (price_numbered (slice_index bs 7)) (fault Unknown ContentLayer 1) (λ pr.
    then (judged_content me (vertices_in bs l) (levels_in bs l)) (λ _.
    Ok (record { measure = me; price = pr; vertices = vertices_in bs l; levels = levels_in bs l }))))

-- A job pack: structure, then bytes left over, then content.
abbrev pub job_in : List ℕ → Result Content Fault
job_in bs = then (layout_in bs) (λ l. cond (l.end == length bs) (content_in bs l) (Err (fault LeftOver Pack l.end)))

-- The beginning of a family pack: structure, then content; with it goes where the rest starts.
abbrev pub head_in : List ℕ → Result (Content × ℕ) Fault
head_in bs = then (layout_in bs) (λ l. then (content_in bs l) (λ j. Ok (j, l.end)))

-- A job pack is accepted exactly when it is the encoding of a lawful job.
pub record AcceptsJobs (bs : List ℕ) : Type 0 where
  pub exactly : (j : Content) → (job_in bs ≡ Ok j) ↔ (LawfulContent j × (bs ≡ encoded j))

-- The beginning of a family pack is accepted exactly when the bytes begin with the encoding of a lawful job.
pub record AcceptsHeads (bs : List ℕ) : Type 0 where
  pub exactly : (j : Content) (end : ℕ) → (head_in bs ≡ Ok (j, end)) ↔ (LawfulContent j × (end ≡ length (encoded j)) × ((rest : List ℕ) × (bs ≡ encoded j ++ rest)))

-- The summary of a job that the readers answer.
abbrev pub summary : Content → Job
summary j = record { measure = j.measure; price = j.price; vertices = length j.vertices; levels = length j.levels }

-- What a reader answers.
abbrev pub summed_up : Result Content Fault → Result Job Fault
summed_up r = then r (λ j. Ok (summary j))

-- The same, with where the rest starts.
abbrev pub summed_up_to : Result (Content × ℕ) Fault → Result (Job × ℕ) Fault
summed_up_to r = then r (λ h. Ok (summary h.0, h.1))

-- The content that was read, without where the rest starts.
abbrev pub content_of : Result (Content × ℕ) Fault → Result Content Fault
content_of r = then r (λ h. Ok h.0)

-- The vertices of a place after reading: those read stand in front, the rest is as before; a refusal leaves all.
abbrev pub placed_vertices : Result Content Fault → List Vertex → List Vertex
placed_vertices (Ok j) vs = j.vertices ++ drop (length j.vertices) vs
placed_vertices (Err e) vs = vs

-- The levels of a place after reading, likewise.
abbrev pub placed_levels : Result Content Fault → List Level → List Level
placed_levels (Ok j) ls = j.levels ++ drop (length j.levels) ls
placed_levels (Err e) ls = ls
