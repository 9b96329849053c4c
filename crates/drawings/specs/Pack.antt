-- Drawing a job: what a drawing shows, and what is answered for the bytes of a job pack. Assumes nothing.
use Rattle.std.specs.Prelude.{◌≡◌, ℕ, ◌≤◌, List, length, Ok, Err, vec_items, Result}
use Rattle.families.specs.Price.{Kind}
use Rattle.lines.specs.Level.{LawfulLevels}
use Rattle.lines.specs.declared.level.Level.{Level}
use Rattle.lines.specs.declared.vertex.Vertex.{Vertex}
use Rattle.measures.specs.Measure.{Answer, allowed_by}
use Rattle.prices.specs.Price.{LinkPrice, price_by}
use Rattle.prices.specs.Count.{count_kind, count_link}
use Rattle.prices.specs.CountThenArea.{count_then_area_kind, count_then_area_link}
use Rattle.packs.specs.declared.kind.PriceKind.{PriceKind}
use Rattle.packs.specs.declared.kind.PriceKind.TheVariants.{Count, CountThenArea}
use Rattle.packs.specs.Job.{Content, LawfulContent, encoded, job_in}
use Rattle.marker.specs.Pack.{measure_says}
use Rattle.search.specs.Search.{Least}
use Rattle.drawings.specs.declared.drawing.Drawing.{Drawing}
use Rattle.drawings.specs.declared.drawing.DrawError.{DrawError}
use Rattle.drawings.specs.declared.drawing.DrawError.TheVariants.{Refused, OutOfMemory}

-- The drawing shows the first least family of a line: one stay for each vertex, the chains read off them are that family, and the form is that of its total.
pub record Shows {P : Type 0} (K : Kind P) (link : LinkPrice P) (says : Answer) (vs : List Vertex) (ls : List Level) (d : Drawing) : Type 0 where
  pub level_count : d.levels ≡ length ls
  pub stay_count : length (vec_items d.stays) ≡ length vs
  pub sum : P
  pub least : Least K (price_by link vs ls) (allowed_by says vs ls) (length ls) (length vs) (vec_items d.stays) sum
  pub formed : d.form ≡ K.form sum

-- There are 1 to 8 levels, lawful under a measure's largest tolerance.
pub record Drawable (largest : ℕ) (ls : List Level) : Type 0 where
  pub count : (1 ≤ length ls) × (length ls ≤ 8)
  pub levels_lawful : LawfulLevels largest ls

-- A value is made and is what it should be, or memory runs out; nothing is refused.
abbrev pub Made : {X : Type 0} → (X → Type 0) → Result X DrawError → Type 0
Made Right (Ok x) = Right x
Made Right (Err (Refused f)) = ⊥
Made Right (Err OutOfMemory) = Unit {0}

-- The drawing shows the first least family under the price with a number.
abbrev pub ShowsPriced : PriceKind → Answer → List Vertex → List Level → Drawing → Type 0
ShowsPriced Count says vs ls d = Shows count_kind count_link says vs ls d
ShowsPriced CountThenArea says vs ls d = Shows count_then_area_kind count_then_area_link says vs ls d

-- The bytes are the records of a lawful job, and the drawing shows its first least family under its measure and its price.
pub record Drawn (bs : List ℕ) (d : Drawing) : Type 0 where
  pub job : Content
  pub read : job_in bs ≡ Ok job
  pub lawful : LawfulContent job
  pub bytes : bs ≡ encoded job
  pub shown : ShowsPriced job.price (measure_says job.measure) job.vertices job.levels d

-- What is answered for the bytes of a job pack: its drawing, or exactly the reader's fault, or that memory ran out.
abbrev pub Draws : List ℕ → Result Drawing DrawError → Type 0
Draws bs (Ok d) = Drawn bs d
Draws bs (Err (Refused f)) = job_in bs ≡ Err f
Draws bs (Err OutOfMemory) = Unit {0}
