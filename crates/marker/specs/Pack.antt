-- Marking a whole family pack, under the measure and the price with its numbers. Assumes nothing.
use Rattle.std.specs.Prelude.{◌≡◌, ℕ, ◌↔◌, List, ◌++◌, length, take, drop, Ok, Result}
use Rattle.families.specs.Family.{Family, total}
use Rattle.lines.specs.Fault.{then}
use Rattle.lines.specs.Line.{judged_line}
use Rattle.lines.specs.declared.fault.Fault.{Fault}
use Rattle.lines.specs.declared.level.Level.{Level}
use Rattle.lines.specs.declared.vertex.Vertex.{Vertex}
use Rattle.measures.specs.Measure.{Answer, allowed_by}
use Rattle.measures.specs.Segment.{segment}
use Rattle.measures.specs.Strip.{strip}
use Rattle.measures.specs.Area.{area}
use Rattle.prices.specs.Price.{price_by}
use Rattle.prices.specs.Count.{count_kind, count_link}
use Rattle.prices.specs.CountThenArea.{count_then_area_kind, count_then_area_link}
use Rattle.packs.specs.declared.kind.MeasureKind.{MeasureKind}
use Rattle.packs.specs.declared.kind.MeasureKind.TheVariants.{Segment, Strip, Area}
use Rattle.packs.specs.declared.kind.PriceKind.{PriceKind}
use Rattle.packs.specs.declared.kind.PriceKind.TheVariants.{Count, CountThenArea}
use Rattle.packs.specs.declared.job.Job.{Job}
use Rattle.packs.specs.Kind.{measure_largest}
use Rattle.packs.specs.Job.{Content, LawfulContent, encoded, head_in}
use Rattle.marker.specs.Records.{family_records, chain_of}
use Rattle.marker.specs.Marker.{marked}

-- What each measure says.
abbrev pub measure_says : MeasureKind → Answer
measure_says Segment = segment
measure_says Strip = strip
measure_says Area = area

-- The form of the total of chains under each price.
abbrev pub total_form : PriceKind → List Vertex → List Level → List (List ℕ) → ℕ × ℕ
total_form Count vs ls chains = count_kind.form (total count_kind (price_by count_link vs ls) (length ls) (chain_of chains))
total_form CountThenArea vs ls chains = count_then_area_kind.form (total count_then_area_kind (price_by count_then_area_link vs ls) (length ls) (chain_of chains))

-- What marking under each price answers, as a form.
abbrev pub form_marked : PriceKind → ℕ → Answer → List Vertex → List Level → List ℕ → Result (ℕ × ℕ) Fault
form_marked Count largest says vs ls bs = then (marked count_kind count_link largest says vs ls bs) (λ p. Ok (count_kind.form p))
form_marked CountThenArea largest says vs ls bs = then (marked count_then_area_kind count_then_area_link largest says vs ls bs) (λ p. Ok (count_then_area_kind.form p))

-- What marking a job's records under its measure and price answers.
abbrev pub job_marked : Content → List ℕ → Result (ℕ × ℕ) Fault
job_marked j bs = form_marked j.price (measure_largest j.measure) (measure_says j.measure) j.vertices j.levels bs

-- What marking records answers for a job that lies in a place: its vertices are made a line first.
abbrev pub place_marked : List Vertex → List Level → Job → List ℕ → Result (ℕ × ℕ) Fault
place_marked vs ls job bs =
    then (judged_line (take job.vertices vs)) (λ _.
    form_marked job.price (measure_largest job.measure) (measure_says job.measure) (take job.vertices vs) (take job.levels ls) bs)

-- What marking a pack answers: the job is read first, then the rest is marked.
abbrev pub pack_marked : List ℕ → Result (ℕ × ℕ) Fault
pack_marked bs = then (head_in bs) (λ h. job_marked h.0 (drop h.1 bs))

-- The bytes are the records of a lawful job followed by those of a family under its measure and price, and f is the form of its total.
pub record ValidPack (bs : List ℕ) (f : ℕ × ℕ) : Type 0 where
  pub job : Content
  pub chains : List (List ℕ)
  pub lawful : LawfulContent job
  pub bytes : bs ≡ encoded job ++ family_records chains f
  pub chain_count : length chains ≡ length job.levels
  pub family : Family (allowed_by (measure_says job.measure) job.vertices job.levels) (length job.levels) (length job.vertices) (chain_of chains)
  pub formed : f ≡ total_form job.price job.vertices job.levels chains

-- A pack is marked valid exactly when it is one.
pub record MarksPacks (bs : List ℕ) : Type 0 where
  pub exactly : (f : ℕ × ℕ) → (pack_marked bs ≡ Ok f) ↔ ValidPack bs f
