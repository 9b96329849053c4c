-- Writing the pack of a job: when it is refused, and what stands in the bytes. Assumes nothing.
use Rattle.std.specs.Prelude.{◌≡◌, ℕ, ◌+◌, ◌*◌, ◌≤◌, cond, List, ◌++◌, length, drop, Ok, Err, Result, nat_le}
use Rattle.lines.specs.Fault.{fault, then}
use Rattle.lines.specs.Level.{LawfulLevels, judged_count, judged_levels}
use Rattle.lines.specs.declared.fault.Fault.{Fault}
use Rattle.lines.specs.declared.fault.Cause.TheVariants.{Unknown, Memory}
use Rattle.lines.specs.declared.fault.Layer.TheVariants.{Pack}
use Rattle.lines.specs.declared.level.Level.{Level}
use Rattle.lines.specs.declared.vertex.Vertex.{Vertex}
use Rattle.packs.specs.declared.kind.MeasureKind.{MeasureKind}
use Rattle.packs.specs.declared.kind.PriceKind.{PriceKind}
use Rattle.packs.specs.Kind.{measure_number, price_number, measure_numbered, price_numbered, measure_largest}
use Rattle.packs.specs.Job.{Content, encoded, job_in, known}

-- What a job says.
abbrev pub content : MeasureKind → PriceKind → List Vertex → List Level → Content
content measure price vs ls = record { measure = measure; price = price; vertices = vs; levels = ls }

-- The measure and the price with their numbers, or the first fault: the number of levels is judged, then the measure and the price are looked up,
-- then the levels are judged one by one.
abbrev pub judged_job : ℕ → ℕ → List Level → Result (MeasureKind × PriceKind) Fault
judged_job measure price ls =
    then (judged_count Pack (length ls)) (λ _.
    known (measure_numbered measure) (fault Unknown Pack 0) (λ me.
    known (price_numbered price) (fault Unknown Pack 1) (λ pr.
    then (judged_levels (measure_largest me) Pack ls) (λ _. Ok (me, pr)))))

-- The memory is judged last: it must have room for the pack.
abbrev pub fitting : ℕ → List ℕ → Result (List ℕ) Fault
fitting room pack = cond (nat_le (length pack) room) (Ok pack) (Err (fault Memory Pack 3))

-- The pack that is written into so much memory, or the first fault.
abbrev pub job_pack : ℕ → ℕ → List Vertex → List Level → ℕ → Result (List ℕ) Fault
job_pack measure price vs ls room = then (judged_job measure price ls) (λ k. fitting room (encoded (content k.0 k.1 vs ls)))

-- What is answered: how many bytes the pack takes.
abbrev pub size_answered : Result (List ℕ) Fault → Result ℕ Fault
size_answered pack = then pack (λ bs. Ok (length bs))

-- The bytes after: the pack and then the rest as before; after a refusal all as before.
abbrev pub bytes_after : Result (List ℕ) Fault → List ℕ → List ℕ
bytes_after (Ok pack) before = pack ++ drop (length pack) before
bytes_after (Err f) before = before

-- How many bytes the pack of a job of n vertices and m levels takes.
abbrev pub job_size : ℕ → ℕ → ℕ
job_size n m = 20 + 4 * n + 8 * m

-- A job that can be written: 1 to 8 levels, the numbers of a measure and a price, levels that are lawful under the measure, and room for a pack of this size.
pub record WritableJob (measure price : ℕ) (ls : List Level) (size room : ℕ) : Type 0 where
  pub count : (1 ≤ length ls) × (length ls ≤ 8)
  pub measure_kind : MeasureKind
  pub price_kind : PriceKind
  pub same_measure : measure_number measure_kind ≡ measure
  pub same_price : price_number price_kind ≡ price
  pub levels_lawful : LawfulLevels (measure_largest measure_kind) ls
  pub room_for : size ≤ room

-- The bytes are read as the job with these numbers of a measure and a price, these vertices and these levels.
pub record ReadAsJob (measure price : ℕ) (vs : List Vertex) (ls : List Level) (bs : List ℕ) : Type 0 where
  pub job : Content
  pub read : job_in bs ≡ Ok job
  pub same_measure : measure_number job.measure ≡ measure
  pub same_price : price_number job.price ≡ price
  pub same_line : job.vertices ≡ vs
  pub same_levels : job.levels ≡ ls

-- Exactly the bytes bs are written, and the rest is as before.
pub record Writes (bs before after : List ℕ) (answer : Result ℕ Fault) : Type 0 where
  pub answered : answer ≡ Ok (length bs)
  pub bytes : after ≡ bs ++ drop (length bs) before
