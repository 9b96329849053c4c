-- Writing the pack of a family: when it is refused, and what stands in the bytes. Assumes nothing.
use Rattle.std.specs.Prelude.{◌≡◌, ℕ, ◌+◌, ◌*◌, ◌<◌, ◌≤◌, cond, ◌&&◌, List, [], ◌∷◌, ◌++◌, length, take, drop, sum, Ok, Err, Result, ◌==◌, nat_le, slice_index}
use Rattle.lines.specs.Fault.{fault, then}
use Rattle.lines.specs.declared.fault.Fault.{Fault}
use Rattle.lines.specs.declared.fault.Cause.TheVariants.{WrongLength}
use Rattle.lines.specs.declared.fault.Layer.TheVariants.{Pack}
use Rattle.lines.specs.declared.level.Level.{Level}
use Rattle.lines.specs.declared.vertex.Vertex.{Vertex}
use Rattle.packs.specs.Kind.{measure_number, price_number}
use Rattle.packs.specs.Job.{Content, encoded, head_in}
use Rattle.marker.specs.Records.{family_records}
use Rattle.marker.specs.Reader.{family_in}
use Rattle.writer.specs.Job.{content, judged_job, fitting, job_size, WritableJob}
use Rattle.writer.specs.declared.family.Family.{Family}

-- The chains that lie end to end, each as long as its count.
abbrev pub chains_of : List ℕ → List ℕ → List (List ℕ)
chains_of [] numbers = []
chains_of (c ∷ cs) numbers = take c numbers ∷ chains_of cs (drop c numbers)

-- The counts of the chains from level k on: each is 2 to n.
abbrev pub counts_from : ℕ → ℕ → List ℕ → Result (Unit {0}) Fault
counts_from n k [] = Ok tt
counts_from n k (c ∷ cs) = cond (nat_le 2 c && nat_le c n) (counts_from n (k + 1) cs) (Err (fault WrongLength Pack k))

-- What judging the counts answers: there must be one for each of m levels, they must add up to the chain vertices that are given, and each must be 2 to n.
abbrev pub judged_counts : ℕ → ℕ → List ℕ → ℕ → Result (Unit {0}) Fault
judged_counts n m counts given = cond (length counts == m && sum counts == given) (counts_from n 1 counts) (Err (fault WrongLength Pack 0))

-- There is a count for each of m levels, each is 2 to n, and together they are the chain vertices that are given.
pub record CountsFit (n m : ℕ) (counts : List ℕ) (given : ℕ) : Type 0 where
  pub number : length counts ≡ m
  pub adds_up : sum counts ≡ given
  pub each : (i : ℕ) → i < length counts → (2 ≤ slice_index counts i) × (slice_index counts i ≤ n)

-- The records of a family: its chains, the finest first, and its total.
abbrev pub records_of : Family → List ℕ
records_of f = family_records (chains_of f.counts.now f.chains.now) f.total

-- The pack that is written into so much memory, or the first fault.
abbrev pub family_pack : ℕ → ℕ → List Vertex → List Level → Family → ℕ → Result (List ℕ) Fault
family_pack measure price vs ls f room =
    then (judged_job measure price ls) (λ k.
    then (judged_counts (length vs) (length ls) f.counts.now (length f.chains.now)) (λ _.
    fitting room (encoded (content k.0 k.1 vs ls) ++ records_of f)))

-- How many bytes the pack of a family takes, for n vertices, m levels and so many chain vertices.
abbrev pub family_size : ℕ → ℕ → ℕ → ℕ
family_size n m vertices = job_size n m + (6 * m + 2 * vertices) + 18

-- A family that can be written: its job can be, its counts fit, and there is room for its pack.
pub record WritableFamily (measure price n : ℕ) (ls : List Level) (f : Family) (room : ℕ) : Type 0 where
  pub job : WritableJob measure price ls (family_size n (length ls) (length f.chains.now)) room
  pub counts_fit : CountsFit n (length ls) f.counts.now (length f.chains.now)

-- The bytes are read as the job with these numbers of a measure and a price, these vertices and these levels, and then as these chains and this total.
pub record ReadAsFamily (measure price : ℕ) (vs : List Vertex) (ls : List Level) (chains : List (List ℕ)) (total : ℕ × ℕ) (bs : List ℕ) : Type 0 where
  pub job : Content
  pub end : ℕ
  pub read : head_in bs ≡ Ok (job, end)
  pub same_measure : measure_number job.measure ≡ measure
  pub same_price : price_number job.price ≡ price
  pub same_line : job.vertices ≡ vs
  pub same_levels : job.levels ≡ ls
  pub same_chains : family_in (length vs) (length ls) (drop end bs) ≡ Ok (chains, total)
