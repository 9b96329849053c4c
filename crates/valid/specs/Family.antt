-- Valid family packs in memory. Assumes nothing.
use Rattle.std.specs.Prelude.{◌≡◌, ℕ, ◌≤◌, List, length, take, map, Ok, Err, Result}
use Rattle.std.specs.List.{concat}
use Rattle.lines.specs.declared.fault.Fault.{Fault}
use Rattle.packs.specs.Job.{summary}
use Rattle.marker.specs.Pack.{pack_marked, ValidPack}
use Rattle.valid.specs.declared.family.ValidFamily.{ValidFamily}

-- The bytes are a valid family pack with the family's total; its vertices and levels lie in the place of the job, and its chains, end to
-- end and the finest first, in that of the chains.
pub record ReadValid (bs : List ℕ) (f : ValidFamily) : Type 0 where
  pub valid : ValidPack bs f.total
  pub job_is : f.job ≡ summary valid.job
  pub few : (f.job.vertices ≤ 256) × (f.job.levels ≤ 8)
  pub vertices_are : take f.job.vertices f.place.vertices ≡ valid.job.vertices
  pub levels_are : take f.job.levels f.place.levels ≡ valid.job.levels
  pub numbers_inside : f.vertices ≤ length f.chains.numbers
  pub numbers_are : take f.vertices f.chains.numbers ≡ concat valid.chains
  pub counts_are : take f.job.levels f.chains.counts ≡ map length valid.chains

-- What is answered for bytes: the family, or exactly the marker's fault.
abbrev pub ReadsValid : List ℕ → Result ValidFamily Fault → Type 0
ReadsValid bs (Ok f) = ReadValid bs f
ReadsValid bs (Err e) = pack_marked bs ≡ Err e
