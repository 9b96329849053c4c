-- The level records of a sheet, and how one of them is retuned. Assumes nothing.
use Rattle.std.specs.Prelude.{ℕ, ◌+◌, ◌-◌, ◌≤◌, Bool, cond, ◌&&◌, ◌||◌, List, length, Ok, Err, Result, nat_le, nat_lt, slice_set}
use Rattle.lines.specs.Fault.{fault}
use Rattle.lines.specs.Level.{level, level_of, LawfulLevels}
use Rattle.lines.specs.declared.fault.Fault.{Fault}
use Rattle.lines.specs.declared.fault.Cause.TheVariants.{Tolerance, Level as NoLevel}
use Rattle.lines.specs.declared.fault.Layer.TheVariants.{Sheet}
use Rattle.lines.specs.declared.level.Level.{Level}

-- t lies above the tolerance of the next finer level, below that of the next coarser one, and not above the largest.
abbrev pub fits : ℕ → List Level → ℕ → ℕ → Bool
fits largest ls k t =
    (nat_le k 1 || nat_lt (level_of ls (k - 1)).tolerance t) &&
    ((nat_le (length ls) k || nat_lt t (level_of ls (k + 1)).tolerance) && nat_le t largest)

-- What retuning level k to the tolerance t answers: there must be such a level, and then t must fit between its neighbours.
abbrev pub retune_answer : ℕ → List Level → ℕ → ℕ → Result (Unit {0}) Fault
retune_answer largest ls k t =
    cond (nat_le 1 k && nat_le k (length ls)) (cond (fits largest ls k t) (Ok tt) (Err (fault Tolerance Sheet k))) (Err (fault NoLevel Sheet k))

-- The levels with the tolerance t at level k.
abbrev pub retuned : List Level → ℕ → ℕ → List Level
retuned ls k t = slice_set ls (k - 1) (level t (level_of ls k).weight)

-- There is a level k, and the levels are lawful with the tolerance t at it.
pub record Retunable (largest : ℕ) (ls : List Level) (k t : ℕ) : Type 0 where
  pub is_level : (1 ≤ k) × (k ≤ length ls)
  pub lawful_after : LawfulLevels largest (retuned ls k t)
