-- The levels of a job. Assumes nothing.
use Rattle.std.specs.Prelude.{ℕ, suc, ◌+◌, ◌-◌, ◌<◌, ◌≤◌, cond, ◌&&◌, List, [], ◌∷◌, length, get_or, Ok, Err, Result, nat_le, slice_index_or}
use Rattle.lines.specs.declared.fault.Fault.{Fault}
use Rattle.lines.specs.declared.fault.Cause.TheVariants.{Limits, Tolerance, Weight}
use Rattle.lines.specs.declared.fault.Layer.{Layer}
use Rattle.lines.specs.declared.level.Level.{Level}
use Rattle.lines.specs.Fault.{fault}

-- The level with tolerance t and weight w.
abbrev pub level : ℕ → ℕ → Level
level t w = record { tolerance = t; weight = w }

-- Level k of a job, counted from 1.
abbrev pub level_of : List Level → ℕ → Level
level_of ls k = slice_index_or ls (k - 1) (level 0 0)

-- The levels are lawful under a measure's largest tolerance: tolerances rise strictly and none is above the largest,
-- and weights are 1 to 1,000.
pub record LawfulLevels (largest : ℕ) (ls : List Level) : Type 0 where
  pub rising : (i : ℕ) → suc i < length ls → (get_or ls i (level 0 0)).tolerance < (get_or ls (suc i) (level 0 0)).tolerance
  pub bounded : (i : ℕ) → i < length ls → (get_or ls i (level 0 0)).tolerance ≤ largest
  pub weighted : (i : ℕ) → i < length ls → (1 ≤ (get_or ls i (level 0 0)).weight) × ((get_or ls i (level 0 0)).weight ≤ 1000)

-- The levels ls, the first of them level k, no tolerance below `least`: judged one by one, tolerance before weight.
abbrev pub judged_from : ℕ → Layer → ℕ → ℕ → List Level → Result (Unit {0}) Fault
judged_from largest layer k least [] = Ok tt
judged_from largest layer k least (l ∷ ls) =
    cond (nat_le least l.tolerance && nat_le l.tolerance largest)
    (cond (nat_le 1 l.weight && nat_le l.weight 1000) (judged_from largest layer (k + 1) (l.tolerance + 1) ls) (Err (fault Weight layer k)))
    (Err (fault Tolerance layer k))

-- What judging all levels answers: the first fault, found by `layer`.
abbrev pub judged_levels : ℕ → Layer → List Level → Result (Unit {0}) Fault
judged_levels largest layer ls = judged_from largest layer 1 0 ls

-- A job has 1 to 8 levels; any other number of them is out of limits.
abbrev pub judged_count : Layer → ℕ → Result (Unit {0}) Fault
judged_count layer m = cond (nat_le 1 m && nat_le m 8) (Ok tt) (Err (fault Limits layer 1))
