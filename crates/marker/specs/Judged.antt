-- Judging accepts exactly families. Assumes nothing.
use Rattle.std.specs.Prelude.{◌≡◌, ℕ, ◌≤◌, Bool, ◌↔◌, List, length, Ok}
use Rattle.std.specs.List.{AllByRecursion}
use Rattle.families.specs.Family.{Family}
use Rattle.lines.specs.Level.{level_of}
use Rattle.lines.specs.declared.level.Level.{Level}
use Rattle.marker.specs.Records.{chain_of}
use Rattle.marker.specs.Judge.{judged_chains}

-- Chains that are not empty, one per level, are judged without a fault exactly when they are a family.
abbrev pub JudgesFamilies : Type 0
JudgesFamilies =
    (allowed : ℕ → ℕ → ℕ → Bool) (n : ℕ) (chains : List (List ℕ)) (ls : List Level) → 1 ≤ n → length chains ≡ length ls → AllByRecursion (λ c. 1 ≤ length c) chains →
    (judged_chains allowed n chains ls ≡ Ok tt) ↔ Family (λ k i j. allowed (level_of ls k).tolerance i j) (length ls) n (chain_of chains)
