-- Numbers that are written at a place of a list. Assumes nothing.
use Rattle.std.specs.Prelude.{◌≡◌, ℕ, ◌+◌, List, ◌++◌, length, take, drop}

-- The numbers xs stand from place `at` on, up to `end`; the others are as before.
pub record Wrote (at : ℕ) (before after xs : List ℕ) (end : ℕ) : Type 0 where
  pub ends : end ≡ at + length xs
  pub whole : after ≡ take at before ++ (xs ++ drop end before)
