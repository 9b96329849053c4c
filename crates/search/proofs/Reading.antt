-- What is read off a filled price table. Assumes nothing.
use Rattle.std.proofs.Common.{◌≡◌, ℕ, zero, suc, ◌+◌, ◌<◌, ◌≤◌, Bool, true, cond, List, get_or, sym, refl, ap, ◌∙◌, arith}
use Rattle.std.proofs.lemmas.Bool.{le-leb, lt-ltb}
use Rattle.families.specs.Price.{Kind}
use Rattle.families.specs.Least.{L}
use Rattle.families.proofs.LeastTotal.{L_zero}
use Rattle.tables.specs.Price.{row, has_cell, price_at}
use Rattle.tables.specs.Row.{TableHolds}

module _ {P : Type 0} (K : Kind P) (price : ℕ → ℕ → ℕ → P) (allowed : ℕ → ℕ → ℕ → Bool) (cells : List P) (n m : ℕ) (whole : TableHolds K price allowed cells n m) where
  -- a table that holds the least totals reads them, and neutral at level 0
  pub reads : (k i j : ℕ) → k ≤ m → i < n → j < n → price_at K.neutral cells n k i j ≡ L K price allowed k i j
  reads zero i j a b c = sym (L_zero K price allowed i j)
  reads (suc k) i j a b c =
      let has : has_cell n (suc k) i j ≡ true = rw (le-leb 1 (suc k) (omega arith), lt-ltb i n b, lt-ltb j n c) refl in
      ap (λ x. cond x (get_or cells (row n (suc k) i + j) K.neutral) K.neutral) has ∙ whole (suc k) i (omega arith) a b j c
