-- Where less is allowed, L is no cheaper. Assumes nothing.
use Rattle.std.proofs.Common.{ℕ, zero, suc, ◌-◌, ◌<◌, ◌≤◌, Bool, T, arith}
use Rattle.families.specs.Price.{Kind, Rules, NotDearer}
use Rattle.families.specs.Least.{L}
use Rattle.families.specs.Theorems.{NextAllowed}
use Rattle.families.proofs.Algebra.{Leq, le_tr, le_rfl, le_join, is}
use Rattle.families.proofs.LeastTotal.{L_zero, L_end, L_at, L_le}
use Rattle.families.proofs.Onward.{towards}

module _ {P : Type 0} {K : Kind P} (rules : Rules K) (price : ℕ → ℕ → ℕ → P) (loose tight : ℕ → ℕ → ℕ → Bool) (m n : ℕ)
    (near : NextAllowed tight m n)
    (sub : (k i j : ℕ) → 1 ≤ k → k ≤ m → i < j → j < n → T (tight k i j) → T (loose k i j)) where
  tighter : (k : ℕ) → k ≤ m → (i j : ℕ) → i ≤ j → j ≤ n - 1 → Leq K (L K price loose k i j) (L K price tight k i j)
  tighter zero q i j h u = rw (L_zero K price loose i j, L_zero K price tight i j) (le_rfl rules K.neutral)
  tighter (suc k) q i j h u =
      towards j (λ i. Leq K (L K price loose (suc k) i j) (L K price tight (suc k) i j))
      (rw (L_end K price loose (suc k) j j (omega arith), L_end K price tight (suc k) j j (omega arith)) (le_rfl rules K.neutral))
      (step (tighter k (omega arith))) i h
    where
      step : ((i j : ℕ) → i ≤ j → j ≤ n - 1 → Leq K (L K price loose k i j) (L K price tight k i j)) →
          (i : ℕ) → i < j → ((v : ℕ) → i < v → v ≤ j → Leq K (L K price loose (suc k) v j) (L K price tight (suc k) v j)) →
          Leq K (L K price loose (suc k) i j) (L K price tight (suc k) i j)
      step below i h ih =
          let s = L_at K price tight k i j h (near (suc k) i (omega arith) q (omega arith)) in
          let v = s.0 in
          le_tr rules (L_le rules price loose k i j v s.1 s.2 (sub (suc k) i v (omega arith) q s.1 (omega (arith, s.2)) s.3))
          (le_tr rules
          (le_join rules (le_join rules (le_rfl rules (price (suc k) i v)) (below i v (omega (arith, s.1)) (omega (arith, s.2))))
          (ih v s.1 s.2))
          (is rules s.4).from)

  pub no_cheaper : NotDearer K (L K price loose m 0 (n - 1)) (L K price tight m 0 (n - 1))
  no_cheaper = (tighter m (omega arith) 0 (n - 1) (omega arith) (omega arith)).le

module _ {P : Type 0} {K : Kind P} (rules : Rules K) (price : ℕ → ℕ → ℕ → P) (yes' : ℕ → ℕ → ℕ → Bool) (m n largest : ℕ)
    (near : (t i : ℕ) → t ≤ largest → suc i < n → T (yes' t i (suc i)))
    (rise : (t u i j : ℕ) → t ≤ u → u ≤ largest → T (yes' t i j) → T (yes' u i j))
    (low high : ℕ → ℕ) (lower : (k : ℕ) → 1 ≤ k → k ≤ m → (low k ≤ high k) × (high k ≤ largest)) where
  pub lower_no_cheaper : NotDearer K (L K price (λ k i j. yes' (high k) i j) m 0 (n - 1))
      (L K price (λ k i j. yes' (low k) i j) m 0 (n - 1))
  lower_no_cheaper =
      no_cheaper rules price (λ k i j. yes' (high k) i j) (λ k i j. yes' (low k) i j) m n
      (λ k i a b c. let l = lower k a b in near (low k) i (omega arith) c)
      (λ k i j a b c d t. let l = lower k a b in rise (low k) (high k) i j l.0 l.1 t)
