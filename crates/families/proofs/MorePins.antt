-- With more pins the least total is no cheaper. Assumes nothing.
use Rattle.std.proofs.Common.{ℕ, suc, ◌-◌, Bool, T, List, arith}
use Rattle.families.specs.Price.{Kind, Rules, NotDearer}
use Rattle.families.specs.Chain.{Has}
use Rattle.families.specs.Pin.{clear, pinned}
use Rattle.families.specs.Least.{L}
use Rattle.families.specs.Theorems.{NextAllowed}
use Rattle.families.proofs.Bools.{both, left, right}
use Rattle.families.proofs.Pinning.{clear_says, says_clear}
use Rattle.families.proofs.Tighter.{no_cheaper}

-- the link to the next vertex skips nothing
pub clear_next : (pins : List ℕ) (i : ℕ) → T (clear pins i (suc i))
clear_next pins i = says_clear pins i (suc i) (λ p o s. absurd (omega (arith, s.0, s.1)))

module _ {P : Type 0} {K : Kind P} (rules : Rules K) (price : ℕ → ℕ → ℕ → P) (allowed : ℕ → ℕ → ℕ → Bool) (m n : ℕ)
    (near : NextAllowed allowed m n)
    (fewer more : List ℕ) (sub : (p : ℕ) → Has fewer p → Has more p) where
  pub more_pins : NotDearer K (L K price (pinned fewer allowed) m 0 (n - 1)) (L K price (pinned more allowed) m 0 (n - 1))
  more_pins =
      no_cheaper rules price (pinned fewer allowed) (pinned more allowed) m n
      (λ k i a b c. both (allowed k i (suc i)) (clear more i (suc i)) (near k i a b c) (clear_next more i))
      (λ k i j _ _ _ _ t. both (allowed k i j) (clear fewer i j) (left (allowed k i j) (clear more i j) t)
      (says_clear fewer i j (λ p o. clear_says more i j (right (allowed k i j) (clear more i j) t) p (sub p o))))
