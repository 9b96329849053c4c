-- Families of chains and what they cost. Assumes nothing.
use Rattle.std.specs.Prelude.{ℕ, zero, suc, ◌<◌, ◌≤◌, Bool, T, List, [], ◌∷◌}
use Rattle.std.specs.List.{AllByRecursion}
use Rattle.families.specs.Price.{Kind}
use Rattle.families.specs.Chain.{Chain, Has, links}

-- A family has one chain per level, 1 to m. `allowed k i j` says whether level k allows the link i → j.
pub record Family (allowed : ℕ → ℕ → ℕ → Bool) (m n : ℕ) (chain : ℕ → List ℕ) : Type 0 where
  -- each chain rises strictly from 0 to n - 1
  pub chains : (k : ℕ) → 1 ≤ k → k ≤ m → Chain n (chain k)
  -- each coarser chain uses only vertices of the next finer one
  pub nested : (k : ℕ) → 1 ≤ k → k < m → (v : ℕ) → Has (chain (suc k)) v → Has (chain k) v
  -- each link is allowed at its level
  pub links_allowed : (k : ℕ) → 1 ≤ k → k ≤ m → AllByRecursion (λ l. T (allowed k l.0 l.1)) (links (chain k))

-- `price k i j` is what the link i → j costs at level k.
module _ {P : Type 0} (K : Kind P) (price : ℕ → ℕ → ℕ → P) where
  -- The prices of links at level k, joined.
  abbrev pub cost : ℕ → List (ℕ × ℕ) → P
  cost k [] = K.neutral
  cost k (l ∷ ls) = K.join (price k l.0 l.1) (cost k ls)

  -- The total of a family of m levels: the prices of all links of all its chains, joined.
  abbrev pub total : ℕ → (ℕ → List ℕ) → P
  total zero chain = K.neutral
  total (suc m) chain = K.join (cost (suc m) (links (chain (suc m)))) (total m chain)
