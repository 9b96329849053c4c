-- The vertex after another on a chain. Assumes nothing.
use Rattle.std.specs.Prelude.{ℕ, ◌<◌, ◌≤◌, List, Some, None, Option}
use Rattle.families.specs.Chain.{Has}

-- The answer is the smallest vertex of the chain above v; none is answered when the chain has no vertex above v.
abbrev pub NextOnChain : List ℕ → ℕ → Option ℕ → Type 0
NextOnChain chain v (Some w) = Has chain w × (v < w) × ((u : ℕ) → Has chain u → v < u → w ≤ u)
NextOnChain chain v None = (u : ℕ) → Has chain u → v < u → ⊥
