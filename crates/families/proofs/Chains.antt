-- How many numbers a chain has, and how large they are. Assumes nothing.
use Rattle.std.proofs.Common.{ℕ, ◌+◌, ◌-◌, ◌<◌, ◌≤◌, List, [], ◌∷◌, length, arith}
use Rattle.std.specs.List.{AllByRecursion}
use Rattle.families.specs.Chain.{Rises, Chain}

rises_length : (i j : ℕ) (vs : List ℕ) → Rises i j vs → i + length vs ≤ j
rises_length i j [] r = omega arith
rises_length i j (v ∷ vs) r = let l = r.0 in let k = rises_length v j vs r.1 in omega arith

-- a chain has at least its two ends, and at most every vertex
pub chain_length : (n : ℕ) (c : List ℕ) → Chain n c → 2 ≤ n → (2 ≤ length c) × (length c ≤ n)
chain_length n [] r h = absurd r
chain_length n (v ∷ []) r h = let a = r.0 in let b = r.1 in absurd (omega arith)
chain_length n (v ∷ w ∷ ws) r h = let k = rises_length v (n - 1) (w ∷ ws) r.1 in (omega arith, omega arith)

rises_below : (i j m : ℕ) (vs : List ℕ) → Rises i j vs → j < m → AllByRecursion (λ v. v < m) (i ∷ vs)
rises_below i j m [] r h = (omega arith, tt)
rises_below i j m (w ∷ ws) r h =
    let l = r.0 in let k = rises_below w j m ws r.1 h in let b = k.0 in (omega arith, k)

-- its numbers are vertices of the line
pub chain_below : (n : ℕ) (c : List ℕ) → Chain n c → 1 ≤ n → AllByRecursion (λ v. v < n) c
chain_below n [] r h = absurd r
chain_below n (v ∷ vs) r h = rises_below v (n - 1) n vs r.1 (omega arith)
