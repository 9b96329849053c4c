-- Numbers that rise. Assumes nothing.
use Rattle.std.proofs.Common.{ℕ, ◌<◌, ◌≤◌, eqb, List, [], ◌∷◌, Decides, sym, inl, inr, arith}
use Rattle.std.proofs.lemmas.Bool.{false≢true}
use Rattle.std.proofs.lemmas.Bool.Decides.{Decides-eqb, Decides-or}
use Rattle.families.specs.Chain.{Rises, Has, has}

-- none is below the first
pub rises_least : (i j v : ℕ) (vs : List ℕ) → Rises i j vs → Has (i ∷ vs) v → i ≤ v
rises_least i j v vs r (inl e) = omega arith
rises_least i j v [] r (inr h) = absurd h
rises_least i j v (w ∷ ws) r (inr h) = let l = r.0 in let k = rises_least w j v ws r.1 h in omega arith

-- none is above the last
pub rises_most : (i j v : ℕ) (vs : List ℕ) → Rises i j vs → Has (i ∷ vs) v → v ≤ j
rises_most i j v [] r (inl e) = omega arith
rises_most i j v [] r (inr h) = absurd h
rises_most i j v (w ∷ ws) r (inl e) = let l = r.0 in let k = rises_most w j w ws r.1 (inl (omega arith)) in omega arith
rises_most i j v (w ∷ ws) r (inr h) = rises_most w j v ws r.1 h

-- the end is not below the start
pub rises_up : (i j : ℕ) (vs : List ℕ) → Rises i j vs → i ≤ j
rises_up i j [] r = omega arith
rises_up i j (v ∷ vs) r = let h = rises_up v j vs r.1 in omega arith

-- what comes after the start is above it
pub rises_above : (i j v : ℕ) (vs : List ℕ) → Rises i j vs → Has vs v → i < v
rises_above i j v [] r h = absurd h
rises_above i j v (w ∷ ws) r (inl e) = omega arith
rises_above i j v (w ∷ ws) r (inr h) = let k = rises_above w j v ws r.1 h in omega arith

-- the last number is the end
pub rises_end : (i j : ℕ) (vs : List ℕ) → Rises i j vs → Has (i ∷ vs) j
rises_end i j [] r = inl (sym r)
rises_end i j (v ∷ vs) r = inr (rises_end v j vs r.1)

-- the test `has`, read as a statement
pub has_means : (xs : List ℕ) (v : ℕ) → Decides (has xs v) (Has xs v)
has_means [] v = (λ e. absurd (false≢true e), λ h. absurd h)
has_means (x ∷ xs) v = Decides-or (eqb v x) (has xs v) (Decides-eqb v x) (has_means xs v)
