-- Rows that are told one by one. Assumes nothing.
use Rattle.std.proofs.Common.{◌≡◌, ℕ, zero, suc, ◌+◌, ◌-◌, ◌≤◌, ◌⊎◌, inl, inr, T, List, [], ◌∷◌, ◌++◌, length, Some, sym, refl, ap, ◌∙◌, subst, arith}
use Rattle.std.specs.Prelude.{slice_get}
use Rattle.std.specs.List.{AllByRecursion}
use Rattle.std.proofs.lemmas.Option.{same_Some, none-some}
use Rattle.lines.specs.declared.vertex.Vertex.{Vertex}
use Rattle.measures.specs.Measure.{Answer}
use Rattle.reports.specs.Link.{allows_all}
use Rattle.reports.proofs.Links.{allowed_both}

-- links that are allowed one by one are all allowed
pub all_allowed : (says : Answer) (vs : List Vertex) (t : ℕ) (ls : List (ℕ × ℕ)) → AllByRecursion (λ l. T (says vs l.0 l.1 t)) ls → T (allows_all says vs ls t)
all_allowed says vs t [] h = tt
all_allowed says vs t (l ∷ ls) h = allowed_both _ _ h.0 (all_allowed says vs t ls h.1)

-- what stands at a place of a list with one more at its end
last_or_before : {X : Type 0} (xs : List X) (x y : X) (i : ℕ) → slice_get (xs ++ (x ∷ [])) i ≡ Some y → (slice_get xs i ≡ Some y) ⊎ ((i ≡ length xs) × (x ≡ y))
last_or_before [] x y zero h = inr (refl, same_Some x y h)
last_or_before [] x y (suc i) h = absurd (none-some y h)
last_or_before (z ∷ xs) x y zero h = inl h
last_or_before (z ∷ xs) x y (suc i) h = go (last_or_before xs x y i h)
  where
    go : (slice_get xs i ≡ Some y) ⊎ ((i ≡ length xs) × (x ≡ y)) → (slice_get xs i ≡ Some y) ⊎ ((suc i ≡ length (z ∷ xs)) × (x ≡ y))
    go (inl e) = inl e
    go (inr e) = inr (ap suc e.0, e.1)

-- one row more is told
pub told_more : {X : Type 0} (Q : ℕ → X → Type 0) (xs all : List X) (x : X) (n : ℕ) → n ≡ length xs → all ≡ xs ++ (x ∷ []) →
    ((k : ℕ) (y : X) → 1 ≤ k → slice_get xs (k - 1) ≡ Some y → Q k y) → Q (n + 1) x → (k : ℕ) (y : X) → 1 ≤ k → slice_get all (k - 1) ≡ Some y → Q k y
told_more Q xs all x n e a before here k y one h = go (last_or_before xs x y (k - 1) (ap (λ zs. slice_get zs (k - 1)) (sym a) ∙ h))
  where
    go : (slice_get xs (k - 1) ≡ Some y) ⊎ ((k - 1 ≡ length xs) × (x ≡ y)) → Q k y
    go (inl g) = before k y one g
    go (inr g) = let n_is : n + 1 ≡ k = omega (arith, g.0) in subst (Q k) g.1 (subst (λ m. Q m x) n_is here)
