-- Lists of chains: one for each level, and laid end to end. Assumes nothing.
use Rattle.std.proofs.Common.{◌≡◌, ℕ, zero, suc, ◌+◌, ◌*◌, ◌<◌, ◌≤◌, ◌⊎◌, inl, inr, leb, List, [], ◌∷◌, ◌++◌, length, get_or, sym, refl, ap, ◌∙◌, arith}
use Rattle.std.specs.List.{AllByRecursion, concat}
use Rattle.std.proofs.lemmas.Bool.{cond_both, cases_lt}
use Rattle.std.proofs.lemmas.List.{length-append, get_or_append_left}
use Rattle.std.proofs.Math.Seq.{get_or-append_seam}
use Rattle.families.specs.Stay.{staying}
use Rattle.keys.specs.Key.{chains_to}

module _ (chain : ℕ → List ℕ) where
  pub length_to : (m : ℕ) → length (chains_to m chain) ≡ m
  length_to zero = refl
  length_to (suc m) = length-append (chains_to m chain) (chain (suc m) ∷ []) ∙ omega (arith, length_to m)

  -- the chain of each level
  pub at_to : (m k : ℕ) → k < m → get_or (chains_to m chain) k [] ≡ chain (suc k)
  at_to zero k h = absurd (omega arith)
  at_to (suc m) k h = go (at_to m k) (cases_lt k m)
    where
      go : (k < m → get_or (chains_to m chain) k [] ≡ chain (suc k)) → (k < m) ⊎ (m ≤ k) → get_or (chains_to m chain ++ (chain (suc m) ∷ [])) k [] ≡ chain (suc k)
      go ih (inl l) = get_or_append_left (chains_to m chain) (chain (suc m) ∷ []) [] k (omega (arith, l, length_to m)) ∙ ih l
      go ih (inr g) =
          let e : k ≡ m = omega arith in
          ap (λ i. get_or (chains_to m chain ++ (chain (suc m) ∷ [])) i []) (e ∙ sym (length_to m)) ∙ get_or-append_seam (chains_to m chain) (chain (suc m)) [] [] ∙
          ap (λ i. chain (suc i)) (sym e)

-- chains of few vertices are few vertices together
pub joined_few : (cs : List (List ℕ)) → AllByRecursion (λ c. length c ≤ 256) cs → length (concat cs) ≤ 256 * length cs
joined_few [] h = omega arith
joined_few (c ∷ cs) h = omega (arith, h.0, joined_few cs h.1, length-append c (concat cs))

-- no vertex stays that is past the last one
pub staying_below : (stays : ℕ → ℕ) (k v more n : ℕ) → v + more ≤ n → AllByRecursion (λ w. w < n) (staying stays k v more)
staying_below stays k v zero n h = tt
staying_below stays k v (suc more) n h =
    let rest = staying_below stays k (suc v) more n (omega arith) in
    cond_both (leb k (stays v)) (v ∷ staying stays k (suc v) more) (staying stays k (suc v) more) (λ xs. AllByRecursion (λ w. w < n) xs) (λ _. (omega arith, rest)) (λ _. rest)
