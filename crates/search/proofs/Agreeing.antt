-- The first least family looks at no more than the links of the line, at its levels. Assumes nothing.
use Rattle.std.proofs.Common.{◌≡◌, ℕ, zero, suc, ◌+◌, ◌-◌, ◌<◌, ◌≤◌, Bool, ◌&&◌, List, ◌∷◌, ◌++◌, sym, refl, ap, ◌∙◌, subst, ap₂, arith}
use native.Mathlib.Decide.{dec_le}
use Rattle.families.specs.Price.{Kind}
use Rattle.families.specs.Chain.{has}
use Rattle.families.specs.Least.{first, L, via, next, walk, first_least}
use Rattle.families.specs.Stay.{stay}
use Rattle.families.proofs.Onward.{towards}
use Rattle.families.proofs.LeastTotal.{L_same}
use Rattle.families.proofs.Next.{next_range, walk_end, walk_top, walk_low}
use Rattle.search.proofs.Walks.{stay_same}

first_same : (s t : ℕ → Bool) (v more : ℕ) → ((w : ℕ) → v ≤ w → w ≤ v + more → s w ≡ t w) → first s v more ≡ first t v more
first_same s t v zero e = refl
first_same s t v (suc more) e =
    rw (e v (omega arith) (omega arith), first_same s t (suc v) more (λ w a b. e w (omega arith) (omega arith))) refl

-- where two relations agree on the links of a line of n vertices at the levels 1 to m
module _ {P : Type 0} (K : Kind P) (price : ℕ → ℕ → ℕ → P) (A B : ℕ → ℕ → ℕ → Bool) (m n : ℕ)
    (agree : (k i j : ℕ) → 1 ≤ k → k ≤ m → i < j → j < n → A k i j ≡ B k i j) where
  pub least_same : (k : ℕ) → k ≤ m → (i j : ℕ) → i ≤ j → j < n → L K price A k i j ≡ L K price B k i j
  least_same = L_same K price price A B m n (λ k i j a b c d. (refl, agree k i j a b c d))

  next_same : (k i j : ℕ) → suc k ≤ m → i < j → j < n → next K price A k i j ≡ next K price B k i j
  next_same k i j h a b =
      first_same (λ v. A (suc k) i v && K.not_dearer (via K price A k i j v) (L K price A (suc k) i j))
      (λ v. B (suc k) i v && K.not_dearer (via K price B k i j v) (L K price B (suc k) i j)) (suc i) (j - suc i) (λ w p q.
      ap₂ (λ x y. x && y) (agree (suc k) i w (omega arith) h p (omega arith))
      (ap₂ K.not_dearer
      (ap₂ K.join (ap (K.join (price (suc k) i w)) (least_same k (omega arith) i w (omega arith) (omega arith))) (least_same (suc k) h w j (omega arith) b))
      (least_same (suc k) h i j (omega arith) b)))

  walk_same : (k l : ℕ) → k ≤ m → 1 ≤ l → l ≤ k → (i j : ℕ) → i ≤ j → j < n → walk K price A k l i j ≡ walk K price B k l i j
  walk_same zero l q a b i j h u = absurd (omega arith)
  walk_same (suc k) l q a b i j h u =
      towards j (λ i. walk K price A (suc k) l i j ≡ walk K price B (suc k) l i j)
      (walk_end K price A (suc k) l j j (omega arith) ∙ sym (walk_end K price B (suc k) l j j (omega arith)))
      (step (dec_le l k) (λ c i j h u. walk_same k l (omega arith) a c i j h u)) i h
    where
      step : Dec (l ≤ k) → (l ≤ k → (i j : ℕ) → i ≤ j → j < n → walk K price A k l i j ≡ walk K price B k l i j) →
          (i : ℕ) → i < j → ((v : ℕ) → i < v → v ≤ j → walk K price A (suc k) l v j ≡ walk K price B (suc k) l v j) →
          walk K price A (suc k) l i j ≡ walk K price B (suc k) l i j
      step (yes c) below i h ih =
          let r = next_range K price A k i j h in
          let e = next_same k i j q h u in
          walk_low K price A k l i j c h ∙
          ap₂ (λ x y. x ++ y) (below c i (next K price A k i j) (omega (arith, r.0)) (omega (arith, r.1))) (ih (next K price A k i j) r.0 r.1) ∙
          ap (λ z. walk K price B k l i z ++ walk K price B (suc k) l z j) e ∙
          sym (walk_low K price B k l i j c h)
      step (no c) below i h ih =
          let r = next_range K price A k i j h in
          let e = next_same k i j q h u in
          let d : suc k ≡ l = omega arith in
          subst (λ l. ((v : ℕ) → i < v → v ≤ j → walk K price A (suc k) l v j ≡ walk K price B (suc k) l v j) →
          walk K price A (suc k) l i j ≡ walk K price B (suc k) l i j) d
          (λ ih. walk_top K price A k i j h ∙ ap {B = List ℕ} (λ ws. next K price A k i j ∷ ws) (ih (next K price A k i j) r.0 r.1) ∙
          ap {B = List ℕ} (λ z. z ∷ walk K price B (suc k) (suc k) z j) e ∙ sym (walk_top K price B k i j h)) ih

  pub stays_same : 2 ≤ n → (v : ℕ) → stay (first_least K price A m n) m v ≡ stay (first_least K price B m n) m v
  stays_same two v =
      stay_same (first_least K price A m n) (first_least K price B m n) m v
      (λ l a b. ap (λ c. has (0 ∷ c) v) (walk_same m l (omega arith) a b 0 (n - 1) (omega arith) (omega arith)))
