-- What L is: its equations, and that it is the cheapest over the first link. Assumes nothing.
use Rattle.std.proofs.Common.{◌≡◌, ℕ, zero, suc, ◌+◌, ◌-◌, ◌<◌, ◌≤◌, Bool, true, false, cond, T, sym, refl, ap, ◌∙◌, subst, ap₂, arith}
use native.Mathlib.Decide.{dec_le}
use Rattle.families.specs.Price.{Kind, Rules, cheaper}
use Rattle.families.specs.Least.{cheapest, cheapest_link, L, via}
use Rattle.families.proofs.Algebra.{Leq, le_tr, le_rfl, cheaper_le}
use Rattle.families.proofs.Onward.{towards, onward_end, onward_step}

module _ {P : Type 0} (K : Kind P) where
  pub cheapest_same : (ok ok' : ℕ → Bool) (f g : ℕ → P) (v more : ℕ) → ((w : ℕ) → v ≤ w → w ≤ v + more → (ok w ≡ ok' w) × (f w ≡ g w)) →
      cheapest K ok f v more ≡ cheapest K ok' g v more
  cheapest_same ok ok' f g v zero h = (h v (omega arith) (omega arith)).1
  cheapest_same ok ok' f g v (suc more) h =
      let e = cheapest_same ok ok' f g v more (λ w a b. h w a (omega arith)) in
      let q = h (v + suc more) (omega arith) (omega arith) in
      rw (e, q.0, q.1)

  -- it is the price at one of them
  pub cheapest_at : (ok : ℕ → Bool) (f : ℕ → P) (v more : ℕ) → T (ok v) →
      (w : ℕ) × (v ≤ w) × (w ≤ v + more) × T (ok w) × (cheapest K ok f v more ≡ f w)
  cheapest_at ok f v zero t = (v, omega arith, omega arith, t, refl)
  cheapest_at ok f v (suc more) t = go (cheapest_at ok f v more t) (ok (v + suc more)) refl
    where
      go : ((w : ℕ) × (v ≤ w) × (w ≤ v + more) × T (ok w) × (cheapest K ok f v more ≡ f w)) → (b : Bool) → ok (v + suc more) ≡ b →
          (w : ℕ) × (v ≤ w) × (w ≤ v + suc more) × T (ok w) ×
          (cond b (cheaper K (cheapest K ok f v more) (f (v + suc more))) (cheapest K ok f v more) ≡ f w)
      go r false e = (r.0, r.1, omega (arith, r.2), r.3, r.4)
      go r true e = pick (K.not_dearer (cheapest K ok f v more) (f (v + suc more)))
        where
          pick : (b : Bool) → (w : ℕ) × (v ≤ w) × (w ≤ v + suc more) × T (ok w) × (cond b (cheapest K ok f v more) (f (v + suc more)) ≡ f w)
          pick true = (r.0, r.1, omega (arith, r.2), r.3, r.4)
          pick false = (v + suc more, omega arith, omega arith, subst T (sym e) tt, refl)

module _ {P : Type 0} {K : Kind P} (rules : Rules K) where
  -- none of them is cheaper
  pub cheapest_le : (ok : ℕ → Bool) (f : ℕ → P) (v more w : ℕ) → v ≤ w → w ≤ v + more → T (ok w) → Leq K (cheapest K ok f v more) (f w)
  cheapest_le ok f v zero w a b t = let e : v ≡ w = omega arith in subst (λ x. Leq K (f v) (f x)) e (le_rfl rules (f v))
  cheapest_le ok f v (suc more) w a b t = go (λ h. cheapest_le ok f v more w a h t) (ok (v + suc more)) refl (dec_le w (v + more))
    where
      go : (w ≤ v + more → Leq K (cheapest K ok f v more) (f w)) → (x : Bool) → ok (v + suc more) ≡ x → Dec (w ≤ v + more) →
          Leq K (cond x (cheaper K (cheapest K ok f v more) (f (v + suc more))) (cheapest K ok f v more)) (f w)
      go ih true e (yes h) = le_tr rules (cheaper_le rules (cheapest K ok f v more) (f (v + suc more))).0 (ih h)
      go ih true e (no h) =
          let q : v + suc more ≡ w = omega arith in
          subst (λ x. Leq K (cheaper K (cheapest K ok f v more) (f (v + suc more))) (f x)) q
          (cheaper_le rules (cheapest K ok f v more) (f (v + suc more))).1
      go ih false e (yes h) = ih h
      go ih false e (no h) =
          let q : w ≡ v + suc more = omega arith in
          absurd (subst T e (subst (λ x. T (ok x)) q t))

module _ {P : Type 0} (K : Kind P) (price : ℕ → ℕ → ℕ → P) (allowed : ℕ → ℕ → ℕ → Bool) where
  -- the step of L looks only further on, and no further than j
  looks : (k j : ℕ) (below : ℕ → ℕ → P) (i : ℕ) (f g : ℕ → P) → i < j → ((v : ℕ) → i < v → v ≤ j → f v ≡ g v) →
      cheapest_link K price allowed k below j i f ≡ cheapest_link K price allowed k below j i g
  looks k j below i f g h e =
      cheapest_same K (allowed k i) (allowed k i) (λ v. K.join (K.join (price k i v) (below i v)) (f v))
      (λ v. K.join (K.join (price k i v) (below i v)) (g v))
      (suc i) (j - suc i) (λ w a b. (refl, ap (λ x. K.join (K.join (price k i w) (below i w)) x) (e w a (omega arith))))

  pub L_zero : (i j : ℕ) → L K price allowed 0 i j ≡ K.neutral
  unfolding L
  L_zero i j = refl

  pub L_end : (k i j : ℕ) → j ≤ i → L K price allowed k i j ≡ K.neutral
  unfolding L
  L_end zero i j h = refl
  L_end (suc k) i j h =
      onward_end j K.neutral (cheapest_link K price allowed (suc k) (λ a b. L K price allowed k a b) j)
      (looks (suc k) j (λ a b. L K price allowed k a b)) (j - i) i h

  pub L_eq : (k i j : ℕ) → i < j →
      L K price allowed (suc k) i j ≡ cheapest K (allowed (suc k) i) (via K price allowed k i j) (suc i) (j - suc i)
  unfolding L
  L_eq k i j h =
      onward_step j K.neutral (cheapest_link K price allowed (suc k) (λ a b. L K price allowed k a b) j)
      (looks (suc k) j (λ a b. L K price allowed k a b)) i h

  -- L is the price over one of the links that are allowed
  pub L_at : (k i j : ℕ) → i < j → T (allowed (suc k) i (suc i)) →
      (v : ℕ) × (i < v) × (v ≤ j) × T (allowed (suc k) i v) × (L K price allowed (suc k) i j ≡ via K price allowed k i j v)
  L_at k i j h t =
      let r = cheapest_at K (allowed (suc k) i) (via K price allowed k i j) (suc i) (j - suc i) t in
      (r.0, r.1, omega (arith, r.2), r.3, L_eq k i j h ∙ r.4)

module _ {P : Type 0} {K : Kind P} (rules : Rules K) (price : ℕ → ℕ → ℕ → P) (allowed : ℕ → ℕ → ℕ → Bool) where
  -- and no link that is allowed makes it cheaper
  pub L_le : (k i j v : ℕ) → i < v → v ≤ j → T (allowed (suc k) i v) → Leq K (L K price allowed (suc k) i j) (via K price allowed k i j v)
  L_le k i j v a b t =
      rw (L_eq K price allowed k i j (omega arith))
      (cheapest_le rules (allowed (suc k) i) (via K price allowed k i j) (suc i) (j - suc i) v a (omega arith) t)

-- L looks at no more than the links of the line, at its levels
module _ {P : Type 0} (K : Kind P) (price price' : ℕ → ℕ → ℕ → P) (allowed allowed' : ℕ → ℕ → ℕ → Bool) (m n : ℕ)
    (agree : (k i j : ℕ) → 1 ≤ k → k ≤ m → i < j → j < n → (price k i j ≡ price' k i j) × (allowed k i j ≡ allowed' k i j)) where
  pub L_same : (k : ℕ) → k ≤ m → (i j : ℕ) → i ≤ j → j < n → L K price allowed k i j ≡ L K price' allowed' k i j
  L_same zero h i j a b = L_zero K price allowed i j ∙ sym (L_zero K price' allowed' i j)
  L_same (suc k) h i j a b =
      towards j (λ i. L K price allowed (suc k) i j ≡ L K price' allowed' (suc k) i j)
      (L_end K price allowed (suc k) j j (omega arith) ∙ sym (L_end K price' allowed' (suc k) j j (omega arith)))
      (step (L_same k (omega arith))) i a
    where
      step : ((i j : ℕ) → i ≤ j → j < n → L K price allowed k i j ≡ L K price' allowed' k i j) →
          (i : ℕ) → i < j → ((v : ℕ) → i < v → v ≤ j → L K price allowed (suc k) v j ≡ L K price' allowed' (suc k) v j) →
          L K price allowed (suc k) i j ≡ L K price' allowed' (suc k) i j
      step below i l further =
          L_eq K price allowed k i j l ∙
          cheapest_same K (allowed (suc k) i) (allowed' (suc k) i) (via K price allowed k i j) (via K price' allowed' k i j) (suc i)
          (j - suc i)
          (λ w x y. let s = agree (suc k) i w (omega arith) h x (omega arith) in
          (s.1, ap₂ K.join (ap₂ K.join s.0 (below i w (omega arith) (omega arith))) (further w x (omega arith)))) ∙
          sym (L_eq K price' allowed' k i j l)
