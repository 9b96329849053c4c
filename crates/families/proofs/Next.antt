-- The first least family: its next vertex, and the equations of its walks. Assumes nothing.
use Rattle.std.proofs.Common.{◌≡◌, ℕ, zero, suc, ◌+◌, ◌-◌, ◌<◌, ◌≤◌, Bool, true, false, cond, ◌&&◌, T, eqb, List, [], ◌∷◌, ◌++◌, sym, refl, ap, ◌∙◌, subst, arith}
use Rattle.std.proofs.lemmas.Bool.{eq-eqb, ne_eqb}
use native.Mathlib.Decide.{dec_lt}
use Rattle.families.specs.Price.{Kind, Rules, Same}
use Rattle.families.specs.Least.{first, L, via, next, fill, walk}
use Rattle.families.proofs.Algebra.{Leq, Eqv, is}
use Rattle.families.proofs.Bools.{both, left, right}
use Rattle.families.proofs.Onward.{onward_end, onward_step}
use Rattle.families.proofs.LeastTotal.{L_at, L_le}

pub first_range : (test : ℕ → Bool) (v more : ℕ) → (v ≤ first test v more) × (first test v more ≤ v + more)
first_range test v zero = (omega arith, omega arith)
first_range test v (suc more) = go (first_range test (suc v) more) (test v)
  where
    go : (suc v ≤ first test (suc v) more) × (first test (suc v) more ≤ suc v + more) → (b : Bool) →
        (v ≤ cond b v (first test (suc v) more)) × (cond b v (first test (suc v) more) ≤ v + suc more)
    go h true = (omega arith, omega arith)
    go h false = (omega arith, omega arith)

-- where one passes, the first that passes is no later
first_pass : (test : ℕ → Bool) (v more w : ℕ) → v ≤ w → w ≤ v + more → T (test w) → T (test (first test v more)) × (first test v more ≤ w)
first_pass test v zero w a b t = let e : w ≡ v = omega arith in (subst (λ x. T (test x)) e t, a)
first_pass test v (suc more) w a b t = go (λ h. first_pass test (suc v) more w h (omega arith) t) (test v) refl
  where
    go : (suc v ≤ w → T (test (first test (suc v) more)) × (first test (suc v) more ≤ w)) → (x : Bool) → test v ≡ x →
        T (test (cond x v (first test (suc v) more))) × (cond x v (first test (suc v) more) ≤ w)
    go ih true e = (subst T (sym e) tt, a)
    go ih false e = ih (later (dec_lt v w))
      where
        later : Dec (v < w) → v < w
        later (yes h) = h
        later (no h) = let q : w ≡ v = omega arith in absurd (subst T e (subst (λ x. T (test x)) q t))

module _ {P : Type 0} (K : Kind P) (price : ℕ → ℕ → ℕ → P) (allowed : ℕ → ℕ → ℕ → Bool) where
  pub next_range : (k i j : ℕ) → i < j → (i < next K price allowed k i j) × (next K price allowed k i j ≤ j)
  next_range k i j h =
      let r = first_range (λ v. allowed (suc k) i v && K.not_dearer (via K price allowed k i j v) (L K price allowed (suc k) i j)) (suc i)
      (j - suc i) in
      (r.0, omega (arith, r.1))

  looks : (k l j : ℕ) (below : ℕ → ℕ → List ℕ) (i : ℕ) (f g : ℕ → List ℕ) → i < j → ((v : ℕ) → i < v → v ≤ j → f v ≡ g v) →
      fill K price allowed k l below j i f ≡ fill K price allowed k l below j i g
  looks k l j below i f g h e =
      let r = next_range k i j h in
      ap (λ x. cond (eqb l (suc k)) (next K price allowed k i j ∷ []) (below i (next K price allowed k i j)) ++ x)
      (e (next K price allowed k i j) r.0 r.1)

  pub walk_end : (k l i j : ℕ) → j ≤ i → walk K price allowed k l i j ≡ []
  unfolding walk
  walk_end zero l i j h = refl
  walk_end (suc k) l i j h =
      onward_end j [] (fill K price allowed k l (λ a b. walk K price allowed k l a b) j)
      (looks k l j (λ a b. walk K price allowed k l a b)) (j - i) i h

  walk_step : (k l i j : ℕ) → i < j →
      walk K price allowed (suc k) l i j ≡ fill K price allowed k l (walk K price allowed k l) j i (λ v. walk K price allowed (suc k) l v j)
  unfolding walk
  walk_step k l i j h =
      onward_step j [] (fill K price allowed k l (λ a b. walk K price allowed k l a b) j)
      (looks k l j (λ a b. walk K price allowed k l a b)) i h

  pub walk_top : (k i j : ℕ) → i < j →
      walk K price allowed (suc k) (suc k) i j ≡ next K price allowed k i j ∷ walk K price allowed (suc k) (suc k)
      (next K price allowed k i j) j
  walk_top k i j h =
      walk_step k (suc k) i j h ∙
      ap (λ b. cond b (next K price allowed k i j ∷ [])
      (walk K price allowed k (suc k) i (next K price allowed k i j)) ++ walk K price allowed (suc k) (suc k)
      (next K price allowed k i j) j) (eq-eqb (suc k) (suc k) refl)

  pub walk_low : (k l i j : ℕ) → l ≤ k → i < j →
      walk K price allowed (suc k) l i j ≡ walk K price allowed k l i (next K price allowed k i j) ++ walk K price allowed (suc k) l
      (next K price allowed k i j) j
  walk_low k l i j a h =
      walk_step k l i j h ∙
      ap (λ b. cond b (next K price allowed k i j ∷ []) (walk K price allowed k l i (next K price allowed k i j)) ++ walk K price allowed
      (suc k) l (next K price allowed k i j) j) (ne_eqb l (suc k) (λ e. omega (arith, e)))

module _ {P : Type 0} {K : Kind P} (rules : Rules K) (price : ℕ → ℕ → ℕ → P) (allowed : ℕ → ℕ → ℕ → Bool) where
  passes : (k i j v : ℕ) → T (allowed (suc k) i v) → Leq K (via K price allowed k i j v) (L K price allowed (suc k) i j) →
      T (allowed (suc k) i v && K.not_dearer (via K price allowed k i j v) (L K price allowed (suc k) i j))
  passes k i j v t h = both (allowed (suc k) i v) (K.not_dearer (via K price allowed k i j v) (L K price allowed (suc k) i j)) t h.le

  pub next_first : (k i j : ℕ) → i < j → T (allowed (suc k) i (suc i)) →
      T (allowed (suc k) i (next K price allowed k i j)) ×
      Eqv K (via K price allowed k i j (next K price allowed k i j)) (L K price allowed (suc k) i j)
  next_first k i j h t =
      let test = λ (v : ℕ). allowed (suc k) i v && K.not_dearer (via K price allowed k i j v) (L K price allowed (suc k) i j) in
      let s = L_at K price allowed k i j h t in
      let p = first_pass test (suc i) (j - suc i) s.0 s.1 (omega (arith, s.2))
      (passes k i j s.0 s.3 (is rules s.4).from) in
      let v = next K price allowed k i j in
      let r = next_range K price allowed k i j h in
      let ok = left (allowed (suc k) i v) (K.not_dearer (via K price allowed k i j v) (L K price allowed (suc k) i j)) p.0 in (
        ok,
        record {
          to = record {
            le = right (allowed (suc k) i v) (K.not_dearer (via K price allowed k i j v) (L K price allowed (suc k) i j))
                p.0;
          };
          from = L_le rules price allowed k i j v r.0 r.1 ok;
        },
      )

  pub next_least : (k i j v : ℕ) → i < v → v ≤ j → T (allowed (suc k) i v) →
      Same K (via K price allowed k i j v) (L K price allowed (suc k) i j) → next K price allowed k i j ≤ v
  next_least k i j v a b t s =
      (first_pass (λ (v : ℕ). allowed (suc k) i v && K.not_dearer (via K price allowed k i j v) (L K price allowed (suc k) i j)) (suc i)
      (j - suc i) v a (omega arith)
      (passes k i j v t (record { le = rules.same (via K price allowed k i j v) (L K price allowed (suc k) i j) s }))).1
