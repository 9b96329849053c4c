-- What a loop over the first link needs: the best so far and where it was first met. Assumes nothing.
use Rattle.std.proofs.Common.{◌≡◌, ℕ, zero, suc, ◌+◌, ◌<◌, ◌≤◌, Bool, true, false, cond, not, ◌&&◌, T, sym, refl, subst, add-zero, arith}
use native.Mathlib.Decide.{dec_lt}
use Rattle.families.specs.Price.{Kind, Rules}
use Rattle.families.specs.Least.{first, cheapest}
use Rattle.families.proofs.Algebra.{le_tr, is}
use Rattle.families.proofs.Bools.{both, left, right}
use Rattle.families.proofs.LeastTotal.{cheapest_at, cheapest_le}

-- one that passes is met: what comes after it changes nothing
first_longer : (test : ℕ → Bool) (v more w : ℕ) → v ≤ w → w ≤ v + more → T (test w) → first test v (suc more) ≡ first test v more
first_longer test v zero w a b t = go (test v) (let e : w ≡ v = omega arith in subst (λ x. T (test x)) e t)
  where
    go : (x : Bool) → T x → cond x v (suc v) ≡ v
    go true t = refl
    go false t = absurd t
first_longer test v (suc more) w a b t = go (test v) refl (λ l. first_longer test (suc v) more w l (omega arith) t)
  where
    go : (x : Bool) → test v ≡ x → (v < w → first test (suc v) (suc more) ≡ first test (suc v) more) →
        cond x v (first test (suc v) (suc more)) ≡ cond x v (first test (suc v) more)
    go true e f = refl
    go false e f = f (later (dec_lt v w))
      where
        later : Dec (v < w) → v < w
        later (yes l) = l
        later (no l) = let q : w ≡ v = omega arith in absurd (subst T e (subst (λ x. T (test x)) q t))

-- none passes before the last
first_last : (test : ℕ → Bool) (v more : ℕ) → ((w : ℕ) → v ≤ w → w < v + more → ¬ T (test w)) → first test v more ≡ v + more
first_last test v zero f = sym (add-zero v)
first_last test v (suc more) f =
    go (test v) (f v (omega arith) (omega arith)) (first_last test (suc v) more (λ w a b. f w (omega arith) (omega arith)))
  where
    go : (x : Bool) → ¬ T x → first test (suc v) more ≡ suc v + more → cond x v (first test (suc v) more) ≡ v + suc more
    go true n e = absurd (n tt)
    go false n e = omega arith

module _ {P : Type 0} {K : Kind P} (rules : Rules K) (ok : ℕ → Bool) (f : ℕ → P) where
  -- the first of v .. v + more that is allowed and no dearer than `best`
  abbrev pub attains : P → ℕ → Bool
  attains best w = ok w && K.not_dearer (f w) best

  -- the loop's step: a candidate further on takes over where it is allowed and the best so far is dearer
  pub first_more : (v more : ℕ) → T (ok v) →
      first (attains (cheapest K ok f v (suc more))) v (suc more) ≡
      cond (ok (v + suc more) && not (K.not_dearer (cheapest K ok f v more) (f (v + suc more)))) (v + suc more)
      (first (attains (cheapest K ok f v more)) v more)
  first_more v more t = go (ok (v + suc more)) refl (K.not_dearer (cheapest K ok f v more) (f (v + suc more))) refl
    where
      best : P
      best = cheapest K ok f v more

      x : ℕ
      x = v + suc more

      kept : first (attains best) v (suc more) ≡ first (attains best) v more
      kept =
          let s = cheapest_at K ok f v more t in
          first_longer (attains best) v more s.0 s.1 s.2
          (both (ok s.0) (K.not_dearer (f s.0) best) s.3 (is rules s.4).from.le)

      go : (a : Bool) → ok x ≡ a → (b : Bool) → K.not_dearer best (f x) ≡ b →
          first (attains (cond a (cond b best (f x)) best)) v (suc more) ≡ cond (a && not b) x (first (attains best) v more)
      go false e b q = kept
      go true e true q = kept
      go true e false q =
          first_last (attains (f x)) v (suc more) (λ w a b s.
          subst T q (le_tr rules (cheapest_le rules ok f v more w a (omega arith) (left (ok w) (K.not_dearer (f w) (f x)) s)) (record { le = right (ok w) (K.not_dearer (f w) (f x)) s })).le)
