-- Tests of order, and that `onward` needs no more steps than there are vertices to the end. Assumes nothing.
use Rattle.std.proofs.Common.{◌≡◌, ℕ, zero, suc, ◌-◌, ◌<◌, ◌≤◌, Bool, true, false, cond, T, ltb, sym, refl, ◌∙◌, subst, arith, ltb→lt}
use Rattle.std.proofs.lemmas.Bool.{le-ltb, lt-ltb}
use native.Mathlib.Decide.{dec_lt}
use Rattle.families.specs.Least.{onward}

-- from the end backwards: what holds at j, and at i once it holds further on, holds everywhere before j
pub towards : (j : ℕ) (Q : ℕ → Type 0) → Q j → ((i : ℕ) → i < j → ((v : ℕ) → i < v → v ≤ j → Q v) → Q i) → (i : ℕ) → i ≤ j → Q i
towards j Q z s i h = go (j - i) i h (omega arith)
  where
    go : (d i : ℕ) → i ≤ j → j - i ≤ d → Q i
    go zero i a b = let e : j ≡ i = omega arith in subst Q e z
    go (suc d) i a b = at (λ v x y. go d v y (omega arith)) (dec_lt i j)
      where
        at : ((v : ℕ) → i < v → v ≤ j → Q v) → Dec (i < j) → Q i
        at ih (yes h) = s i h ih
        at ih (no h) = let e : j ≡ i = omega arith in subst Q e z

module _ {X : Type 0} (j : ℕ) (end : X) (step : ℕ → (ℕ → X) → X)
    (looks : (i : ℕ) (f g : ℕ → X) → i < j → ((v : ℕ) → i < v → v ≤ j → f v ≡ g v) → step i f ≡ step i g) where
  pub onward_end : (d i : ℕ) → j ≤ i → onward j end step d i ≡ end
  onward_end zero i h = refl
  onward_end (suc d) i h = rw (le-ltb i j h)

  enough : (d e i : ℕ) → i ≤ j → j - i ≤ d → j - i ≤ e → onward j end step d i ≡ onward j end step e i
  enough zero e i h p q = sym (onward_end e i (omega arith))
  enough (suc d) zero i h p q = onward_end (suc d) i (omega arith)
  enough (suc d) (suc e) i h p q = more (λ v a b. enough d e v b (omega arith) (omega arith)) (ltb i j) (λ t. ltb→lt i j t)
    where
      more : ((v : ℕ) → i < v → v ≤ j → onward j end step d v ≡ onward j end step e v) → (b : Bool) → (T b → i < j) →
          cond b (step i (onward j end step d)) end ≡ cond b (step i (onward j end step e)) end
      more ih true f = looks i (onward j end step d) (onward j end step e) (f tt) ih
      more ih false f = refl

  pub onward_step : (i : ℕ) → i < j → onward j end step (j - i) i ≡ step i (λ v. onward j end step (j - v) v)
  onward_step i h = enough (j - i) (suc (j - suc i)) i (omega arith) (omega arith) (omega arith) ∙ one (lt-ltb i j h)
    where
      one : ltb i j ≡ true → cond (ltb i j) (step i (onward j end step (j - suc i))) end ≡ step i (λ v. onward j end step (j - v) v)
      one e =
          rw e (looks i (onward j end step (j - suc i)) (λ v. onward j end step (j - v) v) h
          (λ v a b. enough (j - suc i) (j - v) v b (omega arith) (omega arith)))
