-- The stays once all are written. Assumes nothing.
use Rattle.std.proofs.Common.{◌≡◌, ℕ, zero, suc, ◌-◌, ◌<◌, ◌≤◌, Bool, true, false, ◌||◌, eqb, ◌⊎◌, List, [], ◌∷◌, length, get_or, set, sym, refl, ◌∙◌, subst, inl, inr, ⊎_elim, arith}
use Rattle.std.proofs.lemmas.Bool.{cases_lt, cond-true, eq-eqb}
use Rattle.families.specs.Price.{Kind}
use Rattle.families.specs.Chain.{Rises, has}
use Rattle.families.specs.Least.{walk, first_least}
use Rattle.families.specs.Stay.{stay}
use Rattle.std.proofs.lemmas.List.{length-set, get_or-set_same}
use Rattle.search.specs.Walk.{stay_between}
use Rattle.search.proofs.Walks.{walk_rises}

-- the stay that was written last
pub last_put : (cells : List ℕ) (n m : ℕ) → 1 ≤ n → n ≤ length cells → get_or (set (set cells 0 m) (n - 1) m) (n - 1) 0 ≡ m
last_put cells n m one fits = get_or-set_same (set cells 0 m) (n - 1) m 0 (omega (arith, length-set cells 0 m))

-- a rise has its end
has_end : (a e : ℕ) (bs : List ℕ) → Rises a e bs → has (a ∷ bs) e ≡ true
has_end a e [] r = rw (eq-eqb e a (sym r)) refl
has_end a e (b ∷ bs) r = or_right (eqb e a) (has (b ∷ bs) e) (has_end b e bs r.1)
  where
    or_right : (x y : Bool) → y ≡ true → (x || y) ≡ true
    or_right true y h = refl
    or_right false y h = h

top_stays : (chain : ℕ → List ℕ) (m v : ℕ) → 1 ≤ m → has (chain m) v ≡ true → stay chain m v ≡ m
top_stays chain zero v a h = absurd (omega arith)
top_stays chain (suc m) v a h = cond-true (has (chain (suc m)) v) (suc m) _ h

-- both ends are put first, then what lies between is marked
module _ {P : Type 0} (K : Kind P) (price : ℕ → ℕ → ℕ → P) (allowed : ℕ → ℕ → ℕ → Bool) (m n : ℕ) (one : 1 ≤ m) (two : 2 ≤ n)
    (ends marked : List ℕ) (first : get_or ends 0 0 ≡ m) (last : get_or ends (n - 1) 0 ≡ m)
    (inside : (v : ℕ) → 0 < v → v < n - 1 → get_or marked v 0 ≡ stay_between K price allowed m 0 (n - 1) v)
    (outside : (v : ℕ) → (v ≤ 0) ⊎ (n - 1 ≤ v) → get_or marked v 0 ≡ get_or ends v 0) where
  abbrev family : ℕ → List ℕ
  family = first_least K price allowed m n

  pub all_marked : (v : ℕ) → v < n → get_or marked v 0 ≡ stay family m v
  all_marked v h =
      ⊎_elim
      (λ (a : 0 < v). ⊎_elim
      (λ (b : v < n - 1). inside v a b)
      (λ (b : n - 1 ≤ v).
      let e : n - 1 ≡ v = omega arith in
      subst (λ z. get_or marked z 0 ≡ stay family m z) e
      (outside (n - 1) (inr (omega arith)) ∙ last ∙
      sym (top_stays family m (n - 1) one
      (has_end 0 (n - 1) (walk K price allowed m m 0 (n - 1)) (walk_rises K price allowed m m one (omega arith) 0 (n - 1) (omega arith))))))
      (cases_lt v (n - 1)))
      (λ (a : v ≤ 0).
      let e : 0 ≡ v = omega arith in
      subst (λ z. get_or marked z 0 ≡ stay family m z) e
      (outside 0 (inl (omega arith)) ∙ first ∙ sym (top_stays family m 0 one refl)))
      (cases_lt 0 v)
