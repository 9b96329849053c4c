-- The stays of the first least family between two vertices, link by link. Assumes nothing.
use Rattle.std.proofs.Common.{◌≡◌, ℕ, zero, suc, ◌+◌, ◌-◌, ◌<◌, ◌≤◌, Bool, true, false, ◌&&◌, ◌||◌, eqb, ◌⊎◌, List, [], ◌∷◌, ◌++◌, get_or, MatchOption, Option, Some, None, sym, refl, ap, ◌∙◌, subst, inl, inr, ⊎_elim, arith}
use Rattle.std.specs.Option.{unwrap_or}
use native.Mathlib.Decide.{dec_le}
use Rattle.std.proofs.lemmas.Bool.{cases_lt, cond-true, cond-false, eq-eqb, ne_eqb}
use Rattle.families.specs.Price.{Kind}
use Rattle.families.specs.Chain.{Rises, has}
use Rattle.families.specs.Least.{first, L, next, walk}
use Rattle.families.specs.Stay.{stay}
use Rattle.families.proofs.Onward.{towards}
use Rattle.families.proofs.Rising.{rises_up}
use Rattle.families.proofs.Next.{next_range, walk_end, walk_top, walk_low}
use Rattle.families.proofs.FirstLeast.{rises_append}
use Rattle.tables.specs.Row.{candidate}
use Rattle.search.specs.Walk.{stay_between}

apart : (v x : ℕ) → (v < x) ⊎ (x < v) → eqb v x ≡ false
apart v x o = ne_eqb v x (λ e. ⊎_elim (λ a. omega arith) (λ b. omega arith) o)

-- what lies before the start or past the end of a rise is not on it
not_before : (a e v : ℕ) (bs : List ℕ) → Rises a e bs → v ≤ a → has bs v ≡ false
not_before a e v [] r h = refl
not_before a e v (b ∷ bs) r h = rw (apart v b (inl (omega (arith, r.0)))) (not_before b e v bs r.1 (omega (arith, r.0)))

not_past : (a e v : ℕ) (bs : List ℕ) → Rises a e bs → e < v → has bs v ≡ false
not_past a e v [] r h = refl
not_past a e v (b ∷ bs) r h = let u = rises_up b e bs r.1 in rw (apart v b (inr (omega arith))) (not_past b e v bs r.1 h)

has_append : (xs ys : List ℕ) (v : ℕ) → has (xs ++ ys) v ≡ (has xs v || has ys v)
has_append [] ys v = refl
has_append (x ∷ xs) ys v = go (eqb v x) (has_append xs ys v)
  where
    go : (b : Bool) → has (xs ++ ys) v ≡ (has xs v || has ys v) → (b || has (xs ++ ys) v) ≡ ((b || has xs v) || has ys v)
    go true ih = refl
    go false ih = ih

or_false : (b : Bool) → (b || false) ≡ b
or_false true = refl
or_false false = refl

pub stay_same : (c d : ℕ → List ℕ) (m v : ℕ) → ((l : ℕ) → 1 ≤ l → l ≤ m → has (c l) v ≡ has (d l) v) → stay c m v ≡ stay d m v
stay_same c d zero v e = refl
stay_same c d (suc m) v e = rw (e (suc m) (omega arith) (omega arith), stay_same c d m v (λ l a b. e l a (omega arith))) refl

module _ {P : Type 0} (K : Kind P) (price : ℕ → ℕ → ℕ → P) (allowed : ℕ → ℕ → ℕ → Bool) where
  abbrev W : ℕ → ℕ → ℕ → ℕ → List ℕ
  W = walk K price allowed

  abbrev N : ℕ → ℕ → ℕ → ℕ
  N = next K price allowed

  abbrev S : ℕ → ℕ → ℕ → ℕ → ℕ
  S = stay_between K price allowed

  pub walk_rises : (k l : ℕ) → 1 ≤ l → l ≤ k → (i j : ℕ) → i ≤ j → Rises i j (W k l i j)
  walk_rises zero l a b i j h = absurd (omega arith)
  walk_rises (suc k) l a b i j h =
      towards j (λ i. Rises i j (W (suc k) l i j)) (rw (walk_end K price allowed (suc k) l j j (omega arith))) (step (dec_le l k) (walk_rises k l a)) i h
    where
      step : Dec (l ≤ k) → (l ≤ k → (i j : ℕ) → i ≤ j → Rises i j (W k l i j)) →
          (i : ℕ) → i < j → ((v : ℕ) → i < v → v ≤ j → Rises v j (W (suc k) l v j)) → Rises i j (W (suc k) l i j)
      step (yes c) below i h ih =
          let r = next_range K price allowed k i j h in
          rw (walk_low K price allowed k l i j c h)
          (rises_append i (N k i j) j (W k l i (N k i j)) (W (suc k) l (N k i j) j) (below c i (N k i j) (omega arith)) (ih (N k i j) r.0 r.1))
      step (no c) below i h ih =
          let r = next_range K price allowed k i j h in
          let e : suc k ≡ l = omega arith in
          subst (λ l. ((v : ℕ) → i < v → v ≤ j → Rises v j (W (suc k) l v j)) → Rises i j (W (suc k) l i j)) e
          (λ ih. rw (walk_top K price allowed k i j h) (r.0, ih (N k i j) r.0 r.1)) ih

  module _ (p i j : ℕ) (h : i < j) where
    top_has : (v : ℕ) → i < v → has (i ∷ W (suc p) (suc p) i j) v ≡ has (N p i j ∷ W (suc p) (suc p) (N p i j) j) v
    top_has v a = rw (apart v i (inr a), walk_top K price allowed p i j h) refl

    low_has : (l v : ℕ) → l ≤ p → i < v → has (i ∷ W (suc p) l i j) v ≡ (has (W p l i (N p i j)) v || has (W (suc p) l (N p i j) j) v)
    low_has l v a b = rw (apart v i (inr b), walk_low K price allowed p l i j a h) (has_append (W p l i (N p i j)) (W (suc p) l (N p i j) j) v)

    -- inside the first link it is as one level below
    stay_inside : (v : ℕ) → i < v → v < N p i j → S (suc p) i j v ≡ S p i (N p i j) v
    stay_inside v a b =
        let r = next_range K price allowed p i j h in
        let none : has (i ∷ W (suc p) (suc p) i j) v ≡ false =
        top_has v a ∙ rw (apart v (N p i j) (inl b)) (not_before (N p i j) j v (W (suc p) (suc p) (N p i j) j)
        (walk_rises (suc p) (suc p) (omega arith) (omega arith) (N p i j) j r.1) (omega arith)) in
        cond-false (has (i ∷ W (suc p) (suc p) i j) v) (suc p) _ none ∙
        stay_same (λ l. i ∷ W (suc p) l i j) (λ l. i ∷ W p l i (N p i j)) p v (λ l c d.
        low_has l v d a ∙
        ap (λ b. has (W p l i (N p i j)) v || b)
        (not_before (N p i j) j v (W (suc p) l (N p i j) j) (walk_rises (suc p) l c (omega arith) (N p i j) j r.1) (omega arith)) ∙
        or_false (has (W p l i (N p i j)) v) ∙ rw (apart v i (inr a)) refl)

    -- the next vertex stays to the level
    stay_next : S (suc p) i j (N p i j) ≡ suc p
    stay_next =
        let r = next_range K price allowed p i j h in
        cond-true (has (i ∷ W (suc p) (suc p) i j) (N p i j)) (suc p) _ (top_has (N p i j) r.0 ∙ rw (eq-eqb (N p i j) (N p i j) refl) refl)

    -- past it, it is as from there on
    stay_past : (v : ℕ) → N p i j < v → S (suc p) i j v ≡ S (suc p) (N p i j) j v
    stay_past v a =
        let r = next_range K price allowed p i j h in
        stay_same (λ l. i ∷ W (suc p) l i j) (λ l. N p i j ∷ W (suc p) l (N p i j) j) (suc p) v (λ l c d. ⊎_elim
        (λ (u : l < suc p).
        low_has l v (omega arith) (omega (arith, r.0)) ∙
        ap (λ b. b || has (W (suc p) l (N p i j) j) v)
        (not_past i (N p i j) v (W p l i (N p i j)) (walk_rises p l c (omega arith) i (N p i j) (omega (arith, r.0))) a) ∙
        rw (apart v (N p i j) (inr a)) refl)
        (λ (u : suc p ≤ l).
        let e : suc p ≡ l = omega arith in
        subst (λ z. has (i ∷ W (suc p) z i j) v ≡ has (N p i j ∷ W (suc p) z (N p i j) j) v) e (top_has v (omega (arith, r.0))))
        (cases_lt l (suc p)))

  -- the test that the next vertex passes
  abbrev pub attains : ℕ → ℕ → ℕ → ℕ → Bool
  attains k i j v = allowed k i v && K.not_dearer (candidate K price allowed k i j v) (L K price allowed k i j)

  pub next_is : (k i j : ℕ) → 1 ≤ k → first (attains k i j) (suc i) (j - suc i) ≡ N (k - 1) i j
  next_is zero i j a = absurd (omega arith)
  next_is (suc p) i j a =
      let e : suc p - 1 ≡ p = omega arith in
      ap (λ z. first (λ v. allowed (suc p) i v && K.not_dearer (K.join (K.join (price (suc p) i v) (L K price allowed z i v)) (L K price allowed (suc p) v j)) (L K price allowed (suc p) i j)) (suc i) (j - suc i)) e ∙
      ap (λ z. N z i j) (sym e)

  -- the same three facts at a level k of 1 or more
  inside_k : (k i j v : ℕ) → 1 ≤ k → i < j → i < v → v < N (k - 1) i j → S k i j v ≡ S (k - 1) i (N (k - 1) i j) v
  inside_k zero i j v one h a b = absurd (omega arith)
  inside_k (suc p) i j v one h a b =
      let e : p ≡ suc p - 1 = omega arith in
      subst (λ z. v < N z i j → S (suc p) i j v ≡ S z i (N z i j) v) e (stay_inside p i j h v a) b

  next_k : (k i j : ℕ) → 1 ≤ k → i < j → S k i j (N (k - 1) i j) ≡ k
  next_k zero i j one h = absurd (omega arith)
  next_k (suc p) i j one h =
      let e : p ≡ suc p - 1 = omega arith in
      subst (λ z. S (suc p) i j (N z i j) ≡ suc p) e (stay_next p i j h)

  past_k : (k i j v : ℕ) → 1 ≤ k → i < j → N (k - 1) i j < v → S k i j v ≡ S k (N (k - 1) i j) j v
  past_k zero i j v one h a = absurd (omega arith)
  past_k (suc p) i j v one h a =
      let e : p ≡ suc p - 1 = omega arith in
      subst (λ z. N z i j < v → S (suc p) i j v ≡ S (suc p) (N z i j) j v) e (stay_past p i j h v) a

  -- one link of the walk from i to j at level k, from `at` to `x`, is marked
  module _ (k i j at x : ℕ) (one : 1 ≤ k) (low : i ≤ at) (high : at < j) (is : x ≡ N (k - 1) at j) (entry stays put marked : List ℕ)
      (done : (v : ℕ) → i < v → v ≤ at → v < j → get_or stays v 0 ≡ S k i j v)
      (ahead : (v : ℕ) → at < v → v < j → S k i j v ≡ S k at j v)
      (kept : (v : ℕ) → (v ≤ i) ⊎ ((at < v) ⊎ (j ≤ v)) → get_or stays v 0 ≡ get_or entry v 0)
      (here : x < j → get_or put x 0 ≡ k)
      (others : (w : ℕ) → (w < x) ⊎ ((x < w) ⊎ (j ≤ w)) → get_or put w 0 ≡ get_or stays w 0)
      (inside : (v : ℕ) → at < v → v < x → get_or marked v 0 ≡ S (k - 1) at x v)
      (outside : (v : ℕ) → (v ≤ at) ⊎ (x ≤ v) → get_or marked v 0 ≡ get_or put v 0) where
    range : (at < x) × (x ≤ j)
    range = let r = next_range K price allowed (k - 1) at j high in (omega (arith, r.0, is), omega (arith, r.1, is))

    pub more_done : (v : ℕ) → i < v → v ≤ x → v < j → get_or marked v 0 ≡ S k i j v
    more_done v p q r =
        let u = range in
        ⊎_elim
        (λ (l : at < v). ⊎_elim
        (λ (m : v < x). inside v l m ∙ sym (subst (λ z. v < z → S k at j v ≡ S (k - 1) at z v) (sym is) (inside_k k at j v one high l) m) ∙ sym (ahead v l r))
        (λ (m : x ≤ v).
        let e : x ≡ v = omega arith in
        outside v (inr m) ∙ subst (λ z. get_or put z 0 ≡ k) e (here (omega arith)) ∙ sym (subst (λ z. S k at j z ≡ k) (sym is ∙ e) (next_k k at j one high)) ∙ sym (ahead v l r))
        (cases_lt v x))
        (λ (l : v ≤ at). outside v (inl l) ∙ others v (inl (omega (arith, u.0))) ∙ done v p l r)
        (cases_lt at v)

    pub more_ahead : (v : ℕ) → x < v → v < j → S k i j v ≡ S k x j v
    more_ahead v p q =
        let u = range in
        ahead v (omega (arith, u.0)) q ∙ subst (λ z. z < v → S k at j v ≡ S k z j v) (sym is) (past_k k at j v one high) p

    pub more_kept : (v : ℕ) → (v ≤ i) ⊎ ((x < v) ⊎ (j ≤ v)) → get_or marked v 0 ≡ get_or entry v 0
    more_kept v o =
        let u = range in
        outside v (⊎_elim (λ p. inl (omega arith)) (λ w. ⊎_elim (λ p. inr (omega arith)) (λ p. inr (omega (arith, u.1))) w) o) ∙
        others v (⊎_elim (λ p. inl (omega (arith, u.0))) (λ w. inr w) o) ∙
        kept v (⊎_elim inl (λ w. inr (⊎_elim (λ p. inl (omega (arith, u.0))) inr w)) o)

-- what `find` answers, as the first that passes the test
first_told : (test : ℕ → Bool) (more v : ℕ) (r : Option ℕ) →
    MatchOption r ((k : ℕ) → v ≤ k → k < v + more → test k ≡ false)
    (λ w. (v ≤ w) × (w < v + more) × (test w ≡ true) × ((k : ℕ) → v ≤ k → k < w → test k ≡ false)) → unwrap_or r (v + more) ≡ first test v more
first_told test zero v None h = omega arith
first_told test zero v (Some w) h = absurd (omega arith)
first_told test (suc more) v None h =
    let e : v + suc more ≡ suc v + more = omega arith in
    e ∙ first_told test more (suc v) None (λ k a b. h k (omega arith) (omega arith)) ∙ sym (cond-false (test v) _ _ (h v (omega arith) (omega arith)))
first_told test (suc more) v (Some w) h =
    ⊎_elim
    (λ (l : v < w).
    first_told test more (suc v) (Some w) (l, omega (arith, h.1), h.2, λ k a b. h.3 k (omega arith) b) ∙ sym (cond-false (test v) _ _ (h.3 v (omega arith) l)))
    (λ (l : w ≤ v). let e : w ≡ v = omega arith in e ∙ sym (cond-true (test v) _ _ (subst (λ z. test z ≡ true) e h.2)))
    (cases_lt v w)

pub first_between : (test : ℕ → Bool) (low high : ℕ) → low ≤ high → (r : Option ℕ) →
    MatchOption r ((k : ℕ) → low ≤ k → k < high → test k ≡ false)
    (λ w. (low ≤ w) × (w < high) × (test w ≡ true) × ((k : ℕ) → low ≤ k → k < w → test k ≡ false)) → unwrap_or r high ≡ first test low (high - low)
first_between test low high h r =
    let e : low + (high - low) ≡ high = omega arith in
    subst (λ end. MatchOption r ((k : ℕ) → low ≤ k → k < end → test k ≡ false)
    (λ w. (low ≤ w) × (w < end) × (test w ≡ true) × ((k : ℕ) → low ≤ k → k < w → test k ≡ false)) → unwrap_or r end ≡ first test low (high - low)) e
    (first_told test (high - low) low r)
