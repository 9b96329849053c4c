-- The first least family is a family, and L is what it costs. Assumes nothing.
use Rattle.std.proofs.Common.{◌≡◌, ℕ, zero, suc, ◌-◌, ◌<◌, ◌≤◌, Bool, T, ◌⊎◌, List, [], ◌∷◌, ◌++◌, sym, refl, ap, ◌∙◌, subst, inl, inr, ⊎_elim, arith}
use native.Mathlib.Decide.{dec_lt, dec_le}
use Rattle.std.specs.List.{AllByRecursion}
use Rattle.std.proofs.ByRecursion.{All-append}
use Rattle.families.specs.Price.{Kind, Rules, Same}
use Rattle.families.specs.Chain.{Rises, Has, links_from}
use Rattle.families.specs.Family.{Family, cost, total}
use Rattle.families.specs.Least.{L, via, next, walk, first_least}
use Rattle.families.specs.Theorems.{NextAllowed}
use Rattle.families.proofs.Algebra.{Eqv, is, to_same, rfl, sy, tr, join, swap, pull, assoc, unit_l}
use Rattle.families.proofs.Onward.{towards}
use Rattle.families.proofs.Rising.{rises_end}
use Rattle.families.proofs.LeastTotal.{L_zero, L_end}
use Rattle.families.proofs.Next.{next_range, next_first, next_least, walk_end, walk_top, walk_low}

pub rises_append : (i v j : ℕ) (xs ys : List ℕ) → Rises i v xs → Rises v j ys → Rises i j (xs ++ ys)
rises_append i v j [] ys a b = subst (λ x. Rises x j ys) (sym a) b
rises_append i v j (x ∷ xs) ys a b = (a.0, rises_append x v j xs ys a.1 b)

links_append : (i v : ℕ) (xs ys : List ℕ) → Rises i v xs → links_from i (xs ++ ys) ≡ links_from i xs ++ links_from v ys
links_append i v [] ys a = ap (λ x. links_from x ys) a
links_append i v (x ∷ xs) ys a = ap {B = List (ℕ × ℕ)} (λ r. (i, x) ∷ r) (links_append x v xs ys a.1)

rises_last : (i v : ℕ) (xs : List ℕ) → i < v → Rises i v xs → Has xs v
rises_last i v [] h a = absurd (omega arith)
rises_last i v (x ∷ xs) h a = rises_end x v xs a.1

has_left : (x : ℕ) (xs ys : List ℕ) → Has xs x → Has (xs ++ ys) x
has_left x [] ys o = absurd o
has_left x (y ∷ xs) ys (inl e) = inl e
has_left x (y ∷ xs) ys (inr o) = inr (has_left x xs ys o)

has_right : (x : ℕ) (xs ys : List ℕ) → Has ys x → Has (xs ++ ys) x
has_right x [] ys o = o
has_right x (y ∷ xs) ys o = inr (has_right x xs ys o)

has_append : (x : ℕ) (xs ys : List ℕ) → Has (xs ++ ys) x → Has xs x ⊎ Has ys x
has_append x [] ys o = inr o
has_append x (y ∷ xs) ys (inl e) = inl (inl e)
has_append x (y ∷ xs) ys (inr o) = go (has_append x xs ys o)
  where
    go : Has xs x ⊎ Has ys x → Has (y ∷ xs) x ⊎ Has ys x
    go (inl p) = inl (inr p)
    go (inr p) = inr p

module _ {P : Type 0} {K : Kind P} (rules : Rules K) (price : ℕ → ℕ → ℕ → P) where
  cost_append : (k : ℕ) (xs ys : List (ℕ × ℕ)) → Eqv K (cost K price k (xs ++ ys)) (K.join (cost K price k xs) (cost K price k ys))
  cost_append k [] ys = sy rules (unit_l rules (cost K price k ys))
  cost_append k (x ∷ xs) ys =
      let p = price k x.0 x.1 in
      tr rules (join rules (rfl rules p) (cost_append k xs ys)) (sy rules (assoc rules p (cost K price k xs) (cost K price k ys)))

module _ {P : Type 0} {K : Kind P} (rules : Rules K) (price : ℕ → ℕ → ℕ → P) (allowed : ℕ → ℕ → ℕ → Bool) (m n : ℕ)
    (near : NextAllowed allowed m n) where
  abbrev W : ℕ → ℕ → ℕ → ℕ → List ℕ
  W = walk K price allowed

  abbrev N : ℕ → ℕ → ℕ → ℕ
  N = next K price allowed

  walk_rises : (k l : ℕ) → 1 ≤ l → l ≤ k → (i j : ℕ) → i ≤ j → Rises i j (W k l i j)
  walk_rises zero l a b i j h = absurd (omega arith)
  walk_rises (suc k) l a b i j h =
      towards j (λ i. Rises i j (W (suc k) l i j)) (rw (walk_end K price allowed (suc k) l j j (omega arith)))
      (step (dec_le l k) (walk_rises k l a)) i h
    where
      step : Dec (l ≤ k) → (l ≤ k → (i j : ℕ) → i ≤ j → Rises i j (W k l i j)) →
          (i : ℕ) → i < j → ((v : ℕ) → i < v → v ≤ j → Rises v j (W (suc k) l v j)) → Rises i j (W (suc k) l i j)
      step (yes c) below i h ih =
          let r = next_range K price allowed k i j h in
          rw (walk_low K price allowed k l i j c h)
          (rises_append i (N k i j) j (W k l i (N k i j)) (W (suc k) l (N k i j) j) (below c i (N k i j) (omega arith))
          (ih (N k i j) r.0 r.1))
      step (no c) below i h ih =
          let r = next_range K price allowed k i j h in
          let e : suc k ≡ l = omega arith in
          subst (λ l. ((v : ℕ) → i < v → v ≤ j → Rises v j (W (suc k) l v j)) → Rises i j (W (suc k) l i j)) e
          (λ ih. rw (walk_top K price allowed k i j h) (r.0, ih (N k i j) r.0 r.1)) ih

  -- the links of the walk at level l are allowed there
  abbrev Fine : ℕ → ℕ → List ℕ → Type 0
  Fine l i vs = AllByRecursion (λ x. T (allowed l x.0 x.1)) (links_from i vs)

  walk_fine : (k l : ℕ) → k ≤ m → 1 ≤ l → l ≤ k → (i j : ℕ) → i ≤ j → j ≤ n - 1 → Fine l i (W k l i j)
  walk_fine zero l q a b i j h u = absurd (omega arith)
  walk_fine (suc k) l q a b i j h u =
      towards j (λ i. Fine l i (W (suc k) l i j)) (rw (walk_end K price allowed (suc k) l j j (omega arith)) tt)
      (step (dec_le l k) (λ c i j h u. walk_fine k l (omega arith) a c i j h u)) i h
    where
      step : Dec (l ≤ k) → (l ≤ k → (i j : ℕ) → i ≤ j → j ≤ n - 1 → Fine l i (W k l i j)) →
          (i : ℕ) → i < j → ((v : ℕ) → i < v → v ≤ j → Fine l v (W (suc k) l v j)) → Fine l i (W (suc k) l i j)
      step (yes c) below i h ih =
          let v = N k i j in
          let r = next_range K price allowed k i j h in
          let p : i ≤ v = omega (arith, r.0) in
          rw (walk_low K price allowed k l i j c h, links_append i v (W k l i v) (W (suc k) l v j) (walk_rises k l a c i v p))
          (All-append (λ x. T (allowed l x.0 x.1)) (links_from i (W k l i v)) (links_from v (W (suc k) l v j))
          (below c i v p (omega (arith, r.1))) (ih v r.0 r.1))
      step (no c) below i h ih =
          let r = next_range K price allowed k i j h in
          let e : suc k ≡ l = omega arith in
          subst (λ l. ((v : ℕ) → i < v → v ≤ j → Fine l v (W (suc k) l v j)) → Fine l i (W (suc k) l i j)) e
          (λ ih. rw (walk_top K price allowed k i j h)
          ((next_first rules price allowed k i j h (near (suc k) i (omega arith) q (omega arith))).0, ih (N k i j) r.0 r.1)) ih

  -- a vertex of the walk at level l + 1 is on the walk at level l
  walk_nested : (k l x : ℕ) → 1 ≤ l → l < k → (i j : ℕ) → i ≤ j → Has (W k (suc l) i j) x → Has (W k l i j) x
  walk_nested zero l x a b i j h = absurd (omega arith)
  walk_nested (suc k) l x a b i j h =
      towards j (λ i. Has (W (suc k) (suc l) i j) x → Has (W (suc k) l i j) x)
      (rw (walk_end K price allowed (suc k) (suc l) j j (omega arith)) (λ o. absurd o))
      (step (dec_lt l k) (walk_nested k l x a)) i h
    where
      step : Dec (l < k) → (l < k → (i j : ℕ) → i ≤ j → Has (W k (suc l) i j) x → Has (W k l i j) x) →
          (i : ℕ) → i < j → ((v : ℕ) → i < v → v ≤ j → Has (W (suc k) (suc l) v j) x → Has (W (suc k) l v j) x) →
          Has (W (suc k) (suc l) i j) x → Has (W (suc k) l i j) x
      step (yes c) below i h ih =
          let v = N k i j in
          let r = next_range K price allowed k i j h in
          rw (walk_low K price allowed k l i j (omega arith) h, walk_low K price allowed k (suc l) i j c h)
          (λ o. ⊎_elim (λ p. has_left x (W k l i v) (W (suc k) l v j) (below c i v (omega (arith, r.0)) p))
          (λ p. has_right x (W k l i v) (W (suc k) l v j) (ih v r.0 r.1 p))
          (has_append x (W k (suc l) i v) (W (suc k) (suc l) v j) o))
      step (no c) below i h ih =
          let v = N k i j in
          let r = next_range K price allowed k i j h in
          let e : k ≡ l = omega arith in
          let top : ((v : ℕ) → i < v → v ≤ j → Has (W (suc k) (suc k) v j) x → Has (W (suc k) k v j) x) →
          Has (W (suc k) (suc k) i j) x → Has (W (suc k) k i j) x =
          λ ih. rw (walk_low K price allowed k k i j (omega arith) h, walk_top K price allowed k i j h)
          (λ o. ⊎_elim
          (λ p. has_left x (W k k i v) (W (suc k) k v j)
          (subst (λ z. Has (W k k i v) z) (sym p)
          (rises_last i v (W k k i v) r.0 (walk_rises k k (omega arith) (omega arith) i v (omega (arith, r.0))))))
          (λ p. has_right x (W k k i v) (W (suc k) k v j) (ih v r.0 r.1 p)) o) in
          subst (λ l. ((v : ℕ) → i < v → v ≤ j → Has (W (suc k) (suc l) v j) x → Has (W (suc k) l v j) x) → Has (W (suc k) (suc l) i j) x → Has (W (suc k) l i j) x) e top ih

  -- the family between i and j, as chains that start at i
  abbrev F : ℕ → ℕ → ℕ → ℕ → List ℕ
  F k i j l = i ∷ W k l i j

  total_none : (h k j : ℕ) → Eqv K (total K price h (F k j j)) K.neutral
  total_none zero k j = rfl rules K.neutral
  total_none (suc h) k j =
      tr rules (join rules (is rules (ap (λ vs. cost K price (suc h) (links_from j vs)) (walk_end K price allowed k (suc h) j j (omega arith)))) (total_none h k j)) (unit_l rules K.neutral)

  total_low : (h k i j : ℕ) → h ≤ k → i < j →
      Eqv K (total K price h (F (suc k) i j)) (K.join (total K price h (F k i (N k i j))) (total K price h (F (suc k) (N k i j) j)))
  total_low zero k i j a b = sy rules (unit_l rules K.neutral)
  total_low (suc h) k i j a b =
      let v = N k i j in
      let l = suc h in
      let r = next_range K price allowed k i j b in
      let xs = links_from i (W k l i v) in
      let ys = links_from v (W (suc k) l v j) in
      let e : links_from i (W (suc k) l i j) ≡ xs ++ ys =
      ap (links_from i) (walk_low K price allowed k l i j a b) ∙
      links_append i v (W k l i v) (W (suc k) l v j) (walk_rises k l (omega arith) a i v (omega (arith, r.0))) in
      tr rules (join rules (tr rules (is rules (ap (cost K price l) e)) (cost_append rules price l xs ys)) (total_low h k i j (omega arith) b))
      (swap rules (cost K price l xs) (cost K price l ys) (total K price h (F k i v)) (total K price h (F (suc k) v j)))

  walk_total : (k : ℕ) → k ≤ m → (i j : ℕ) → i ≤ j → j ≤ n - 1 → Eqv K (total K price k (F k i j)) (L K price allowed k i j)
  walk_total zero q i j h u = is rules (sym (L_zero K price allowed i j))
  walk_total (suc k) q i j h u =
      towards j (λ i. Eqv K (total K price (suc k) (F (suc k) i j)) (L K price allowed (suc k) i j))
      (tr rules (total_none (suc k) (suc k) j) (is rules (sym (L_end K price allowed (suc k) j j (omega arith)))))
      (step (walk_total k (omega arith))) i h
    where
      step : ((i j : ℕ) → i ≤ j → j ≤ n - 1 → Eqv K (total K price k (F k i j)) (L K price allowed k i j)) →
          (i : ℕ) → i < j → ((v : ℕ) → i < v → v ≤ j → Eqv K (total K price (suc k) (F (suc k) v j)) (L K price allowed (suc k) v j)) →
          Eqv K (total K price (suc k) (F (suc k) i j)) (L K price allowed (suc k) i j)
      step below i h ih =
          let v = N k i j in
          let r = next_range K price allowed k i j h in
          let p = price (suc k) i v in
          let top = cost K price (suc k) (links_from v (W (suc k) (suc k) v j)) in
          tr rules
          (join rules (is rules (ap (λ vs. cost K price (suc k) (links_from i vs)) (walk_top K price allowed k i j h)))
          (total_low k k i j (omega arith) h))
          (tr rules (sy rules (pull rules p (total K price k (F k i v)) top (total K price k (F (suc k) v j))))
          (tr rules (join rules (join rules (rfl rules p) (below i v (omega (arith, r.0)) (omega (arith, r.1)))) (ih v r.0 r.1))
          (next_first rules price allowed k i j h (near (suc k) i (omega arith) q (omega arith))).1))

  pub stands : Family allowed m n (first_least K price allowed m n) ×
      Same K (total K price m (first_least K price allowed m n)) (L K price allowed m 0 (n - 1))
  stands = (
    record {
      chains = λ k a b. (refl, walk_rises m k a b 0 (n - 1) (omega arith));
      nested = λ k a b v o. ⊎_elim inl (λ p. inr (walk_nested m k v a b 0 (n - 1) (omega arith) p)) o;
      links_allowed = λ k a b. walk_fine m k (omega arith) a b 0 (n - 1) (omega arith) (omega arith);
    },
    to_same rules (walk_total m (omega arith) 0 (n - 1) (omega arith) (omega arith)),
  )

  pub is_first : (k i j : ℕ) → k < m → i < j → j < n →
      (i < N k i j) × (N k i j ≤ j) × T (allowed (suc k) i (N k i j)) ×
      Same K (via K price allowed k i j (N k i j)) (L K price allowed (suc k) i j) ×
      ((v : ℕ) → i < v → v ≤ j → T (allowed (suc k) i v) → Same K (via K price allowed k i j v) (L K price allowed (suc k) i j) →
      N k i j ≤ v)
  is_first k i j a b c =
      let r = next_range K price allowed k i j b in
      let f = next_first rules price allowed k i j b (near (suc k) i (omega arith) a (omega arith)) in
      (r.0, r.1, f.0, to_same rules f.1, next_least rules price allowed k i j)
