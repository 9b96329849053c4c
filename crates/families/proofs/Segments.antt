-- What the part of a chain between two of its vertices costs. Assumes nothing.
use Rattle.std.proofs.Common.{◌≡◌, ℕ, ◌-◌, ◌<◌, ◌≤◌, Bool, true, false, ◌&&◌, T, leb, ◌⊎◌, List, [], ◌∷◌, sym, refl, subst, ap₂, inl, inr, arith, leb→le}
use Rattle.std.proofs.lemmas.Bool.{le-leb, lt-leb}
use Rattle.std.specs.List.{AllByRecursion}
use Rattle.families.specs.Price.{Kind, Rules}
use Rattle.families.specs.Chain.{Rises, Chain, Has, links_from, links}
use Rattle.families.specs.Family.{cost}
use Rattle.families.proofs.Algebra.{Eqv, is, rfl, sy, tr, join, swap, unit_l, unit_r}
use Rattle.families.proofs.Rising.{rises_up, rises_above, rises_least}

module _ {P : Type 0} (K : Kind P) where
  abbrev pub pick : Bool → P → P
  pick true p = p
  pick false p = K.neutral

module _ {P : Type 0} (K : Kind P) (price : ℕ → ℕ → ℕ → P) where
  -- what those links of a walk cost that lie between i and j
  abbrev pub seg_from : ℕ → ℕ → ℕ → ℕ → List ℕ → P
  seg_from k i j a [] = K.neutral
  seg_from k i j a (b ∷ bs) = K.join (pick K (leb i a && leb b j) (price k a b)) (seg_from k i j b bs)

  abbrev pub seg : ℕ → ℕ → ℕ → List ℕ → P
  seg k i j [] = K.neutral
  seg k i j (a ∷ bs) = seg_from k i j a bs

module _ {P : Type 0} (K : Kind P) where
  pick_in : (p : P) (i j a b : ℕ) → i ≤ a → b ≤ j → pick K (leb i a && leb b j) p ≡ p
  pick_in p i j a b h g = rw (le-leb i a h, le-leb b j g)

  pick_out : (p : P) (i j a b : ℕ) → a < i → pick K (leb i a && leb b j) p ≡ K.neutral
  pick_out p i j a b h = rw (lt-leb i a h)

module _ {P : Type 0} (K : Kind P) (price : ℕ → ℕ → ℕ → P) where
  all_from : (k i j a e : ℕ) (bs : List ℕ) → Rises a e bs → i ≤ a → e ≤ j → seg_from K price k i j a bs ≡ cost K price k (links_from a bs)
  all_from k i j a e [] r h g = refl
  all_from k i j a e (b ∷ bs) r h g =
      let up = rises_up b e bs r.1 in
      ap₂ K.join (pick_in K (price k a b) i j a b h (omega arith)) (all_from k i j b e bs r.1 (omega arith) g)

  -- the whole chain
  pub seg_all : (k n : ℕ) (c : List ℕ) → Chain n c → seg K price k 0 (n - 1) c ≡ cost K price k (links c)
  seg_all k n [] r = absurd r
  seg_all k n (a ∷ bs) r = all_from k 0 (n - 1) a (n - 1) bs r.1 (omega arith) (omega arith)

module _ {P : Type 0} {K : Kind P} (rules : Rules K) (price : ℕ → ℕ → ℕ → P) where
  none_from : (k i j a e : ℕ) (bs : List ℕ) → Rises a e bs → (j ≤ i) ⊎ (j ≤ a) → Eqv K (seg_from K price k i j a bs) K.neutral
  none_from k i j a e [] r h = rfl rules K.neutral
  none_from k i j a e (b ∷ bs) r h =
      tr rules (join rules (out h (leb i a) refl) (none_from k i j b e bs r.1 (on h))) (unit_l rules K.neutral)
    where
      on : (j ≤ i) ⊎ (j ≤ a) → (j ≤ i) ⊎ (j ≤ b)
      on (inl x) = inl x
      on (inr x) = inr (omega arith)

      out : (j ≤ i) ⊎ (j ≤ a) → (t : Bool) → leb i a ≡ t → Eqv K (pick K (t && leb b j) (price k a b)) K.neutral
      out h true q = let l = leb→le i a (subst T (sym q) tt) in rw (lt-leb b j (low h l)) (rfl rules K.neutral)
        where
          low : (j ≤ i) ⊎ (j ≤ a) → i ≤ a → j < b
          low (inl x) l = omega arith
          low (inr x) l = omega arith
      out h false q = rfl rules K.neutral

  pick_split : (p : P) (i v j a b : ℕ) → a < b → i ≤ v → v ≤ j → (v ≤ a) ⊎ (b ≤ v) →
      Eqv K (pick K (leb i a && leb b j) p) (K.join (pick K (leb i a && leb b v) p) (pick K (leb v a && leb b j) p))
  pick_split p i v j a b l h g (inl x) =
      rw (le-leb i a (omega arith), le-leb v a x, lt-leb b v (omega arith)) (sy rules (unit_l rules (pick K (leb b j) p)))
  pick_split p i v j a b l h g (inr x) =
      rw (le-leb b v x, le-leb b j (omega arith), lt-leb v a (omega arith)) (sy rules (unit_r rules (pick K (leb i a && true) p)))

  split_from : (k i v j a e : ℕ) (bs : List ℕ) → Rises a e bs → i ≤ v → v ≤ j → (v ≤ a) ⊎ Has bs v →
      Eqv K (seg_from K price k i j a bs) (K.join (seg_from K price k i v a bs) (seg_from K price k v j a bs))
  split_from k i v j a e [] r h g o = sy rules (unit_l rules K.neutral)
  split_from k i v j a e (b ∷ bs) r h g o =
      tr rules (join rules (pick_split (price k a b) i v j a b r.0 h g (side o)) (split_from k i v j b e bs r.1 h g (on o)))
      (swap rules (pick K (leb i a && leb b v) (price k a b)) (pick K (leb v a && leb b j) (price k a b)) (seg_from K price k i v b bs)
      (seg_from K price k v j b bs))
    where
      on : (v ≤ a) ⊎ Has (b ∷ bs) v → (v ≤ b) ⊎ Has bs v
      on (inl x) = let l = r.0 in inl (omega arith)
      on (inr (inl x)) = inl (omega arith)
      on (inr (inr x)) = inr x

      side : (v ≤ a) ⊎ Has (b ∷ bs) v → (v ≤ a) ⊎ (b ≤ v)
      side (inl x) = inl x
      side (inr (inl x)) = inr (omega arith)
      side (inr (inr x)) = let l = rises_above b e v bs r.1 x in inr (omega arith)

  pub seg_none : (k i j n : ℕ) (c : List ℕ) → Chain n c → j ≤ i → Eqv K (seg K price k i j c) K.neutral
  seg_none k i j n [] r h = absurd r
  seg_none k i j n (a ∷ bs) r h = none_from k i j a (n - 1) bs r.1 (inl h)

  -- a chain falls in two at a vertex that is on it
  pub seg_split : (k i v j n : ℕ) (c : List ℕ) → Chain n c → Has c v → i ≤ v → v ≤ j →
      Eqv K (seg K price k i j c) (K.join (seg K price k i v c) (seg K price k v j c))
  seg_split k i v j n [] r o h g = absurd r
  seg_split k i v j n (a ∷ bs) r (inl x) h g = split_from k i v j a (n - 1) bs r.1 h g (inl (omega arith))
  seg_split k i v j n (a ∷ bs) r (inr x) h g = split_from k i v j a (n - 1) bs r.1 h g (inr x)

  next_from : (Q : ℕ × ℕ → Type 0) (k i j a e : ℕ) (bs : List ℕ) → Rises a e bs → AllByRecursion Q (links_from a bs) → i < j → Has (a ∷ bs) i →
      Has (a ∷ bs) j →
      (v : ℕ) × (i < v) × (v ≤ j) × Has bs v × Q (i, v) × Eqv K (seg_from K price k i v a bs) (price k i v)
  next_from Q k i j a e [] r q h (inl x) (inl y) = absurd (omega arith)
  next_from Q k i j a e [] r q h (inl x) (inr y) = absurd y
  next_from Q k i j a e [] r q h (inr x) y = absurd x
  next_from Q k i j a e (b ∷ bs) r q h (inl x) y = (
    b,
    omega arith,
    upto y,
    inl refl,
    subst (λ z. Q (z, b)) (sym x) q.0,
    subst
        (λ z. Eqv K (seg_from K price k z b a (b ∷ bs)) (price k z b)) (sym x) first,
  )
    where
      upto : Has (a ∷ b ∷ bs) j → b ≤ j
      upto (inl z) = absurd (omega arith)
      upto (inr z) = rises_least b e j bs r.1 z

      first : Eqv K (seg_from K price k a b a (b ∷ bs)) (price k a b)
      first =
          tr rules (join rules (is rules (pick_in K (price k a b) a b a b (omega arith) (omega arith))) (none_from k a b b e bs r.1 (inr (omega arith))))
          (unit_r rules (price k a b))
  next_from Q k i j a e (b ∷ bs) r q h (inr x) (inl y) = let l = rises_least b e i bs r.1 x in absurd (omega arith)
  next_from Q k i j a e (b ∷ bs) r q h (inr x) (inr y) =
      let s = next_from Q k i j b e bs r.1 q.1 h x y in
      let l : a < i = omega (arith, rises_least b e i bs r.1 x) in (
        s.0,
        s.1,
        s.2,
        inr s.3,
        s.4,
        tr rules (join rules (is rules (pick_out K (price k a b) i s.0 a b l)) s.5) (unit_l rules (price k i s.0)),
      )

  -- the link of a chain that starts at i
  pub seg_next : (Q : ℕ × ℕ → Type 0) (k i j n : ℕ) (c : List ℕ) → Chain n c → AllByRecursion Q (links c) → i < j → Has c i → Has c j →
      (v : ℕ) × (i < v) × (v ≤ j) × Has c v × Q (i, v) × Eqv K (seg K price k i v c) (price k i v)
  seg_next Q k i j n [] r q h x y = absurd r
  seg_next Q k i j n (a ∷ bs) r q h x y =
      let s = next_from Q k i j a (n - 1) bs r.1 q h x y in (s.0, s.1, s.2, inr s.3, s.4, s.5)
