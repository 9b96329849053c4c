-- No family costs less than L. Assumes nothing.
use Rattle.std.proofs.Common.{◌≡◌, ℕ, zero, suc, ◌-◌, ◌<◌, ◌≤◌, Bool, T, List, [], ◌∷◌, sym, refl, subst, ap₂, inl, arith}
use native.Mathlib.Decide.{dec_le}
use Rattle.families.specs.Price.{Kind, Rules, NotDearer}
use Rattle.families.specs.Chain.{Chain, Has}
use Rattle.families.specs.Family.{Family, total}
use Rattle.families.specs.Least.{L}
use Rattle.families.proofs.Algebra.{Leq, Eqv, le_tr, le_join, le_rfl, rfl, sy, tr, join, swap, pull, unit_l}
use Rattle.families.proofs.Onward.{towards}
use Rattle.families.proofs.LeastTotal.{L_zero, L_end, L_le}
use Rattle.families.proofs.Rising.{rises_end}
use Rattle.families.proofs.Segments.{seg, seg_all, seg_none, seg_split, seg_next}

-- what the links between i and j cost, of the chains of the levels 1 .. k
abbrev pub part : {P : Type 0} → Kind P → (ℕ → ℕ → ℕ → P) → (ℕ → List ℕ) → ℕ → ℕ → ℕ → P
part K price chain zero i j = K.neutral
part K price chain (suc k) i j = K.join (seg K price (suc k) i j (chain (suc k))) (part K price chain k i j)

-- v is on the chain of each level 1 .. k
abbrev pub Through : (ℕ → List ℕ) → ℕ → ℕ → Type 0
Through chain k v = (l : ℕ) → 1 ≤ l → l ≤ k → Has (chain l) v

module _ (allowed : ℕ → ℕ → ℕ → Bool) (m n : ℕ) (chain : ℕ → List ℕ) (fam : Family allowed m n chain) where
  -- a vertex of a chain is on the chains of the levels below
  pub through : (k v : ℕ) → k ≤ m → Has (chain k) v → Through chain k v
  through zero v h o l p q = absurd (omega arith)
  through (suc k) v h o l p q = go (dec_le l k) (λ l'. through k v (omega arith) (fam.nested k l' h v o) l p)
    where
      go : Dec (l ≤ k) → (1 ≤ k → l ≤ k → Has (chain l) v) → Has (chain l) v
      go (yes x) f = f (omega arith) x
      go (no x) f = let e : suc k ≡ l = omega arith in subst (λ z. Has (chain z) v) e o

module _ {P : Type 0} {K : Kind P} (rules : Rules K) (price : ℕ → ℕ → ℕ → P) (allowed : ℕ → ℕ → ℕ → Bool) (m n : ℕ) (chain : ℕ → List ℕ)
    (fam : Family allowed m n chain) where
  part_all : (k : ℕ) → k ≤ m → part K price chain k 0 (n - 1) ≡ total K price k chain
  part_all zero h = refl
  part_all (suc k) h =
      ap₂ K.join (seg_all K price (suc k) n (chain (suc k)) (fam.chains (suc k) (omega arith) h)) (part_all k (omega arith))

  part_none : (k i j : ℕ) → k ≤ m → j ≤ i → Eqv K (part K price chain k i j) K.neutral
  part_none zero i j h l = rfl rules K.neutral
  part_none (suc k) i j h l =
      tr rules (join rules (seg_none rules price (suc k) i j n (chain (suc k)) (fam.chains (suc k) (omega arith) h) l) (part_none k i j (omega arith) l)) (unit_l rules K.neutral)

  part_split : (k i v j : ℕ) → k ≤ m → Through chain k v → i ≤ v → v ≤ j →
      Eqv K (part K price chain k i j) (K.join (part K price chain k i v) (part K price chain k v j))
  part_split zero i v j h o a b = sy rules (unit_l rules K.neutral)
  part_split (suc k) i v j h o a b =
      let c = chain (suc k) in
      tr rules
      (join rules
      (seg_split rules price (suc k) i v j n c (fam.chains (suc k) (omega arith) h) (o (suc k) (omega arith) (omega arith)) a b)
      (part_split k i v j (omega arith) (λ l p q. o l p (omega arith)) a b))
      (swap rules (seg K price (suc k) i v c) (seg K price (suc k) v j c) (part K price chain k i v) (part K price chain k v j))

  -- over the first link of the chain, i → v
  over : (k i v j : ℕ) → suc k ≤ m → i < v → v ≤ j → Through chain (suc k) v → T (allowed (suc k) i v) →
      Eqv K (seg K price (suc k) i v (chain (suc k))) (price (suc k) i v) → Leq K (L K price allowed k i v) (part K price chain k i v) →
      Leq K (L K price allowed (suc k) v j) (part K price chain (suc k) v j) →
      Leq K (L K price allowed (suc k) i j) (part K price chain (suc k) i j)
  over k i v j h a b o t e below further =
      let c = chain (suc k) in
      let cut = seg_split rules price (suc k) i v j n c (fam.chains (suc k) (omega arith) h) (o (suc k) (omega arith) (omega arith))
      (omega arith) b in
      let rest = part_split k i v j (omega arith) (λ l p q. o l p (omega arith)) (omega arith) b in
      le_tr rules (L_le rules price allowed k i j v a b t)
      (le_tr rules (le_join rules (le_join rules e.from below) further)
      (tr rules (pull rules (seg K price (suc k) i v c) (part K price chain k i v) (seg K price (suc k) v j c) (part K price chain k v j))
      (sy rules (join rules cut rest))).to)

  claim : (k : ℕ) → k ≤ m → (i j : ℕ) → i ≤ j → Through chain k i → Through chain k j →
      Leq K (L K price allowed k i j) (part K price chain k i j)
  claim zero h i j l x y = rw (L_zero K price allowed i j) (le_rfl rules K.neutral)
  claim (suc k) h i j l x y =
      towards j (λ i. Through chain (suc k) i → Leq K (L K price allowed (suc k) i j) (part K price chain (suc k) i j))
      (λ x. rw (L_end K price allowed (suc k) j j (omega arith)) (part_none (suc k) j j h (omega arith)).from)
      (step (claim k (omega arith))) i l x
    where
      step : ((i j : ℕ) → i ≤ j → Through chain k i → Through chain k j → Leq K (L K price allowed k i j) (part K price chain k i j)) →
          (i : ℕ) → i < j →
          ((v : ℕ) → i < v → v ≤ j → Through chain (suc k) v → Leq K (L K price allowed (suc k) v j) (part K price chain (suc k) v j)) →
          Through chain (suc k) i → Leq K (L K price allowed (suc k) i j) (part K price chain (suc k) i j)
      step below i l further x =
          let s = seg_next rules price (λ e. T (allowed (suc k) e.0 e.1)) (suc k) i j n (chain (suc k))
          (fam.chains (suc k) (omega arith) h)
          (fam.links_allowed (suc k) (omega arith) h) l (x (suc k) (omega arith) (omega arith)) (y (suc k) (omega arith) (omega arith)) in
          let o = through allowed m n chain fam (suc k) s.0 h s.3 in
          over k i s.0 j h s.1 s.2 o s.4 s.5
          (below i s.0 (omega (arith, s.1)) (λ e p q. x e p (omega arith)) (λ e p q. o e p (omega arith)))
          (further s.0 s.1 s.2 o)

  ends : (c : List ℕ) → Chain n c → Has c 0 × Has c (n - 1)
  ends [] r = absurd r
  ends (a ∷ bs) r = (inl (sym r.0), rises_end a (n - 1) bs r.1)

  pub nothing_smaller : NotDearer K (L K price allowed m 0 (n - 1)) (total K price m chain)
  nothing_smaller =
      rw (← part_all m (omega arith))
      (claim m (omega arith) 0 (n - 1) (omega arith) (λ l p q. (ends (chain l) (fam.chains l p q)).0)
      (λ l p q. (ends (chain l) (fam.chains l p q)).1)).le
