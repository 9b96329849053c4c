-- How a row of the price table fills. Assumes nothing.
use Rattle.std.proofs.Common.{◌≡◌, ℕ, zero, suc, ◌+◌, ◌-◌, ◌<◌, ◌≤◌, min, Bool, true, false, cond, leb, List, get_or, sym, ap, ◌∙◌, subst, ap₂, inl, inr, ⊎_elim, add-one, arith}
use Rattle.std.proofs.lemmas.Bool.{cases_lt, cond-true, cond-false, le-leb, lt-leb}
use Rattle.families.specs.Price.{Kind, cheaper}
use Rattle.families.specs.Least.{L, cheapest}
use Rattle.families.proofs.LeastTotal.{L_zero, L_end, L_eq}
use Rattle.tables.specs.Price.{row}
use Rattle.tables.specs.Row.{KeptOutside, head, candidate, RowHolds, RowsHold, RowSoFar}
use Rattle.tables.proofs.Places.{row_after, row_before}

module _ {P : Type 0} (K : Kind P) (price : ℕ → ℕ → ℕ → P) (allowed : ℕ → ℕ → ℕ → Bool) where
  L_step : (k i j : ℕ) → 1 ≤ k → i < j →
      L K price allowed k i j ≡ cheapest K (allowed k i) (candidate K price allowed k i j) (suc i) (j - suc i)
  L_step zero i j a h = absurd (omega arith)
  L_step (suc k) i j a h =
      let e : k ≡ suc k - 1 = omega arith in
      L_eq K price allowed k i j h ∙
      ap (λ z. cheapest K (allowed (suc k) i) (λ v. K.join (K.join (price (suc k) i v) (L K price allowed z i v)) (L K price allowed (suc k) v j)) (suc i) (j - suc i)) e

  cheapest_more : (ok : ℕ → Bool) (f : ℕ → P) (i v : ℕ) → suc i < v →
      cheapest K ok f (suc i) (v - suc i) ≡
      cond (ok v) (cheaper K (cheapest K ok f (suc i) (v - 1 - suc i)) (f v)) (cheapest K ok f (suc i) (v - 1 - suc i))
  cheapest_more ok f i v h =
      let e : v - suc i ≡ suc (v - 1 - suc i) = omega arith in
      let d : suc i + suc (v - 1 - suc i) ≡ v = omega arith in
      ap (cheapest K ok f (suc i)) e ∙
      ap (λ w. cond (ok w) (cheaper K (cheapest K ok f (suc i) (v - 1 - suc i)) (f w)) (cheapest K ok f (suc i) (v - 1 - suc i))) d

  -- the cell at y after a candidate is taken in: its head joined with the cell at z, where that is cheaper
  abbrev taken : P → List P → ℕ → ℕ → P
  taken first cells y z = cheaper K (get_or cells y K.neutral) (K.join first (get_or cells z K.neutral))

  -- the cheapest candidate so far, by how far the candidates were looked at
  abbrev best_to : ℕ → ℕ → ℕ → ℕ → P
  best_to k i j z = cheapest K (allowed k i) (candidate K price allowed k i j) (suc i) (z - suc i)

  -- the head of a candidate
  pub head_is : (cells : List P) (n k i v : ℕ) → 1 ≤ k → v < n → (1 < k → RowHolds K price allowed cells n (k - 1) i) →
      head K (price k i v) cells n k i v ≡ K.join (price k i v) (L K price allowed (k - 1) i v)
  head_is cells n k i v a c f = ap (K.join (price k i v)) (⊎_elim low high (cases_lt 1 k))
    where
      low : 1 < k → cond (leb k 1) K.neutral (get_or cells (row n (k - 1) i + v) K.neutral) ≡ L K price allowed (k - 1) i v
      low h = cond-false (leb k 1) _ _ (lt-leb k 1 h) ∙ f h v c

      high : k ≤ 1 → cond (leb k 1) K.neutral (get_or cells (row n (k - 1) i + v) K.neutral) ≡ L K price allowed (k - 1) i v
      high h =
          let e : 0 ≡ k - 1 = omega arith in
          cond-true (leb k 1) _ _ (le-leb k 1 h) ∙ sym (L_zero K price allowed i v) ∙ ap (λ z. L K price allowed z i v) e

  -- what is written in a row leaves the other rows
  module _ (cells cells' : List P) (n k i : ℕ) (inside : i < n) (outside : KeptOutside K cells cells' (row n k i) (row n k i + n)) where
    further_kept : (w : ℕ) → i < w → RowHolds K price allowed cells n k w → RowHolds K price allowed cells' n k w
    further_kept w h f j b = outside (row n k w + j) (inr (omega (arith, row_after n k i w h))) ∙ f j b

    lower_kept : (h w : ℕ) → 1 ≤ h → h < k → w < n → RowHolds K price allowed cells n h w → RowHolds K price allowed cells' n h w
    lower_kept h w p q r f j b = outside (row n h w + j) (inl (omega (arith, row_before n h k i w p q r))) ∙ f j b

    below_kept : (1 < k → RowHolds K price allowed cells n (k - 1) i) → 1 < k → RowHolds K price allowed cells' n (k - 1) i
    below_kept f h = lower_kept (k - 1) i (omega arith) (omega arith) inside (f h)

    -- the rows past vertex i hold what they held
    pub rows_kept : RowsHold K price allowed cells n k (i + 1) → RowsHold K price allowed cells' n k (i + 1)
    rows_kept done = record {
      here = λ v a b. further_kept v (omega arith) (done.here v a b);
      below = λ h v a b d. lower_kept h v a b d (done.below h v a b d);
    }

    -- one row more of the table
    pub row_done : RowsHold K price allowed cells n k (i + 1) → RowHolds K price allowed cells' n k i → RowsHold K price allowed cells' n k i
    row_done done f = record {
      here = λ v a b. ⊎_elim
          (λ (l : i < v). further_kept v l (done.here v (omega arith) b))
          (λ (l : v ≤ i). let e : i ≡ v = omega arith in subst (λ z. RowHolds K price allowed cells' n k z) e f)
          (cases_lt i v);
      below = λ h v a b d. lower_kept h v a b d (done.below h v a b d);
    }

  -- a first link that is not allowed changes nothing
  pub candidates_left : (cells : List P) (n k i v : ℕ) → suc i < v → allowed k i v ≡ false →
      RowSoFar K price allowed cells n k i v → RowSoFar K price allowed cells n k i (v + 1)
  candidates_left cells n k i v h barred r = record {
    further = r.further;
    below = r.below;
    cleared = r.cleared;
    best = λ j a b. r.best j a b ∙ ⊎_elim
        (λ (l : j < v). let e : min (v - 1) j ≡ min (v + 1 - 1) j = omega arith in ap (best_to k i j) e)
        (λ (l : v ≤ j).
        let e : min (v - 1) j ≡ v - 1 = omega arith in
        let d : min (v + 1 - 1) j ≡ v = omega arith in
        ap (best_to k i j) e ∙
        sym (cond-false (allowed k i v) _ _ barred) ∙
        sym (cheapest_more (allowed k i) (candidate K price allowed k i j) i v h) ∙
        ap (best_to k i j) (sym d))
        (cases_lt j v);
  }

  -- the candidates over a first link that is allowed are taken in where they are cheaper
  pub candidates_taken : (cells cells' : List P) (n k i v : ℕ) (first : P) → 1 ≤ k → suc i < v → v < n → allowed k i v ≡ true →
      RowSoFar K price allowed cells n k i v → first ≡ head K (price k i v) cells n k i v →
      ((j : ℕ) → v ≤ j → j < n → get_or cells' (row n k i + j) K.neutral ≡ taken first cells (row n k i + j) (row n k v + j)) →
      KeptOutside K cells cells' (row n k i + v) (row n k i + n) → RowSoFar K price allowed cells' n k i (v + 1)
  candidates_taken cells cells' n k i v first one h small granted r is inside outside =
      let out : KeptOutside K cells cells' (row n k i) (row n k i + n) = λ y o. outside y (⊎_elim (λ a. inl (omega arith)) (λ b. inr b) o) in
      record {
        further = λ w a b. further_kept cells cells' n k i (omega arith) out w a (r.further w a b);
        below = below_kept cells cells' n k i (omega arith) out r.below;
        cleared = λ j a. outside (row n k i + j) (inl (omega arith)) ∙ r.cleared j a;
        best = λ j a b. ⊎_elim
            (λ (l : j < v).
            let e : min (v - 1) j ≡ min (v + 1 - 1) j = omega arith in
            outside (row n k i + j) (inl (omega arith)) ∙ r.best j a b ∙ ap (best_to k i j) e)
            (λ (l : v ≤ j).
            let e : min (v - 1) j ≡ v - 1 = omega arith in
            let d : min (v + 1 - 1) j ≡ v = omega arith in
            let hd = is ∙ head_is cells n k i v one small r.below in
            let before = r.best j a b ∙ ap (best_to k i j) e in
            let new : K.join first (get_or cells (row n k v + j) K.neutral) ≡ candidate K price allowed k i j v =
            ap₂ K.join hd (r.further v (omega arith) small j b) in
            inside j l b ∙
            ap₂ (λ x y. cheaper K x y) before new ∙
            sym (cond-true (allowed k i v) _ _ granted) ∙
            sym (cheapest_more (allowed k i) (candidate K price allowed k i j) i v h) ∙
            ap (best_to k i j) (sym d))
            (cases_lt j v);
      }

  -- the row of the last vertex, whose cells are all cleared
  pub row_last : (cells : List P) (n k i : ℕ) → i + 1 ≡ n → ((j : ℕ) → j ≤ i → get_or cells (row n k i + j) K.neutral ≡ K.neutral) →
      RowHolds K price allowed cells n k i
  row_last cells n k i last cleared j q = cleared j (omega arith) ∙ sym (L_end K price allowed k i j (omega arith))

  -- the candidates over the next vertex are put first
  pub row_begun : (cells cells' : List P) (n k i : ℕ) (first : P) → 1 ≤ k → i + 1 < n → RowsHold K price allowed cells n k (i + 1) →
      ((j : ℕ) → j ≤ i → get_or cells (row n k i + j) K.neutral ≡ K.neutral) →
      first ≡ head K (price k i (i + 1)) cells n k i (i + 1) →
      ((j : ℕ) → i + 1 ≤ j → j < n → get_or cells' (row n k i + j) K.neutral ≡ K.join first (get_or cells (row n k (i + 1) + j) K.neutral)) →
      KeptOutside K cells cells' (row n k i + (i + 1)) (row n k i + n) → RowSoFar K price allowed cells' n k i (i + 2)
  row_begun cells cells' n k i first one small done cleared is put kept =
      let out : KeptOutside K cells cells' (row n k i) (row n k i + n) = λ y o. kept y (⊎_elim (λ p. inl (omega arith)) (λ p. inr p) o) in
      let below : 1 < k → RowHolds K price allowed cells n (k - 1) i = λ h. done.below (k - 1) i (omega arith) (omega arith) (omega arith) in
      let hd = is ∙ head_is cells n k i (i + 1) one small below in
      let f = done.here (i + 1) (omega arith) small in
      record {
        further = λ w p q. further_kept cells cells' n k i (omega arith) out w p (done.here w (omega arith) q);
        below = below_kept cells cells' n k i (omega arith) out below;
        cleared = λ j h. kept (row n k i + j) (inl (omega arith)) ∙ cleared j h;
        best = λ j p q.
            let z : 0 ≡ min (i + 2 - 1) j - suc i = omega arith in
            put j (omega arith) q ∙ ap₂ K.join hd (f j q) ∙ ap (candidate K price allowed k i j) (add-one i) ∙
            ap (λ u. cheapest K (allowed k i) (candidate K price allowed k i j) (suc i) u) z;
      }

  -- a row whose candidates are all taken in
  pub row_whole : (cells : List P) (n k i : ℕ) → 1 ≤ k → RowSoFar K price allowed cells n k i n → RowHolds K price allowed cells n k i
  row_whole cells n k i one r j b =
      ⊎_elim
      (λ (l : i < j).
      let e : min (n - 1) j ≡ j = omega arith in
      r.best j l b ∙ ap (best_to k i j) e ∙ sym (L_step k i j one l))
      (λ (l : j ≤ i). r.cleared j l ∙ sym (L_end K price allowed k i j l))
      (cases_lt i j)
