-- What is read off the price table and put into it. Assumes nothing.
use Rattle.std.proofs.Common.{◌≡◌, ℕ, ◌+◌, ◌-◌, ◌*◌, ◌^◌, ◌<◌, ◌≤◌, min, Bool, true, false, cond, ◌&&◌, T, ltb, leb, List, length, get_or, set, Some, None, sym, refl, ap, ◌∙◌, subst, ⊎_elim, arith, ltb→lt, leb→le}
use Rattle.std.proofs.lemmas.List.{get_or_past, set_past, get_or-set_same, get_or-set_other}
use Rattle.std.proofs.lemmas.Bool.{cases_lt, le-leb, le-ltb, lt-ltb}
use Rattle.families.proofs.Bools.{left, right}
use Rattle.tables.proofs.Cells.{placed}
use Rattle.tables.specs.Price.{row, has_cell, cell_place, price_at, price_put, ReadsBack}
use Rattle.tables.proofs.Places.{row_number, row_after, row_before}

-- two cells with one place are one cell
pub same_cell : (n k i j h a b : ℕ) → 1 ≤ k → i < n → j < n → 1 ≤ h → a < n → b < n → row n k i + j ≡ row n h a + b →
    (h ≡ k) × (a ≡ i) × (b ≡ j)
same_cell n k i j h a b one-k i-in j-in one-h a_in b-in e =
    ⊎_elim
    (λ (l : k < h). absurd (omega (arith, row_before n k h a i one-k l i-in)))
    (λ (l : h ≤ k). ⊎_elim
    (λ (l' : h < k). absurd (omega (arith, row_before n h k i a one-h l' a_in)))
    (λ (l' : k ≤ h). level (omega arith))
    (cases_lt h k))
    (cases_lt k h)
  where
    level : h ≡ k → (h ≡ k) × (a ≡ i) × (b ≡ j)
    level q =
        let f : row n k i + j ≡ row n k a + b = subst (λ z. row n k i + j ≡ row n z a + b) q e in
        ⊎_elim
        (λ (l : i < a). absurd (omega (arith, row_after n k i a l)))
        (λ (l : a ≤ i). ⊎_elim
        (λ (l' : a < i). absurd (omega (arith, row_after n k a i l')))
        (λ (l' : i ≤ a).
        let p : a ≡ i = omega arith in
        let s : row n k i + j ≡ row n k i + b = subst (λ z. row n k i + j ≡ row n k z + b) p f in
        (q, p, omega arith))
        (cases_lt a i))
        (cases_lt i a)

module _ (n k i j : ℕ) where
  pub cell_parts : T (has_cell n k i j) → (1 ≤ k) × (i < n) × (j < n)
  cell_parts t =
      let r = right (leb 1 k) (ltb i n && ltb j n) t in
      (leb→le 1 k (left (leb 1 k) (ltb i n && ltb j n) t), ltb→lt i n (left (ltb i n) (ltb j n) r), ltb→lt j n (right (ltb i n) (ltb j n) r))

  module _ {P : Type 0} (cells : List P) where
    -- the cell is at its place
    pub at_place : (p : ℕ) (neutral : P) → Some p ≡ cell_place n k i j (length cells) →
        (p < length cells) × (price_at neutral cells n k i j ≡ get_or cells p neutral) × ((x : P) → price_put cells n k i j x ≡ set cells p x)
    at_place p neutral e = go (has_cell n k i j) (ltb (row n k i + j) (length cells)) refl e
      where
        go : (x y : Bool) → ltb (row n k i + j) (length cells) ≡ y → Some p ≡ cond x (cond y (Some (row n k i + j)) None) None →
            (p < length cells) × (cond x (get_or cells (row n k i + j) neutral) neutral ≡ get_or cells p neutral) ×
            ((z : P) → cond x (set cells (row n k i + j) z) cells ≡ set cells p z)
        go true true q e =
            let s : row n k i + j ≡ p = cc in
            (subst (λ z. z < length cells) s (ltb→lt (row n k i + j) (length cells) (subst T (sym q) tt)), ap (λ z. get_or cells z neutral) s, λ x. ap (λ z. set cells z x) s)
        go true false q e = let z : ◌≡◌ {A = ℕ} 0 1 = cc in absurd (omega arith)
        go false y q e = let z : ◌≡◌ {A = ℕ} 0 1 = cc in absurd (omega arith)

    -- where there is no place, nothing is read or put
    pub no_place : (neutral : P) → None ≡ cell_place n k i j (length cells) →
        (price_at neutral cells n k i j ≡ neutral) × ((x : P) → price_put cells n k i j x ≡ cells)
    no_place neutral e = go (has_cell n k i j) (ltb (row n k i + j) (length cells)) refl e
      where
        go : (x y : Bool) → ltb (row n k i + j) (length cells) ≡ y → None ≡ cond x (cond y (Some (row n k i + j)) None) None →
            (cond x (get_or cells (row n k i + j) neutral) neutral ≡ neutral) × ((z : P) → cond x (set cells (row n k i + j) z) cells ≡ cells)
        go true true q e = let z : ◌≡◌ {A = ℕ} 0 1 = cc in absurd (omega arith)
        go true false q e =
            let past : length cells ≤ row n k i + j = ⊎_elim (λ (l : row n k i + j < length cells). absurd (contra l)) (λ l. l) (cases_lt (row n k i + j) (length cells)) in
            (get_or_past cells (row n k i + j) neutral past, λ z. set_past cells (row n k i + j) z past)
          where
            contra : row n k i + j < length cells → ⊥
            contra l = subst T (sym (lt-ltb (row n k i + j) (length cells) l) ∙ q) tt
        go false y q e = (refl, λ z. refl)

    -- what is put at a place is read back there, and nowhere else
    put_reads : (neutral x : P) → ReadsBack neutral cells (price_put cells n k i j x) n k i j x
    put_reads neutral x = record {
      here = λ t lt. held (has_cell n k i j) t lt;
      elsewhere = λ h a b other. apart h a b other (has_cell n k i j) (λ t. cell_parts t) (has_cell n h a b) (λ t. other_parts h a b t);
    }
      where
        held : (y : Bool) → T y → row n k i + j < length cells → cond y (get_or (cond y (set cells (row n k i + j) x) cells) (row n k i + j) neutral) neutral ≡ x
        held true t lt = get_or-set_same cells (row n k i + j) x neutral lt
        held false t lt = absurd t

        other_parts : (h a b : ℕ) → T (has_cell n h a b) → (1 ≤ h) × (a < n) × (b < n)
        other_parts h a b t =
            let r = right (leb 1 h) (ltb a n && ltb b n) t in
            (leb→le 1 h (left (leb 1 h) (ltb a n && ltb b n) t), ltb→lt a n (left (ltb a n) (ltb b n) r), ltb→lt b n (right (ltb a n) (ltb b n) r))

        apart : (h a b : ℕ) → ((h ≡ k) × (a ≡ i) × (b ≡ j) → ⊥) →
            (y : Bool) → (T y → (1 ≤ k) × (i < n) × (j < n)) → (z : Bool) → (T z → (1 ≤ h) × (a < n) × (b < n)) →
            cond z (get_or (cond y (set cells (row n k i + j) x) cells) (row n h a + b) neutral) neutral ≡ cond z (get_or cells (row n h a + b) neutral) neutral
        apart h a b other y mine false yours = refl
        apart h a b other false mine true yours = refl
        apart h a b other true mine true yours =
            let p = mine tt in
            let q = yours tt in
            get_or-set_other cells (row n k i + j) (row n h a + b) x neutral
            (λ e. other (same_cell n k i j h a b p.0 p.1 p.2 q.0 q.1 q.2 (sym e)))

    pub put_so : (neutral x : P) (after : List P) → after ≡ price_put cells n k i j x → ReadsBack neutral cells after n k i j x
    put_so neutral x after e = subst (λ l. ReadsBack neutral cells l n k i j x) (sym e) (put_reads neutral x)

-- the place that the code reckons with ceilings
module _ (n k i j room : ℕ) (one : 1 ≤ k) (i-in : i < n) (j-in : j < n) (x y z w : ℕ)
    (p : x ≡ min ((k - 1) * n) 18446744073709551615) (q : y ≡ min (x + i) 18446744073709551615)
    (r : z ≡ min (y * n) 18446744073709551615) (s : w ≡ min (z + j) 18446744073709551615) where
  ceiling : w ≡ min (row n k i + j) 18446744073709551615
  ceiling = placed (k - 1) n i j x y z w p q r s ∙ ap (λ u. min (u + j) 18446744073709551615) (sym (row_number n k i))

  has : has_cell n k i j ≡ true
  has = rw (le-leb 1 k one, lt-ltb i n i-in, lt-ltb j n j-in) refl

  pub place_in : w < room → room < 2 ^ 64 → Some w ≡ cell_place n k i j room
  place_in l fits =
      let e : row n k i + j ≡ w = omega (arith, ceiling) in
      let t : ltb (row n k i + j) room ≡ true = lt-ltb (row n k i + j) room (omega arith) in
      rw (has, t) (ap Some (sym e))

  pub place_out : room ≤ w → None ≡ cell_place n k i j room
  place_out l =
      let t : ltb (row n k i + j) room ≡ false = le-ltb (row n k i + j) room (omega (arith, ceiling)) in
      rw (has, t) refl
