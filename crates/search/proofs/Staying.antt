-- Which vertices are read off stays. Assumes nothing.
use Rattle.std.proofs.Common.{◌≡◌, ℕ, zero, suc, ◌+◌, ◌<◌, ◌≤◌, Bool, true, false, cond, filter, nat_le, T, leb, ◌∷◌, Some, None, MatchOption, Option, sym, refl, ap, ◌∙◌, subst, inl, inr, ⊎_elim, add-one, arith, leb→le}
use Rattle.std.specs.List.{range_with_len}
use native.Mathlib.Decide.{dec_lt}
use Rattle.std.proofs.lemmas.Bool.{cases_lt, le-leb}
use Rattle.families.specs.Chain.{Has}
use Rattle.families.specs.Stay.{staying, read_off}
use Rattle.search.specs.Next.{NextOnChain}

-- a vertex that is read off lies in the range and stays long enough
pub staying_has : (stays : ℕ → ℕ) (k v more u : ℕ) → Has (staying stays k v more) u → (v ≤ u) × (u < v + more) × (k ≤ stays u)
staying_has stays k v zero u h = absurd h
staying_has stays k v (suc more) u h = go (leb k (stays v)) refl (λ t. staying_has stays k (suc v) more u t) h
  where
    go : (x : Bool) → leb k (stays v) ≡ x → (Has (staying stays k (suc v) more) u → (suc v ≤ u) × (u < suc v + more) × (k ≤ stays u)) →
        Has (cond x (v ∷ staying stays k (suc v) more) (staying stays k (suc v) more)) u → (v ≤ u) × (u < v + suc more) × (k ≤ stays u)
    go true e ih (inl q) =
        (omega arith, omega arith, subst (λ z. k ≤ stays z) (sym q) (leb→le k (stays v) (subst T (sym e) tt)))
    go true e ih (inr t) = let r = ih t in (omega (arith, r.0), omega (arith, r.1), r.2)
    go false e ih t = let r = ih t in (omega (arith, r.0), omega (arith, r.1), r.2)

-- and each such vertex is read off
pub has_staying : (stays : ℕ → ℕ) (k v more u : ℕ) → v ≤ u → u < v + more → k ≤ stays u → Has (staying stays k v more) u
has_staying stays k v zero u a b c = absurd (omega arith)
has_staying stays k v (suc more) u a b c = go (dec_lt v u) (leb k (stays v)) refl (λ l. has_staying stays k (suc v) more u l (omega arith) c)
  where
    go : Dec (v < u) → (x : Bool) → leb k (stays v) ≡ x → (v < u → Has (staying stays k (suc v) more) u) →
        Has (cond x (v ∷ staying stays k (suc v) more) (staying stays k (suc v) more)) u
    go (yes l) true e ih = inr (ih l)
    go (yes l) false e ih = ih l
    go (no l) true e ih = inl (omega arith)
    go (no l) false e ih =
        let q : u ≡ v = omega arith in
        absurd (subst T (sym (le-leb k (stays v) (subst (λ z. k ≤ stays z) q c)) ∙ e) tt)

-- the next vertex on a chain that is read off: the first from `start` on that stays long enough
module _ (stays : ℕ → ℕ) (k v n start : ℕ) (above : (u : ℕ) → u < n → (v < u → start ≤ u) × (start ≤ u → v < u)) where
  pub next_told : (r : Option ℕ) →
      MatchOption r ((u : ℕ) → start ≤ u → u < n → stays u < k) (λ w. (start ≤ w) × (w < n) × (k ≤ stays w) × ((u : ℕ) → start ≤ u → u < w → stays u < k)) →
      NextOnChain (read_off stays n k) v r
  next_told (Some w) h = (
    has_staying stays k 0 n w (omega arith) (omega (arith, h.1)) h.2,
    (above w h.1).1 h.0,
    λ u has l.
        let r = staying_has stays k 0 n u has in
        ⊎_elim (λ (a : u < w). absurd (omega (arith, h.3 u ((above u (omega (arith, r.1))).0 l) a, r.2))) (λ (a : w ≤ u). a) (cases_lt u w),
  )
  next_told None h = λ u has l.
      let r = staying_has stays k 0 n u has in
      let inside : u < n = omega (arith, r.1) in
      omega (arith, h u ((above u inside).0 l) inside, r.2)

-- what is read off are the numbers of a range that stay long enough
pub staying_range : (stays : ℕ → ℕ) (k n v : ℕ) → filter (λ u. nat_le k (stays u)) (range_with_len v n) ≡ staying stays k v n
staying_range stays k zero v = refl
staying_range stays k (suc n) v =
    ap (λ us. cond (nat_le k (stays v)) (v ∷ us) us) (staying_range stays k n (v + 1) ∙ ap (λ z. staying stays k z n) (add-one v))
