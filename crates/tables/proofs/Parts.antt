-- A part of a slice that is written, beside another part that is read. Assumes nothing.
use Rattle.std.proofs.Common.{◌≡◌, ℕ, zero, suc, ◌+◌, ◌<◌, ◌≤◌, ◌⊎◌, List, [], ◌∷◌, ◌++◌, length, get_or, refl, ⊎_elim, arith}
use Rattle.std.specs.List.{FoldsTo}
use Rattle.std.proofs.lemmas.List.{places}
use borrow.Rule.Slice.PartMut.{put_mid, mid_of}

module _ {X : Type 0} (a k : ℕ) (front ys : List X) (d : X) (len : length ys ≡ k) (fits : a + k ≤ length front) where
  -- the cells of the part are those that were written
  pub part_in : (x : ℕ) → x < k → get_or (put_mid a k front ys) (a + x) d ≡ get_or ys x d
  part_in x h = grind (arith, places)

  -- the other cells stay
  pub part_out : (y : ℕ) → (y < a) ⊎ (a + k ≤ y) → get_or (put_mid a k front ys) y d ≡ get_or front y d
  part_out y o = ⊎_elim (λ (h : y < a). grind (arith, places)) (λ (h : a + k ≤ y). grind (arith, places)) o

  module _ (back cells : List X) (is : cells ≡ front ++ back) where
    pub both_in : (x : ℕ) → x < k → get_or (put_mid a k front ys ++ back) (a + x) d ≡ get_or ys x d
    both_in x h = grind (arith, places)

    pub both_out : (y : ℕ) → (y < a) ⊎ (a + k ≤ y) → get_or (put_mid a k front ys ++ back) y d ≡ get_or cells y d
    both_out y o = ⊎_elim (λ (h : y < a). grind (arith, places)) (λ (h : a + k ≤ y). grind (arith, places)) o

    pub own_read : (x : ℕ) → x < k → get_or (mid_of a k front) x d ≡ get_or cells (a + x) d
    own_read x h = grind (arith, places)

    pub other_read : (x : ℕ) → get_or back x d ≡ get_or cells (length front + x) d
    other_read x = grind (arith, places)

-- a list that is filled by calls that each give one value
pub filled_by : {F X : Type 0} {R : F → X → F → Type 0} (none : X) (holds : F → Type 0) → ((q : F) (y : X) (v : F) → holds q → R q y v → (y ≡ none) × holds v) →
    (f : F) (xs : List X) (last : F) → holds f → FoldsTo R f xs last → (x : ℕ) → x < length xs → get_or xs x none ≡ none
filled_by none holds step f [] last h r x l = refl
filled_by none holds step f (y ∷ ys) last h r zero l = (step f y r.0 h r.1).0
filled_by none holds step f (y ∷ ys) last h r (suc x) l = filled_by none holds step r.0 ys last (step f y r.0 h r.1).1 r.2 x (omega arith)
