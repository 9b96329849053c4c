-- What is read off the grade table. Assumes nothing.
use Rattle.std.proofs.Common.{◌≡◌, ℕ, ◌+◌, ◌*◌, ◌<◌, ◌≤◌, Bool, true, false, cond, ◌&&◌, T, ltb, List, length, get_or, Some, None, Option, sym, refl, ap, ◌∙◌, subst, inl, inr, ⊎_elim, arith, ltb→lt}
use Rattle.std.proofs.lemmas.Bool.{cases_lt, le-leb, lt-leb, lt-ltb}
use Rattle.families.specs.Least.{first}
use Rattle.families.proofs.Bools.{left, right}
use Rattle.measures.specs.Measure.{allowed_by, level_in, FirstAllowed}
use Rattle.measures.proofs.First.{first_allowed}
use Rattle.tables.specs.Grade.{first_level, reaches, FirstLevel, TellsFirstLevel}
use Rattle.tables.proofs.Parts.{part_in, part_out}
use Rattle.tables.proofs.Places.{stretch_below}
use borrow.Rule.Slice.PartMut.{put_mid}

pub yes_is : (x : Bool) → T x → x ≡ true
yes_is true t = refl
yes_is false t = absurd t

no_is : (x : Bool) → (T x → ⊥) → x ≡ false
no_is true f = absurd (f tt)
no_is false f = refl

module _ (allowed : ℕ → ℕ → ℕ → Bool) (m n i j : ℕ) where
  abbrev test : ℕ → Bool
  test k = allowed k i j

  -- the grade as a level
  graded_level : (g : ℕ) → i < j → j < n → g ≡ first test 1 m → FirstLevel allowed m n i j (level_in m g)
  graded_level g a b e = on_link (level_in m g) (subst (λ z. FirstAllowed test m (level_in m z)) (sym e) (first_allowed test m))
    where
      on_link : (r : Option ℕ) → FirstAllowed test m r → FirstLevel allowed m n i j r
      on_link None f = λ _ _. f
      on_link (Some k) f = (a, b, f)

  -- the pair as a link, and its grade as a level
  pub link_level : (cell : ℕ) → (i < j → j < n → cell ≡ first test 1 m) →
      FirstLevel allowed m n i j (cond (ltb i j && ltb j n) (level_in m cell) None)
  link_level cell is = go (ltb i j && ltb j n) refl
    where
      go : (x : Bool) → (ltb i j && ltb j n) ≡ x → FirstLevel allowed m n i j (cond x (level_in m cell) None)
      go true q =
          let t : T (ltb i j && ltb j n) = subst T (sym q) tt in
          let a = ltb→lt i j (left (ltb i j) (ltb j n) t) in
          let b = ltb→lt j n (right (ltb i j) (ltb j n) t) in
          graded_level cell a b (is a b)
      go false q = λ a b k p l s.
          let both : (ltb i j && ltb j n) ≡ true = rw (lt-ltb i j a, lt-ltb j n b) refl in
          subst T (sym both ∙ q) tt

  -- where what a level allows the levels after it allow, the first level tells what each level allows
  pub reaches_allowed : (r : Option ℕ) → FirstLevel allowed m n i j r → i < j → j < n →
      ((a b : ℕ) → 1 ≤ a → a ≤ b → b ≤ m → T (test a) → T (test b)) → (k : ℕ) → 1 ≤ k → k ≤ m → reaches r k ≡ test k
  reaches_allowed None f a b rise k p q = sym (no_is (test k) (f a b k p q))
  reaches_allowed (Some h) f a b rise k p q =
      ⊎_elim
      (λ (l : k < h). lt-leb h k l ∙ sym (no_is (test k) (f.2.3 k p l)))
      (λ (l : h ≤ k). le-leb h k l ∙ sym (yes_is (test k) (rise h k f.2.0 l q f.2.2)))
      (cases_lt k h)

pub tells : (cells : List ℕ) (n m i j : ℕ) → TellsFirstLevel cells n m i j (first_level cells n m i j)
tells cells n m i j says vs ls v l graded =
    link_level (allowed_by says vs ls) m n i j (get_or cells (i * n + j) 0) (λ a b.
    let e : get_or cells (i * n + j) 0 ≡ cond (ltb i j) (first (λ k. allowed_by says vs ls k i j) 1 (length ls)) 0 =
    subst (λ z. get_or cells (i * z + j) 0 ≡ cond (ltb i j) (first (λ k. allowed_by says vs ls k i j) 1 (length ls)) 0) v
    (graded i j (omega arith) (omega arith)) in
    e ∙ ap (λ x. cond x (first (λ k. allowed_by says vs ls k i j) 1 (length ls)) 0) (lt-ltb i j a)
    ∙ ap (first (λ k. allowed_by says vs ls k i j) 1) l)

-- an answer that is read off the cells
pub told : (cells : List ℕ) (n m i j : ℕ) (r : Option ℕ) → r ≡ first_level cells n m i j → TellsFirstLevel cells n m i j r
told cells n m i j r e = subst (TellsFirstLevel cells n m i j) (sym e) (tells cells n m i j)

-- One row more of the grade table: the cells of vertex i are written and the others stay.
pub written_fits : (n i : ℕ) → i < n → (before : List ℕ) → n * n ≤ length before → (k : ℕ) → k ≡ n → i * n + k ≤ length before
written_fits n i inside before room k is = let b = stretch_below n i n inside in omega arith

module _ (n i : ℕ) (inside : i < n) (before row : List ℕ) (k : ℕ) (is : k ≡ n) (len : length row ≡ k) (fits : i * n + k ≤ length before) where
  pub graded_more : (f : ℕ → ℕ → ℕ) → ((j : ℕ) → j < k → get_or row j 0 ≡ f i j) →
      ((a j : ℕ) → a < i → j < n → get_or before (a * n + j) 0 ≡ f a j) →
      (a j : ℕ) → a < i + 1 → j < n → get_or (put_mid (i * n) k before row) (a * n + j) 0 ≡ f a j
  graded_more f new so_far a j l h =
      ⊎_elim
      (λ (p : a < i).
      let b = stretch_below n a i p in
      part_out (i * n) k before row 0 len fits (a * n + j) (inl (omega arith)) ∙ so_far a j p h)
      (λ (p : i ≤ a).
      let q : i ≡ a = omega arith in
      subst (λ z. get_or (put_mid (i * n) k before row) (z * n + j) 0 ≡ f z j) q
      (part_in (i * n) k before row 0 len fits j (omega arith) ∙ new j (omega arith)))
      (cases_lt a i)

  pub graded_past : (entry : List ℕ) → ((y : ℕ) → n * n ≤ y → get_or before y 0 ≡ get_or entry y 0) →
      (y : ℕ) → n * n ≤ y → get_or (put_mid (i * n) k before row) y 0 ≡ get_or entry y 0
  graded_past entry past y h =
      let b = stretch_below n i n inside in
      part_out (i * n) k before row 0 len fits y (inr (omega arith)) ∙ past y h
