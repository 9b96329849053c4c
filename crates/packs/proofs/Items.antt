-- Items of one width in a byte string. Assumes nothing.
use Rattle.std.proofs.Common.{◌≡◌, ℕ, zero, suc, ◌+◌, ◌*◌, ◌<◌, List, [], ◌∷◌, ◌++◌, length, get_or, take, drop, set, sym, refl, ap, ◌∙◌, add_comm, mul-zero, mul-suc, add-one, arith}
use Rattle.std.proofs.lemmas.List.{drop-drop, take_more_set}
use Rattle.packs.specs.Job.{items}

module _ {X : Type 0} (w : ℕ) (from : List ℕ → X) where
  past : (i : ℕ) (bs : List ℕ) → drop (w * i) (drop w bs) ≡ drop (w * suc i) bs
  past i bs = drop-drop (w * i) w bs ∙ ap (λ n. drop n bs) (add_comm w (w * i) ∙ sym (mul-suc w i))

  items_suc : (i : ℕ) (bs : List ℕ) → items w from (suc i) bs ≡ items w from i bs ++ (from (drop (w * i) bs) ∷ [])
  items_suc zero bs = rw (mul-zero w) refl
  items_suc (suc i) bs = ap (λ xs. from bs ∷ xs) (items_suc i (drop w bs) ∙ ap (λ cs. items w from i (drop w bs) ++ (from cs ∷ [])) (past i bs))

  -- one item more, written at its place
  pub items_written : (i : ℕ) (bs : List ℕ) (out : List X) (x : X) → i < length out → take i out ≡ items w from i bs → x ≡ from (drop (w * i) bs) →
      take (i + 1) (set out i x) ≡ items w from (i + 1) bs
  items_written i bs out x h e d =
      take_more_set out i x h ∙ ap (λ xs. xs ++ (x ∷ [])) e ∙ ap (λ y. items w from i bs ++ (y ∷ [])) d ∙ sym (ap (λ k. items w from k bs) (add-one i) ∙ items_suc i bs)

  -- what is left behind one item more
  pub items_left : (i : ℕ) (bs rest : List ℕ) → rest ≡ drop (w * i) bs → drop w rest ≡ drop (w * (i + 1)) bs
  items_left i bs rest e =
      ap (drop w) e ∙ drop-drop w (w * i) bs ∙ ap (λ n. drop n bs) (sym (mul-suc w i) ∙ ap (λ k. w * k) (sym (add-one i)))

  pub length_items : (k : ℕ) (bs : List ℕ) → length (items w from k bs) ≡ k
  length_items zero bs = refl
  length_items (suc k) bs = ap suc (length_items k (drop w bs))

  -- the item at a position
  pub get_or_items : (k i : ℕ) (bs : List ℕ) (d : X) → i < k → get_or (items w from k bs) i d ≡ from (drop (w * i) bs)
  get_or_items zero i bs d h = absurd (omega arith)
  get_or_items (suc k) zero bs d h = rw (mul-zero w) refl
  get_or_items (suc k) (suc i) bs d h = get_or_items k i (drop w bs) d (omega arith) ∙ ap from (past i bs)
