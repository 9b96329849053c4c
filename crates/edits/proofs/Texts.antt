-- The lines of edits, one more at a time. Assumes nothing.
use Rattle.std.proofs.Common.{◌≡◌, ℕ, ◌+◌, ◌<◌, List, [], ◌++◌, length, get_or, take, min, sym, ap, ap₂, ◌∙◌, arith}
use Rattle.std.specs.List.{flat_map, zip}
use Rattle.std.proofs.lemmas.List.{take_more, take_all, flat_map_more}
use Rattle.std.proofs.lemmas.Slice.Zip.{length-zip, get_or-zip}

module _ {A B : Type 0} (f : A × B → List ℕ) (xs : List A) (ys : List B) where
  -- one pair more
  pub one_more : (n : ℕ) (x : A) (y : B) (before piece after : List ℕ) → n < length xs → n < length ys → x ≡ get_or xs n x → y ≡ get_or ys n y →
      before ≡ flat_map f (take n (zip xs ys)) → piece ≡ f (x, y) → after ≡ before ++ piece → after ≡ flat_map f (take (n + 1) (zip xs ys))
  one_more n x y before piece after in_xs in_ys first second so_far is written =
      let room : n < length (zip xs ys) = omega (arith, length-zip xs ys, in_xs, in_ys) in
      let pair : get_or (zip xs ys) n (x, y) ≡ (x, y) = get_or-zip xs ys n (x, y) in_xs in_ys ∙ ap₂ (λ a b. (a, b)) (sym first) (sym second) in
      written ∙ ap₂ (λ a b. a ++ b) so_far (is ∙ ap f (sym pair)) ∙ flat_map_more f [] (take n (zip xs ys)) (get_or (zip xs ys) n (x, y)) ∙
      ap (flat_map f) (sym (take_more (zip xs ys) n (x, y) room))

  -- all pairs
  pub all_pairs : (n : ℕ) (text : List ℕ) → n ≡ min (length xs) (length ys) → text ≡ flat_map f (take n (zip xs ys)) → text ≡ flat_map f (zip xs ys)
  all_pairs n text all so_far = so_far ∙ ap (flat_map f) (take_all n (zip xs ys) (omega (arith, length-zip xs ys, all)))
