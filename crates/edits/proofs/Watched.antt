-- Calls that are tried on a sheet one at a time. Assumes nothing.
use Rattle.std.proofs.Common.{◌≡◌, ℕ, suc, ◌+◌, ◌-◌, ◌<◌, List, [], ◌∷◌, ◌++◌, length, get_or, take, drop, set, slice_range, sym, ap, subst, ◌∙◌, arith}
use Rattle.std.proofs.lemmas.List.{set_split, drop-drop}
use Rattle.std.proofs.lemmas.List.Edits.{between_more}
use Rattle.families.specs.Price.{Kind}
use Rattle.prices.specs.Price.{LinkPrice}
use Rattle.search.specs.declared.room.Room.{Room}
use Rattle.sheets.specs.Settings.{Settings}
use Rattle.sheets.specs.Call.{Answer, after_call, told}
use Rattle.sheets.specs.History.{after, history, ObeysSettings}
use Rattle.sheets.specs.declared.call.Call.{Call}
use Rattle.sheets.specs.declared.call.Call.TheVariants.{Pin}
use Rattle.sheets.proofs.Histories.{after_more, obeys_more}

-- one element of a list, as a part of it
pub alone : {X : Type 0} (xs : List X) (q : ℕ) (d : X) → q < length xs → slice_range xs q (q + 1) ≡ get_or xs q d ∷ []
alone xs q d h =
    let none : q - q ≡ 0 = omega arith in
    between_more xs q q d (omega arith) h ∙ ap (λ n. take n (drop q xs) ++ (get_or xs q d ∷ [])) none

pub alone_length : {X : Type 0} (xs : List X) (q : ℕ) (d : X) → q < length xs → length (slice_range xs q (q + 1)) ≡ 1
alone_length xs q d h = ap length (alone xs q d h)

-- a part of one element is written back
pub put_back : {X : Type 0} (xs : List X) (q : ℕ) (part : List X) (x : X) → q < length xs → part ≡ x ∷ [] → take q xs ++ (part ++ drop (q + 1 - q) (drop q xs)) ≡ set xs q x
put_back xs q part x h is =
    let size : q + 1 - q ≡ 1 = omega arith in
    let next : q + 1 ≡ suc q = omega arith in
    ap (λ n. take q xs ++ (part ++ drop n (drop q xs))) size ∙ ap (λ ys. take q xs ++ (ys ++ drop 1 (drop q xs))) is ∙
    ap (λ l. take q xs ++ (x ∷ l)) (drop-drop 1 q xs ∙ ap (λ n. drop n xs) next) ∙ sym (set_split xs q x h)

-- the settings after a call that was tried alone
pub after_alone : (s : Settings) (cs : List Call) (q n : ℕ) → q < length cs → n ≡ 1 → after s (take n (slice_range cs q (q + 1))) ≡ after_call s (get_or cs q (Pin 0))
after_alone s cs q n h one = ap (λ k. after s (take k (slice_range cs q (q + 1)))) one ∙ ap (λ l. after s (take 1 l)) (alone cs q (Pin 0) h)

-- the settings one call further
pub after_next : (s t u : Settings) (cs : List Call) (q : ℕ) → q < length cs → t ≡ after s (take q cs) → u ≡ after_call t (get_or cs q (Pin 0)) → u ≡ after s (take (q + 1) cs)
after_next s t u cs q h so_far moved = moved ∙ ap (λ z. after_call z (get_or cs q (Pin 0))) so_far ∙ sym (after_more s cs q h)

module _ {P : Type 0} (K : Kind P) (link : LinkPrice P) (held : Room) (s : Settings) (cs : List Call) where
  -- the answer to a call that was tried alone
  pub told_alone : (q n : ℕ) (part : List (Answer P)) → q < length cs → n ≡ 1 → length part ≡ 1 →
      ObeysSettings K link held (history s (slice_range cs q (q + 1)) part n) → part ≡ told K link s held (get_or cs q (Pin 0)) ∷ []
  told_alone q n [] h one same obeys = absurd (omega (arith, same))
  told_alone q n (a ∷ []) h one same obeys =
      ap (λ (x : Answer P). x ∷ []) (obeys 0 (omega (arith, one)) ∙ ap (λ l. told K link s held (get_or l 0 (Pin 0))) (alone cs q (Pin 0) h))
  told_alone q n (a ∷ b ∷ part) h one same obeys = absurd (omega (arith, same))

  -- one answer more, where the sheet has the settings t and so much memory
  pub obeys_next : (answers next : List (Answer P)) (q : ℕ) (t : Settings) (room : Room) → q < length answers → t ≡ after s (take q cs) → room ≡ held →
      next ≡ set answers q (told K link t room (get_or cs q (Pin 0))) → ObeysSettings K link held (history s cs answers q) → ObeysSettings K link held (history s cs next (q + 1))
  obeys_next answers next q t room h moved same put obeys =
      let c = get_or cs q (Pin 0) in
      subst (λ (x : _). ObeysSettings K link held (history s cs x (q + 1))) (sym put)
      (obeys_more K link held s cs answers q (told K link t room c) h obeys (ap (λ z. told K link z room c) moved ∙ ap (λ r. told K link (after s (take q cs)) r c) same))
