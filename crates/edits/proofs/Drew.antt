-- Each drawing that edits answer is least. Assumes nothing.
use Rattle.std.proofs.Common.{◌≡◌, ℕ, zero, suc, ◌<◌, List, [], ◌∷◌, length, get_or, take, map, Some, Ok, Err, Result, sym, refl, ap, subst, ◌∙◌, arith}
use Rattle.std.specs.Borrow.{Bor}
use Rattle.std.proofs.Math.ListN.{get_or-map}
use Rattle.families.specs.Price.{Kind}
use Rattle.lines.specs.Fault.{then}
use Rattle.lines.specs.declared.fault.Fault.{Fault}
use Rattle.lines.specs.declared.vertex.Vertex.{Vertex}
use Rattle.prices.specs.Price.{LinkPrice}
use Rattle.search.specs.declared.room.Room.{Room}
use Rattle.sheets.specs.Settings.{Settings, pin_told, release_told, retune_told}
use Rattle.sheets.specs.Promise.{LeastEligible}
use Rattle.sheets.specs.Call.{Answer, drawn_line, told}
use Rattle.sheets.specs.History.{after, history, ObeysSettings}
use Rattle.sheets.specs.History as histories
use Rattle.sheets.specs.declared.call.Call.TheVariants as calls
use Rattle.sheets.specs.declared.call.Drawn.{Drawn}
use Rattle.sheets.specs.declared.call.Outcome.TheVariants.{Done, Drew}
use Rattle.edits.specs.Edit.{call_of, after_edit, after_edits, told_edit}
use Rattle.edits.specs.Perform.{formed, EachLeast}
use Rattle.edits.specs.declared.script.Edit.{Edit}
use Rattle.edits.specs.declared.script.Edit.TheVariants.{Pin, Release, Retune, Draw}
use Rattle.edits.proofs.Told.{told_call, after_same}

-- the drawing in an answer
abbrev drawing_or : {P : Type 0} → Drawn P → Answer P → Drawn P
drawing_or d (Ok Done) = d
drawing_or d (Ok (Drew e)) = e
drawing_or d (Err f) = d

-- what a drawing with a form was drawn from
record From {P : Type 0} (K : Kind P) (a : Answer P) (d : Drawn (ℕ × ℕ)) : Type 0 where
  raw : Drawn P
  is : a ≡ Ok (Drew raw)
  total : d.total ≡ K.form raw.total
  stays : d.stays ≡ raw.stays

drawn_from : {P : Type 0} (K : Kind P) (a : Answer P) (d : Drawn (ℕ × ℕ)) → formed K a ≡ Ok (Drew d) → From K a d
drawn_from K (Ok Done) d h = let z : ◌≡◌ {A = ℕ} 0 1 = cc in absurd (omega arith)
drawn_from K (Ok (Drew e)) d h =
    let same = ap (drawing_or d) h in
    record { raw = e; is = refl; total = sym (ap (λ (x : Drawn (ℕ × ℕ)). x.total) same); stays = sym (ap (λ (x : Drawn (ℕ × ℕ)). x.stays) same) }
drawn_from K (Err f) d h = let z : ◌≡◌ {A = ℕ} 0 1 = cc in absurd (omega arith)

-- what is only done is not drawn
only_done : {P : Type 0} (r : Result (Unit {0}) Fault) (d : Drawn P) → ◌≡◌ {A = Answer P} (then r (λ _. Ok Done)) (Ok (Drew d)) → ⊥
only_done (Ok _) d h = let z : ◌≡◌ {A = ℕ} 0 1 = cc in omega arith
only_done (Err f) d h = let z : ◌≡◌ {A = ℕ} 0 1 = cc in omega arith

module _ {P : Type 0} (K : Kind P) (link : LinkPrice P) (room : Room) (line : Bor (List Vertex)) where
  -- only a draw draws
  draws : (s : Settings) (e : Edit) (d : Drawn P) → told_edit K link room line.now s e ≡ Ok (Drew d) → drawn_line (call_of line room e) ≡ Some line.now
  draws s (Pin v) d h = absurd (only_done (pin_told s v) d h)
  draws s (Release v) d h = absurd (only_done (release_told s v) d h)
  draws s (Retune k t) d h = absurd (only_done (retune_told s k t) d h)
  draws s Draw d h = refl

  edit_at : (es : List Edit) (q : ℕ) → q < length es → get_or (map (call_of line room) es) q (calls.Pin 0) ≡ call_of line room (get_or es q Draw)
  edit_at [] q h = absurd (omega arith)
  edit_at (e ∷ es) zero h = refl
  edit_at (e ∷ es) (suc q) h = edit_at es q (omega arith)

  after_all : (s : Settings) (es : List Edit) (q : ℕ) → after s (take q (map (call_of line room) es)) ≡ after_edits s (take q es)
  after_all s es zero = refl
  after_all s [] (suc q) = refl
  after_all s (e ∷ es) (suc q) = ap (λ t. after t (take q (map (call_of line room) es))) (after_same K link room line s e) ∙ after_all (after_edit s e) es q

  pub each_least : (s : Settings) (es : List Edit) (answers : List (Answer P)) (done : ℕ) → done ≡ length es →
      ObeysSettings K link room (history s (map (call_of line room) es) answers done) → histories.EachLeast K link (history s (map (call_of line room) es) answers done) →
      EachLeast K link s line.now es (map (formed K) answers)
  each_least s es answers done all obeys least q d h e =
      let found = drawn_from K (get_or answers q (Ok Done)) d (sym (get_or-map (formed K) answers q (Ok Done)) ∙ e) in
      let performed : q < done = omega (arith, h, all) in
      let edit = get_or es q Draw in
      let moment = after s (take q (map (call_of line room) es)) in
      let same = edit_at es q h in
      let then_told : told_edit K link room line.now moment edit ≡ Ok (Drew found.raw) =
      sym (told_call K link room line moment edit) ∙ ap (told K link moment room) (sym same) ∙ sym (obeys q performed) ∙ found.is in
      let line_drawn = ap drawn_line same ∙ draws moment edit found.raw then_told in
      let there = least q line.now found.raw (record { performed = performed; of_line = line_drawn; told_so = found.is }) in (
        found.raw.total,
        found.total,
        subst (λ t. LeastEligible K link t line.now d.stays.items found.raw.total) (after_all s es q)
            (subst (λ (x : _). LeastEligible K link moment line.now x.items found.raw.total) (sym found.stays) there),
      )
