-- The answers of a whole list of edits. Assumes nothing.
use Rattle.std.proofs.Common.{◌≡◌, ℕ, zero, suc, ◌<◌, min, List, [], ◌∷◌, length, get_or, take, map, Ok, sym, refl, ap, subst, ◌∙◌, arith}
use Rattle.std.proofs.lemmas.List.{ext_get_or, length-map}
use Rattle.std.specs.Borrow.{Bor}
use Rattle.families.specs.Price.{Kind}
use Rattle.lines.specs.Fault.{then}
use Rattle.lines.specs.declared.level.Level.{Level}
use Rattle.lines.specs.declared.vertex.Vertex.{Vertex}
use Rattle.measures.specs.Measure as measures
use Rattle.prices.specs.Price.{LinkPrice}
use Rattle.search.specs.declared.room.Room.{Room}
use Rattle.sheets.specs.Settings.{Settings, opened, open_answer}
use Rattle.sheets.specs.Call.{Answer, lent, after_call, drawing_told, told}
use Rattle.sheets.specs.History.{after, history, ObeysSettings}
use Rattle.sheets.specs.declared.call.Call.{Call}
use Rattle.sheets.specs.declared.call.Call.TheVariants as calls
use Rattle.sheets.specs.declared.call.Outcome.TheVariants.{Done}
use Rattle.edits.specs.Edit.{call_of, after_edit, told_edit, told_edits}
use Rattle.edits.specs.Perform.{formed, performed}
use Rattle.edits.specs.declared.script.Edit.{Edit}
use Rattle.edits.specs.declared.script.Edit.TheVariants.{Pin, Release, Retune, Draw}

-- a draw that asks for all the memory is lent all of it
all_lent : (room : Room) → lent room room ≡ room
all_lent room =
    let a : min room.grades room.grades ≡ room.grades = omega arith in
    let b : min room.prices room.prices ≡ room.prices = omega arith in
    let c : min room.stays room.stays ≡ room.stays = omega arith in
    λ i. record { grades = a i; prices = b i; stays = c i }

module _ {P : Type 0} (K : Kind P) (link : LinkPrice P) (room : Room) (line : Bor (List Vertex)) where
  -- an edit as a call
  pub told_call : (s : Settings) (e : Edit) → told K link s room (call_of line room e) ≡ told_edit K link room line.now s e
  told_call s (Pin v) = refl
  told_call s (Release v) = refl
  told_call s (Retune k t) = refl
  told_call s Draw = ap (λ r. drawing_told K link s r line.now) (all_lent room)

  pub after_same : (s : Settings) (e : Edit) → after_call s (call_of line room e) ≡ after_edit s e
  after_same s (Pin v) = refl
  after_same s (Release v) = refl
  after_same s (Retune k t) = refl
  after_same s Draw = refl

  abbrev calls_of : List Edit → List Call
  calls_of es = map (call_of line room) es

  told_length : (s : Settings) (es : List Edit) → length (told_edits K link room line.now s es) ≡ length es
  told_length s [] = refl
  told_length s (e ∷ es) = ap suc (told_length (after_edit s e) es)

  told_at : (s : Settings) (es : List Edit) (q : ℕ) → q < length es →
      get_or (told_edits K link room line.now s es) q (Ok Done) ≡ told K link (after s (take q (calls_of es))) room (get_or (calls_of es) q (calls.Pin 0))
  told_at s [] q h = absurd (omega arith)
  told_at s (e ∷ es) zero h = sym (told_call s e)
  told_at s (e ∷ es) (suc q) h =
      told_at (after_edit s e) es q (omega arith) ∙
      ap (λ t. told K link (after t (take q (calls_of es))) room (get_or (calls_of es) q (calls.Pin 0))) (sym (after_same s e))

  -- answers that obey the settings are the ones that are told
  told_all : (s : Settings) (es : List Edit) (answers : List (Answer P)) (done : ℕ) → length answers ≡ length es → done ≡ length es →
      ObeysSettings K link room (history s (calls_of es) answers done) → answers ≡ told_edits K link room line.now s es
  told_all s es answers done same all obeys =
      ext_get_or (Ok Done) answers (told_edits K link room line.now s es) (same ∙ sym (told_length s es))
      (λ q h. obeys q (omega (arith, h, same, all)) ∙ sym (told_at s es q (omega (arith, h, same))))

  -- what was told by the settings of a sheet that was just opened, in memory of this room
  pub obeys_opened : (t s : Settings) (held : Room) (cs : List Call) (es : List Edit) (answers : List (Answer P)) → t ≡ s → held ≡ room → cs ≡ calls_of es →
      ObeysSettings K link held (history t cs answers (length cs)) → ObeysSettings K link room (history s (calls_of es) answers (length (calls_of es)))
  obeys_opened t s held cs es answers opening lent_all made obeys =
      subst (λ x. ObeysSettings K link room (history x (calls_of es) answers (length (calls_of es)))) opening
      (subst (λ r. ObeysSettings K link r (history t (calls_of es) answers (length (calls_of es)))) lent_all
      (subst (λ x. ObeysSettings K link held (history t x answers (length x))) made obeys))

  pub performs : (ls : List Level) (largest : ℕ) (says : measures.Answer) (es : List Edit) (answers : List (Answer P)) → length answers ≡ length (calls_of es) →
      open_answer (length line.now) ls largest ≡ Ok tt →
      ObeysSettings K link room (history (opened (length line.now) ls largest says) (calls_of es) answers (length (calls_of es))) →
      performed K link largest says line.now ls room es ≡ Ok (map (formed K) answers)
  performs ls largest says es answers same accepted obeys =
      let s = opened (length line.now) ls largest says in
      let count = length-map es (call_of line room) in
      ap (λ r. then r (λ _. Ok (map (formed K) (told_edits K link room line.now s es)))) accepted ∙
      ap (λ z. Ok (map (formed K) z)) (sym (told_all s es answers (length (calls_of es)) (same ∙ count) count obeys))
