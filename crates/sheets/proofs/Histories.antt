-- Any list of calls, by the settings of each moment. Assumes nothing.
use Rattle.std.proofs.Common.{◌≡◌, ℕ, ◌+◌, ◌<◌, List, [], ◌∷◌, ◌++◌, length, get_or, take, set, Some, Result, Ok, Err, sym, refl, ap, subst, ◌∙◌, ⊎_elim, arith}
use Rattle.std.proofs.lemmas.List.{take_more, get_or-set_same, get_or-set_other}
use Rattle.std.proofs.lemmas.Bool.{cases_eq}
use Rattle.families.specs.Price as prices
use Rattle.lines.specs.Fault.{then}
use Rattle.lines.specs.Line.{Lawful}
use Rattle.lines.specs.declared.fault.Fault.{Fault}
use Rattle.lines.specs.declared.vertex.Vertex.{Vertex}
use Rattle.measures.specs.Measure.{Rules}
use Rattle.prices.specs.Price.{LinkPrice}
use Rattle.search.specs.declared.room.Room.{Room}
use Rattle.sheets.specs.Settings.{Settings, LawfulSettings, pin_told, release_told, retune_told}
use Rattle.sheets.specs.Promise.{LeastEligible}
use Rattle.sheets.specs.Memory.{Memory}
use Rattle.sheets.specs.Call.{Answer, after_call, drawn_line, lent, told, memory_after}
use Rattle.sheets.specs.History.{after, memory_after_all, History, history, call_at, settings_at, DrewAt, ObeysSettings, ObeysInNumbers, EachLeast, TighteningNoCheaper}
use Rattle.sheets.specs.Numbers.{call_number, call_values, call_line, answer_values, change_values, due}
use Rattle.sheets.specs.declared.call.Call.{Call}
use Rattle.sheets.specs.declared.call.Call.TheVariants.{Pin, Release, Retune, Draw}
use Rattle.sheets.specs.declared.call.Drawn.{Drawn}
use Rattle.sheets.specs.declared.call.Outcome.TheVariants.{Done, Drew}
use Rattle.sheets.proofs.Eligible.{tighter_no_cheaper}
use Rattle.sheets.proofs.Lawful.{lawful_after_all, same_after_all}
use Rattle.sheets.proofs.Least.{drew_least}

after_append : (s : Settings) (xs ys : List Call) → after s (xs ++ ys) ≡ after (after s xs) ys
after_append s [] ys = refl
after_append s (x ∷ xs) ys = after_append (after_call s x) xs ys

-- one call more
pub after_more : (s : Settings) (cs : List Call) (q : ℕ) → q < length cs → after s (take (q + 1) cs) ≡ after_call (after s (take q cs)) (get_or cs q (Pin 0))
after_more s cs q h = ap (after s) (take_more cs q (Pin 0) h) ∙ after_append s (take q cs) (get_or cs q (Pin 0) ∷ [])

-- a change of the settings in numbers
change_told : {P : Type 0} (K : prices.Kind P) (r : Result (Unit {0}) Fault) → answer_values {P = P} K (then r (λ _. Ok Done)) ≡ change_values r
change_told K (Ok _) = refl
change_told K (Err f) = refl

module _ {P : Type 0} (K : prices.Kind P) (link : LinkPrice P) where
  told_in_numbers : (s : Settings) (held : Room) (c : Call) → answer_values K (told K link s held c) ≡ due K link s held (call_number c) (call_values c) (call_line c)
  told_in_numbers s held (Pin v) = change_told K (pin_told s v)
  told_in_numbers s held (Release v) = change_told K (release_told s v)
  told_in_numbers s held (Retune k t) = change_told K (retune_told s k t)
  told_in_numbers s held (Draw vs asked) = refl

  pub in_numbers : (held : Room) (h : History P) → ObeysSettings K link held h → ObeysInNumbers K link held h
  in_numbers held h obeys q p = ap (answer_values K) (obeys q p) ∙ told_in_numbers (settings_at h q) held (call_at h q)

  memory_push : (s : Settings) (xs : List Call) (c : Call) (m : Memory P) → memory_after_all K link s (xs ++ (c ∷ [])) m ≡ memory_after K link (after s xs) c (memory_after_all K link s xs m)
  memory_push s [] c m = refl
  memory_push s (x ∷ xs) c m = memory_push (after_call s x) xs c (memory_after K link s x m)

  pub memory_more : (s : Settings) (cs : List Call) (q : ℕ) (m : Memory P) → q < length cs →
      memory_after_all K link s (take (q + 1) cs) m ≡ memory_after K link (after s (take q cs)) (get_or cs q (Pin 0)) (memory_after_all K link s (take q cs) m)
  memory_more s cs q m h = ap (λ z. memory_after_all K link s z m) (take_more cs q (Pin 0) h) ∙ memory_push s (take q cs) (get_or cs q (Pin 0)) m

  -- one answer more
  pub obeys_more : (held : Room) (s : Settings) (cs : List Call) (answers : List (Answer P)) (q : ℕ) (answer : Answer P) → q < length answers →
      ObeysSettings K link held (history s cs answers q) → answer ≡ told K link (after s (take q cs)) held (get_or cs q (Pin 0)) →
      ObeysSettings K link held (history s cs (set answers q answer) (q + 1))
  obeys_more held s cs answers q answer room before here p h =
      ⊎_elim
      (λ (e : p ≡ q).
      subst (λ z. get_or (set answers q answer) z (Ok Done) ≡ told K link (after s (take z cs)) held (get_or cs z (Pin 0))) (sym e)
      (get_or-set_same answers q answer (Ok Done) room ∙ here))
      (λ (ne : p ≡ q → ⊥). get_or-set_other answers q p answer (Ok Done) ne ∙ before p (omega arith))
      (cases_eq p q)

  module _ (law : prices.Rules K) (s : Settings) (lawful : LawfulSettings s) (measure : Rules s.largest s.says) where
    -- a call that drew a line
    drew : (t : Settings) → LawfulSettings t → Rules t.largest t.says → (held : Room) (c : Call) (vs : List Vertex) (d : Drawn P) → drawn_line c ≡ Some vs → told K link t held c ≡ Ok (Drew d) →
        Lawful vs × LeastEligible K link t vs d.stays.items d.total
    drew t l r held (Pin v) vs d e a = cc
    drew t l r held (Release v) vs d e a = cc
    drew t l r held (Retune k u) vs d e a = cc
    drew t l r held (Draw ws asked) vs d e a =
        let same : ws.now ≡ vs = cc in
        subst (λ z. Lawful z × LeastEligible K link t z d.stays.items d.total) same (drew_least K link law t l r (lent asked held) ws.now d a)

    measure_after : (cs : List Call) → Rules (after s cs).largest (after s cs).says
    measure_after cs =
        let same = same_after_all s cs in
        subst (λ z. Rules z (after s cs).says) (sym same.same_largest) (subst (λ f. Rules s.largest f) (sym same.same_says) measure)

    module _ (held : Room) (cs : List Call) (answers : List (Answer P)) (done : ℕ) (obeys : ObeysSettings K link held (history s cs answers done)) where
      abbrev told_here : History P
      told_here = history s cs answers done

      pub drew_at : (q : ℕ) (vs : List Vertex) (d : Drawn P) → DrewAt told_here q vs d → Lawful vs × LeastEligible K link (settings_at told_here q) vs d.stays.items d.total
      drew_at q vs d at =
          drew (settings_at told_here q) (lawful_after_all s (take q cs) lawful) (measure_after (take q cs)) held (call_at told_here q) vs d at.of_line (sym (obeys q at.performed) ∙ at.told_so)

      pub each_least : EachLeast K link told_here
      each_least q vs d at = (drew_at q vs d at).1

      -- against the least draws of another history
      pub tightening : (other : History P) → EachLeast K link other → TighteningNoCheaper K link told_here other
      tightening other least p q vs d e at with_at tight =
          let found = drew_at p vs d at in
          tighter_no_cheaper K link (settings_at told_here p) vs law found.0 (lawful_after_all s (take p cs) lawful).levels_lawful (measure_after (take p cs)) d.stays.items d.total found.1
          (settings_at other q) e.stays.items e.total tight (least q vs e with_at)
