-- Edits of a job: the calls that they make on a sheet, what they answer by the settings, and the settings after them. Assumes nothing.
use Rattle.std.specs.Prelude.{List, [], ◌∷◌, Ok}
use Rattle.std.specs.Borrow.{Bor}
use Rattle.families.specs.Price.{Kind}
use Rattle.lines.specs.Fault.{then}
use Rattle.lines.specs.declared.vertex.Vertex.{Vertex}
use Rattle.prices.specs.Price.{LinkPrice}
use Rattle.search.specs.declared.room.Room.{Room}
use Rattle.sheets.specs.Settings.{Settings, pin_told, after_pin, release_told, after_release, retune_told, after_retune}
use Rattle.sheets.specs.Call.{Answer, drawing_told}
use Rattle.sheets.specs.declared.call.Call.{Call}
use Rattle.sheets.specs.declared.call.Call.TheVariants as calls
use Rattle.sheets.specs.declared.call.Outcome.TheVariants.{Done}
use Rattle.edits.specs.declared.script.Edit.{Edit}
use Rattle.edits.specs.declared.script.Edit.TheVariants.{Pin, Release, Retune, Draw}

-- The call that an edit makes on a sheet; a draw is of this line, and asks for this much memory.
abbrev pub call_of : Bor (List Vertex) → Room → Edit → Call
call_of line room (Pin v) = calls.Pin v
call_of line room (Release v) = calls.Release v
call_of line room (Retune k t) = calls.Retune k t
call_of line room Draw = calls.Draw line room

-- The settings after an edit, and after a list of edits: a draw changes nothing.
abbrev pub after_edit : Settings → Edit → Settings
after_edit s (Pin v) = after_pin s v
after_edit s (Release v) = after_release s v
after_edit s (Retune k t) = after_retune s k t
after_edit s Draw = s

abbrev pub after_edits : Settings → List Edit → Settings
after_edits s [] = s
after_edits s (e ∷ es) = after_edits (after_edit s e) es

module _ {P : Type 0} (K : Kind P) (link : LinkPrice P) (room : Room) (vs : List Vertex) where
  -- What an edit of a job with this line answers by the settings, in so much memory.
  abbrev pub told_edit : Settings → Edit → Answer P
  told_edit s (Pin v) = then (pin_told s v) (λ _. Ok Done)
  told_edit s (Release v) = then (release_told s v) (λ _. Ok Done)
  told_edit s (Retune k t) = then (retune_told s k t) (λ _. Ok Done)
  told_edit s Draw = drawing_told K link s room vs

  -- What a list of edits answers, each by the settings after the edits before it.
  abbrev pub told_edits : Settings → List Edit → List (Answer P)
  told_edits s [] = []
  told_edits s (e ∷ es) = told_edit s e ∷ told_edits (after_edit s e) es
