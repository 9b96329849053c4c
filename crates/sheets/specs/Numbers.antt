-- Calls and answers as numbers. Assumes nothing.
use Rattle.std.specs.Prelude.{ℕ, cond, List, [], ◌∷◌, Ok, Err, Result, ◌==◌, slice_index}
use Rattle.families.specs.Price.{Kind}
use Rattle.lines.specs.Fault.{cause_number, layer_number}
use Rattle.lines.specs.declared.fault.Fault.{Fault}
use Rattle.lines.specs.declared.vertex.Vertex.{Vertex}
use Rattle.prices.specs.Price.{LinkPrice}
use Rattle.search.specs.declared.room.Room.{Room}
use Rattle.sheets.specs.Settings.{Settings, pin_told, release_told, retune_told}
use Rattle.sheets.specs.Call.{Answer, lent, drawing_told}
use Rattle.sheets.specs.declared.call.Call.{Call}
use Rattle.sheets.specs.declared.call.Call.TheVariants.{Pin, Release, Retune, Draw}
use Rattle.sheets.specs.declared.call.Outcome.TheVariants.{Done, Drew}

-- The number of a call: 1 pin, 2 release, 3 retune, 4 draw.
abbrev pub call_number : Call → ℕ
call_number (Pin v) = 1
call_number (Release v) = 2
call_number (Retune k t) = 3
call_number (Draw vs asked) = 4

-- Its values: the vertex, or the level and the tolerance, or how many grades, prices and stays are asked for.
abbrev pub call_values : Call → List ℕ
call_values (Pin v) = v ∷ []
call_values (Release v) = v ∷ []
call_values (Retune k t) = k ∷ (t ∷ [])
call_values (Draw vs asked) = asked.grades ∷ (asked.prices ∷ (asked.stays ∷ []))

-- Its line; only a draw has one.
abbrev pub call_line : Call → List Vertex
call_line (Pin v) = []
call_line (Release v) = []
call_line (Retune k t) = []
call_line (Draw vs asked) = vs.now

-- The number of an answer with its values: 1 done; 2 drawn, with the two numbers of the total's form and then the stays;
-- 3 refused, with the number, the layer, the place and the spot of the fault.
abbrev pub answer_values : {P : Type 0} → Kind P → Answer P → ℕ × List ℕ
answer_values K (Ok Done) = (1, [])
answer_values K (Ok (Drew d)) = (2, (K.form d.total).0 ∷ ((K.form d.total).1 ∷ d.stays.items))
answer_values K (Err f) = (3, cause_number f.cause ∷ (layer_number f.layer ∷ (f.place ∷ (f.spot ∷ []))))

-- The same of a change of the settings, which is done or refused.
abbrev pub change_values : Result (Unit {0}) Fault → ℕ × List ℕ
change_values (Ok _) = (1, [])
change_values (Err f) = (3, cause_number f.cause ∷ (layer_number f.layer ∷ (f.place ∷ (f.spot ∷ []))))

-- What is due to a call with a number, values and a line, by the settings and where there is so much memory.
abbrev pub due : {P : Type 0} → Kind P → LinkPrice P → Settings → Room → ℕ → List ℕ → List Vertex → ℕ × List ℕ
due K link s held number values vs =
    cond (number == 1) (change_values (pin_told s (slice_index values 0)))
    (cond (number == 2) (change_values (release_told s (slice_index values 0)))
    (cond (number == 3) (change_values (retune_told s (slice_index values 0) (slice_index values 1)))
    (answer_values K
    (drawing_told K link s (lent (record { grades = slice_index values 0; prices = slice_index values 1; stays = slice_index values 2 }) held) vs))))
