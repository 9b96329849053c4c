-- What a call answers by the settings, and what it leaves. Assumes nothing.
use Rattle.std.specs.Prelude.{min, cond, List, length, map, is_ok, Ok, Some, None, Result, Option}
use Rattle.std.specs.List.{range_with_len}
use Rattle.families.specs.Price.{Kind}
use Rattle.lines.specs.Fault.{then}
use Rattle.lines.specs.Line.{judged_line}
use Rattle.lines.specs.declared.fault.Fault.{Fault}
use Rattle.lines.specs.declared.vertex.Vertex.{Vertex}
use Rattle.prices.specs.Price.{LinkPrice}
use Rattle.search.specs.declared.room.Room.{Room}
use Rattle.sheets.specs.Settings.{Settings, pin_told, after_pin, release_told, after_release, retune_told, after_retune}
use Rattle.sheets.specs.Memory.{Memory, draw_answer, least_total, stay_cell, drawn_over}
use Rattle.sheets.specs.declared.call.Call.{Call}
use Rattle.sheets.specs.declared.call.Call.TheVariants.{Pin, Release, Retune, Draw}
use Rattle.sheets.specs.declared.call.Drawn.{Drawn}
use Rattle.sheets.specs.declared.call.Outcome.{Outcome}
use Rattle.sheets.specs.declared.call.Outcome.TheVariants.{Done, Drew}

-- What a call answers: an outcome, or the fault that it is refused with.
abbrev pub Answer : Type 0 → Type 0
Answer P = Result (Outcome P) Fault

-- The settings after a call: a draw changes nothing.
abbrev pub after_call : Settings → Call → Settings
after_call s (Pin v) = after_pin s v
after_call s (Release v) = after_release s v
after_call s (Retune k t) = after_retune s k t
after_call s (Draw vs asked) = s

-- The line that a call draws.
abbrev pub drawn_line : Call → Option (List Vertex)
drawn_line (Pin v) = None
drawn_line (Release v) = None
drawn_line (Retune k t) = None
drawn_line (Draw vs asked) = Some vs.now

-- How much of each memory a draw is lent: what it asks for, or all that there is.
abbrev pub lent : Room → Room → Room
lent asked held = record { grades = min asked.grades held.grades; prices = min asked.prices held.prices; stays = min asked.stays held.stays }

-- How much memory there is.
abbrev pub room_of : {P : Type 0} → Memory P → Room
room_of m = record { grades = length m.grades; prices = length m.prices; stays = length m.stays }

module _ {P : Type 0} (K : Kind P) (link : LinkPrice P) where
  -- What a draw tells: the least total, and the stay of each vertex.
  abbrev pub drawing : Settings → List Vertex → Drawn P
  drawing s vs = record { total = least_total K link s vs; stays = record { items = map (stay_cell K link s vs) (range_with_len 0 s.n) } }

  -- What a draw of vertices answers: they must be a lawful line, then the sheet is asked with the memory that is lent.
  abbrev pub drawing_told : Settings → Room → List Vertex → Answer P
  drawing_told s room vs =
      then (judged_line vs) (λ _. then (draw_answer s (length vs) room.grades room.prices room.stays) (λ _. Ok (Drew (drawing s vs))))

  -- What a call answers, where there is so much memory.
  abbrev pub told : Settings → Room → Call → Answer P
  told s held (Pin v) = then (pin_told s v) (λ _. Ok Done)
  told s held (Release v) = then (release_told s v) (λ _. Ok Done)
  told s held (Retune k t) = then (retune_told s k t) (λ _. Ok Done)
  told s held (Draw vs asked) = drawing_told s (lent asked held) vs.now

  -- The memories after a call: only a draw that is not refused writes them.
  abbrev pub memory_after : Settings → Call → Memory P → Memory P
  memory_after s (Pin v) m = m
  memory_after s (Release v) m = m
  memory_after s (Retune k t) m = m
  memory_after s (Draw vs asked) m = cond (is_ok (drawing_told s (lent asked (room_of m)) vs.now)) (drawn_over K link s vs.now m) m
