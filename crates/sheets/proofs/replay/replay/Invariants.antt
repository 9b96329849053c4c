use Rattle.std.proofs.Common.{◌≡◌, take, drop}
use Rattle.sheets.specs.Settings.{LawfulSettings}
use Rattle.sheets.specs.Sheet.{settings_of}
use Rattle.sheets.specs.Memory.{memory_of}
use Rattle.sheets.specs.Call.{room_of}
use Rattle.sheets.specs.History.{history, after, memory_after_all, ObeysSettings}
use Rattle.sheets.proofs.replay.replay.Given as goal

abbrev pub invariant-loop-q : goal.invariant-loop-q
invariant-loop-q g l =
    let s = settings_of g.M.Measure.LARGEST g.M.Measure.says l.fn.sheet in
    let memory = memory_of l.fn.grades l.fn.prices l.fn.stays in
    (settings_of g.M.Measure.LARGEST g.M.Measure.says l.sheet ≡ after s (take l.q l.calls)) ×
    (room_of (memory_of l.grades l.prices l.stays) ≡ room_of memory) ×
    (LawfulSettings s → memory_of l.grades l.prices l.stays ≡ memory_after_all g.P.Price.kind g.P.Price.link s (take l.q l.calls) memory) ×
    (LawfulSettings s → ObeysSettings g.P.Price.kind g.P.Price.link (room_of memory) (history s l.calls l.answers l.q)) ×
    (drop l.q l.answers ≡ drop l.q l.fn.answers)
