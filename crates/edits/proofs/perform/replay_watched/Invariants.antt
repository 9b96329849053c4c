use Rattle.std.proofs.Common.{◌≡◌, take}
use Rattle.sheets.specs.Settings.{LawfulSettings}
use Rattle.sheets.specs.Sheet.{settings_of}
use Rattle.sheets.specs.Memory.{memory_of}
use Rattle.sheets.specs.Call.{room_of}
use Rattle.sheets.specs.History.{history, after, ObeysSettings}
use Rattle.edits.proofs.perform.replay_watched.Given as goal

abbrev pub invariant-loop-q : goal.invariant-loop-q
invariant-loop-q g l =
    let s = settings_of g.M.Measure.LARGEST g.M.Measure.says l.fn.sheet in
    let t = settings_of g.M.Measure.LARGEST g.M.Measure.says l.sheet in record {
      moved : t ≡ after s (take l.q l.calls);
      lawful : LawfulSettings t;
      obeys : ObeysSettings g.P.Price.kind g.P.Price.link (room_of (memory_of l.fn.grades l.fn.prices l.fn.stays)) (history s l.calls l.answers l.q);
    }
