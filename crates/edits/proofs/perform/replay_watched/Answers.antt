use Rattle.std.proofs.Common.{rules}
use Rattle.sheets.specs.Sheet.{settings_of}
use Rattle.sheets.specs.Memory.{memory_of}
use Rattle.sheets.specs.Call.{room_of}
use Rattle.edits.proofs.Watched.{after_next, obeys_next}
use Rattle.edits.proofs.perform.replay_watched.Goals as goal

pub loop-q-preserved : goal.loop-q-preserved
loop-q-preserved g c =
    let s = settings_of g.M.Measure.LARGEST g.M.Measure.says c.args.sheet.now in
    let held = room_of (memory_of c.args.grades.now c.args.prices.now c.args.stays.now) in
    let cs = c.args.calls.now in record {
      moved = after_next s _ _ cs c.loop-q.q (search rules) c.loop-q.invariant.moved c.replay_at.ensures.settings_after;
      lawful = c.replay_at.ensures.keeps_lawful;
      obeys =
          obeys_next g.P.Price.kind g.P.Price.link held s cs c.loop-q.answers c.replay_at.new.answers c.loop-q.q _ _ (search rules) c.loop-q.invariant.moved (search rules)
          c.replay_at.ensures.answer c.loop-q.invariant.obeys;
    }
