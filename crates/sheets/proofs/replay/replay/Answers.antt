use Rattle.std.proofs.Common.{take, sym, subst, rules}
use Rattle.sheets.specs.Settings.{LawfulSettings}
use Rattle.sheets.specs.Sheet.{settings_of}
use Rattle.sheets.specs.Memory.{memory_of}
use Rattle.sheets.proofs.Lawful.{lawful_after_all}
use Rattle.sheets.proofs.Performing.{one_more, performed}
use Rattle.sheets.proofs.replay.replay.Goals as goal

pub loop-q-preserved : goal.loop-q-preserved
loop-q-preserved g c =
    let s = settings_of g.M.Measure.LARGEST g.M.Measure.says c.args.sheet.now in
    one_more g.P.Price.kind g.P.Price.link s c.args.calls.now (memory_of c.args.grades.now c.args.prices.now c.args.stays.now) _ _ c.loop-q.q c.loop-q.answers c.args.answers.now _ _ c.perform.result
    (search rules) (search rules) c.loop-q.invariant (search rules) c.perform.ensures.settings_after c.perform.ensures.answer c.perform.ensures.memory_after

pub returns-clause-performed : goal.returns-clause-performed
returns-clause-performed g c lawful =
    let s = settings_of g.M.Measure.LARGEST g.M.Measure.says c.args.sheet.now in
    performed g.P.Price.kind g.P.Price.link g.met.P.Price.rules s lawful (g.met.M.Measure.rules c.args.sheet.now.pins.below) c.args.calls.now
    (memory_of c.args.grades.now c.args.prices.now c.args.stays.now) _ _ c.loop-q.q c.min-done.result c.loop-q.answers c.args.answers.now (search rules) c.loop-q.invariant

pub returns-clause-keeps_lawful : goal.returns-clause-keeps_lawful
returns-clause-keeps_lawful g c lawful =
    let s = settings_of g.M.Measure.LARGEST g.M.Measure.says c.args.sheet.now in
    subst LawfulSettings (sym c.loop-q.invariant.0) (lawful_after_all s (take c.loop-q.q c.args.calls.now) lawful)
