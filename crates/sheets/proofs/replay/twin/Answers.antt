use Rattle.std.proofs.Common.{subst, rules}
use Rattle.sheets.specs.Settings.{LawfulSettings, opened}
use Rattle.sheets.specs.Sheet.{settings_of}
use Rattle.sheets.specs.Memory.{memory_of}
use Rattle.sheets.proofs.Performing.{both_performed}
use Rattle.sheets.proofs.replay.twin.Goals as goal

pub returns-clause-performed : goal.returns-clause-performed
returns-clause-performed g c =
    let m = g.M.Measure in
    let s = opened c.args.first.n c.args.first.levels.now m.LARGEST (m.says c.args.first.measure) in
    let t = opened c.args.second.n c.args.second.levels.now m.LARGEST (m.says c.args.second.measure) in
    let lawful : LawfulSettings s = subst LawfulSettings {x = settings_of m.LARGEST m.says c.in_ok-one.one} (search rules) (search rules) in
    let lawful_too : LawfulSettings t = subst LawfulSettings {x = settings_of m.LARGEST m.says c.in_ok-other.other} (search rules) (search rules) in
    both_performed g.P.Price.kind g.P.Price.link g.met.P.Price.rules s lawful (g.met.M.Measure.rules c.args.first.measure) t lawful_too (g.met.M.Measure.rules c.args.second.measure)
    c.args.first.calls.now c.args.second.calls.now (memory_of c.args.grades.now c.args.prices.now c.args.stays.now)
    (memory_of c.replay-done.new.grades c.replay-done.new.prices c.replay-done.new.stays)
    (memory_of c.replay-also_done.new.grades c.replay-also_done.new.prices c.replay-also_done.new.stays)
    c.args.first_answers.now c.replay-done.new.answers c.args.second_answers.now c.replay-also_done.new.answers c.replay-done.result c.replay-also_done.result
    (search rules) (search rules)
