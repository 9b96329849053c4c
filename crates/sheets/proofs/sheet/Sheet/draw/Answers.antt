use Rattle.std.proofs.Common.{◌≡◌, length, sym, subst, rules}
use Rattle.std.proofs.lemmas.Result.{IfOk-weaker}
use Rattle.families.specs.Pin.{Inner}
use Rattle.lines.specs.Level.{LawfulLevels}
use Rattle.sheets.specs.Sheet.{settings_of}
use Rattle.sheets.proofs.Eligible.{least_by, tighter_no_cheaper, accepted}
use Rattle.sheets.proofs.Written.{drawn_by}
use Rattle.sheets.proofs.Answered.{answered, by_settings}
use Rattle.sheets.proofs.sheet.Sheet.draw.Goals as goal

pub returns-clause-answer : goal.returns-clause-answer
returns-clause-answer g c =
    answered g.P.Price.kind g.P.Price.link (settings_of g.M.Measure.LARGEST g.M.Measure.says c.args.self.now) c.args.line.now.vertices.now
    (length c.args.grades.now) (length c.args.prices.now) (length c.args.stays.now) c.find_least.result _ c.as_slice.ensures c.find_least.ensures.answer (search rules)

pub returns-clause-answer_by_settings : goal.returns-clause-answer_by_settings
returns-clause-answer_by_settings g c =
    by_settings g.P.Price.kind g.P.Price.link (settings_of g.M.Measure.LARGEST g.M.Measure.says c.args.self.now) c.args.line.now.vertices.now
    (length c.args.grades.now) (length c.args.prices.now) (length c.args.stays.now) c.find_least.result (returns-clause-answer g c)

pub returns-clause-nothing_cheaper : goal.returns-clause-nothing_cheaper
returns-clause-nothing_cheaper g c =
    let s = settings_of g.M.Measure.LARGEST g.M.Measure.says c.args.self.now in
    let vs = c.args.line.now.vertices.now in
    let size : length vs ≡ s.n = search rules in
    IfOk-weaker c.find_least.result _ _
    (least_by g.P.Price.kind g.P.Price.link s vs (subst (λ n. Inner n s.pins) (sym size) c.args.self.now.pins.lawful.inner) _ c.as_slice.ensures c.find_least.new.stays)
    c.find_least.ensures.nothing_smaller

pub returns-clause-tighter_no_cheaper : goal.returns-clause-tighter_no_cheaper
returns-clause-tighter_no_cheaper g c =
    let s = settings_of g.M.Measure.LARGEST g.M.Measure.says c.args.self.now in
    let line = c.args.line.now in
    accepted c.find_least.result c.find_least.ensures.accepts_exactly_lawful (returns-clause-nothing_cheaper g c)
    (λ enough sum least.
    tighter_no_cheaper g.P.Price.kind g.P.Price.link s line.vertices.now g.met.P.Price.rules line.lawful (subst (LawfulLevels s.largest) c.as_slice.ensures enough.levels_lawful) (g.met.M.Measure.rules c.args.self.now.pins.below)
    c.find_least.new.stays sum least)

pub returns-clause-memory_after : goal.returns-clause-memory_after
returns-clause-memory_after g c =
    let s = settings_of g.M.Measure.LARGEST g.M.Measure.says c.args.self.now in
    let line = c.args.line.now in
    drawn_by g.P.Price.kind g.P.Price.link s line.vertices.now line.lawful.0.0 (search rules) _ _ _ _ _ _ c.find_least.auto.grades c.find_least.auto.prices c.find_least.auto.stays
    c.find_least.result _ c.as_slice.ensures c.find_least.ensures.accepts_exactly_lawful c.find_least.ensures.cells c.find_least.ensures.rest_kept c.find_least.ensures.refusal_leaves_memory
