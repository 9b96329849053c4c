use Rattle.std.proofs.Common.{sym, refl, rules}
use Rattle.std.proofs.lemmas.Bool.{and_left}
use Rattle.measures.specs.Area.{area}
use Rattle.measures.specs.Areas.{area_is}
use Rattle.measures.proofs.Grades.{none_is}
use Rattle.measures.proofs.First.{tells_first}
use Rattle.measures.proofs.area.AreaMeasure.first_level.Goals as goal

pub returns-then-not-is_link-clause-answer : goal.returns-then-not-is_link-clause-answer
returns-then-not-is_link-clause-answer c =
    none_is (area c.args.line.now.vertices.now c.args.i c.args.j) c.args.levels.now (λ k h. and_left _ _ (sym c.if-not-is_link.ensures.value))

pub returns-clause-answer : goal.returns-clause-answer
returns-clause-answer c =
    let vs = c.args.line.now.vertices.now in
    let link = c.if-not-is_link.ensures.decides.0 refl in
    c.first_passing.ensures (area vs c.args.i c.args.j)
    (λ t b e. area_is vs c.args.i c.args.j t c.link_area-area.result b link.0 link.1 c.link_area-area.ensures (search rules))

pub returns-clause-tells_first_level : goal.returns-clause-tells_first_level
returns-clause-tells_first_level c = tells_first area c.args.line.now.vertices.now c.args.levels.now c.args.i c.args.j _ (returns-clause-answer c)
