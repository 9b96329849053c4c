use Rattle.std.proofs.Common.{◌*◌, length, refl, ap, inr, rules, arith}
use Rattle.std.proofs.lemmas.Grind.{common_steps}
use Rattle.prices.specs.Price.{price_by}
use Rattle.search.proofs.Answering.{accepts, answered, total_is}
use Rattle.search.proofs.Found.{kept_from, total_so, cells_so, least_so}
use Rattle.search.proofs.Judging.{granted}
use Rattle.search.proofs.least.find_least.Goals as goal

pub returns-in_err-check_search-clause-accepts_exactly_lawful : goal.returns-in_err-check_search-clause-accepts_exactly_lawful
returns-in_err-check_search-clause-accepts_exactly_lawful g c =
    let vs = c.args.line.now.vertices.now in
    accepts g.P.Price.kind (price_by g.P.Price.link vs c.args.levels.now) g.M.Measure.LARGEST (g.M.Measure.says c.args.measure.now) vs c.args.levels.now
    (length c.args.grades.now) (length c.args.prices.now) (length c.args.stays.now) c.from_residual.result (grind (arith, common_steps))

pub returns-clause-accepts_exactly_lawful : goal.returns-clause-accepts_exactly_lawful
returns-clause-accepts_exactly_lawful g c = (
  λ _.
      granted g.M.Measure.LARGEST c.args.levels.now (length c.args.line.now.vertices.now) (length c.args.grades.now) (length c.args.prices.now)
      (length c.args.stays.now) _ c.in_ok-check_search.ensures refl,
  λ _. refl,
)

pub returns-clause-answer : goal.returns-clause-answer
returns-clause-answer g c =
    let vs = c.args.line.now.vertices.now in
    let price = price_by g.P.Price.link vs c.args.levels.now in
    let says = g.M.Measure.says c.args.measure.now in
    let s = (returns-clause-accepts_exactly_lawful g c).0 refl in
    answered g.P.Price.kind price g.M.Measure.LARGEST says vs c.args.levels.now (length c.args.grades.now) (length c.args.prices.now) (length c.args.stays.now) tt
    c.find_graded.result c.in_ok-check_search.ensures
    (total_so g.P.Price.kind price g.M.Measure.LARGEST says (g.met.M.Measure.rules c.args.measure.now) vs c.args.line.now.lawful c.args.levels.now s.levels_lawful
    c.grade_links.new.cells c.over.result.cells.now c.over.result.n c.over.result.m (ap (λ x. x.now) c.over.ensures.cells) (search rules) (search rules)
    (c.grade_links.ensures.graded (s.level_count.1, s.grade_room)) c.find_graded.result c.find_graded.ensures.total)

pub returns-clause-cells : goal.returns-clause-cells
returns-clause-cells g c =
    let vs = c.args.line.now.vertices.now in
    let s = (returns-clause-accepts_exactly_lawful g c).0 refl in
    cells_so g.P.Price.kind (price_by g.P.Price.link vs c.args.levels.now) g.M.Measure.LARGEST (g.M.Measure.says c.args.measure.now) (g.met.M.Measure.rules c.args.measure.now) vs
    c.args.line.now.lawful c.args.levels.now s.levels_lawful c.grade_links.new.cells c.over.result.cells.now c.over.result.n c.over.result.m (ap (λ x. x.now) c.over.ensures.cells)
    (search rules) (search rules) (c.grade_links.ensures.graded (s.level_count.1, s.grade_room)) c.find_graded.new.prices c.find_graded.new.stays c.find_graded.ensures.filled
    c.find_graded.ensures.marked

pub returns-clause-nothing_smaller : goal.returns-clause-nothing_smaller
returns-clause-nothing_smaller g c =
    let vs = c.args.line.now.vertices.now in
    let ls = c.args.levels.now in
    let says = g.M.Measure.says c.args.measure.now in
    let s = (returns-clause-accepts_exactly_lawful g c).0 refl in
    let price = price_by g.P.Price.link vs ls in
    let total = total_is g.P.Price.kind price g.M.Measure.LARGEST says vs ls (length c.args.grades.now) (length c.args.prices.now) (length c.args.stays.now) tt
    c.find_graded.result c.in_ok-check_search.ensures (returns-clause-answer g c) in
    least_so g.P.Price.kind price g.M.Measure.LARGEST says (g.met.M.Measure.rules c.args.measure.now) vs c.args.line.now.lawful ls s.levels_lawful
    g.met.P.Price.rules c.find_graded.new.stays c.find_graded.result (returns-clause-cells g c).stayed total

pub returns-clause-rest_kept : goal.returns-clause-rest_kept
returns-clause-rest_kept g c =
    let n = length c.args.line.now.vertices.now in
    let t = c.find_graded.ensures in
    record {
      grades_kept = kept_from 0 c.args.grades.now c.grade_links.new.cells (n * n) c.grade_links.auto.cells c.grade_links.ensures.rest_kept;
      prices_kept = kept_from g.P.Price.kind.neutral c.args.prices.now c.find_graded.new.prices (length c.args.levels.now * (n * n)) c.find_graded.auto.prices
          (λ y h. t.prices_kept y (inr h));
      stays_kept = kept_from 0 c.args.stays.now c.find_graded.new.stays n c.find_graded.auto.stays t.stays_kept;
    }
