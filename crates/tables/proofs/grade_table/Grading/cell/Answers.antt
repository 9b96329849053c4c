use Rattle.std.proofs.Common.{◌≡◌, ◌+◌, true, ltb, length, ap, sym, ◌∙◌, arith}
use Rattle.std.specs.Option.{unwrap_or}
use Rattle.std.proofs.lemmas.Bool.{cond-true}
use Rattle.std.proofs.lemmas.Bool.Decides.{nat_tests}
use Rattle.measures.specs.Measure.{grade}
use Rattle.measures.proofs.Grades.{grade_back}
use Rattle.tables.proofs.grade_table.Grading.cell.Given.{Over}
use Rattle.tables.proofs.grade_table.Grading.cell.Goals as goal

-- the number that goes into the cell
number : (g : Over) (c : goal.After-unwrap_or g) →
    c.unwrap_or.result ≡ grade (g.M.Measure.says c.args.self.now.measure.now) c.args.self.now.line.vertices.now c.args.self.now.levels.now c.args.i c.args.j
number g c =
    let s = c.args.self.now in
    c.unwrap_or.ensures ∙ ap (λ o. unwrap_or o (length s.levels.now + 1)) c.first_level-first.ensures.answer ∙
    grade_back (g.M.Measure.says s.measure.now s.line.vertices.now c.args.i c.args.j) s.levels.now

pub returns : goal.returns
returns g c = let link : ltb c.args.i c.args.j ≡ true = grind (arith, nat_tests) in number g c ∙ sym (cond-true _ _ 0 link)
