use Rattle.std.proofs.Common.{Some, None, arith}
use Rattle.std.proofs.lemmas.Grind.{common_steps}
use Rattle.tables.proofs.Grades.{told}
use Rattle.tables.proofs.grade_table.GradeTable.first_level.Goals as goal

pub returns-in_err-grade-clause-tells_first_level : goal.returns-in_err-grade-clause-tells_first_level
returns-in_err-grade-clause-tells_first_level c =
    let t = c.args.self.now in
    told t.cells.now t.n t.m c.args.i c.args.j c.from_residual.result (grind (arith, common_steps))

pub returns-then-grade-lt1-clause-tells_first_level : goal.returns-then-grade-lt1-clause-tells_first_level
returns-then-grade-lt1-clause-tells_first_level c =
    let t = c.args.self.now in
    told t.cells.now t.n t.m c.args.i c.args.j None (grind (arith, common_steps))

pub returns-clause-tells_first_level : goal.returns-clause-tells_first_level
returns-clause-tells_first_level c =
    let t = c.args.self.now in
    told t.cells.now t.n t.m c.args.i c.args.j (Some c.in_ok-grade.field-0) (grind (arith, common_steps))
