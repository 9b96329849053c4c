use Rattle.std.proofs.Common.{◌≡◌, ℕ, ◌<◌, get_or}
use Rattle.tables.specs.Grade.{grade_cell}
use Rattle.tables.proofs.grade_table.Grading.fill_row.Given as goal

abbrev pub invariant-loop-j : goal.invariant-loop-j
invariant-loop-j g l =
    (j : ℕ) → j < l.j → get_or l.row j 0 ≡ grade_cell (g.M.Measure.says l.self.measure.now) l.self.line.vertices.now l.self.levels.now l.i j
