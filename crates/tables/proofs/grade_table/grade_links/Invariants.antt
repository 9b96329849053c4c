use Rattle.std.proofs.Common.{◌≡◌, ℕ, ◌+◌, ◌*◌, ◌<◌, ◌≤◌, length, get_or}
use Rattle.tables.specs.Grade.{grade_cell}
use Rattle.tables.proofs.grade_table.grade_links.Given as goal

abbrev pub invariant-loop-i : goal.invariant-loop-i
invariant-loop-i g l =
    (length l.cells ≡ length l.initial.cells) ×
    ((i j : ℕ) → i < l.i → j < l.n → get_or l.cells (i * l.n + j) 0 ≡ grade_cell (g.M.Measure.says l.measure) l.line.vertices.now l.levels i j) ×
    ((y : ℕ) → l.n * l.n ≤ y → get_or l.cells y 0 ≡ get_or l.initial.cells y 0)
