use Rattle.std.proofs.Common.{◌≡◌, ◌+◌, ◌-◌, ◌*◌, ◌≤◌, length, ◌∙◌, arith}
use Rattle.std.proofs.lemmas.List.{places}
use Rattle.tables.specs.Grade.{grade_cell}
use Rattle.tables.proofs.Grades.{written_fits, graded_more, graded_past}
use Rattle.tables.proofs.grade_table.grade_links.Goals as goal

pub loop-i-preserved : goal.loop-i-preserved
loop-i-preserved g c =
    let n = c.count-n.result in
    let i = c.loop-i.i in
    let before = c.loop-i.cells in
    let row = c.fill_row.new.row in
    let inv = c.loop-i.invariant in
    let k = i * n + n - i * n in
    let kn : k ≡ n = omega arith in
    let room : n * n ≤ length before = omega (arith, inv.0, c.if-n-cells.false) in
    let fits : i * n + k ≤ length before = written_fits n i c.loop-i-test.true before room k kn in
    let long : length row ≡ k = c.fill_row.auto.row ∙ grind (arith, places) in
    let f = grade_cell (g.M.Measure.says c.args.measure.now) c.args.line.now.vertices.now c.args.levels.now in (
      grind (arith, places),
      graded_more n i c.loop-i-test.true before row k kn long fits f (λ j h. c.fill_row.ensures j (grind (arith, places))) inv.1,
      graded_past n i c.loop-i-test.true before row k kn long fits c.args.cells.now inv.2,
    )
