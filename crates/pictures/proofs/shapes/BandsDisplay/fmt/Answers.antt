use Rattle.std.proofs.Common.{rules}
use Rattle.pictures.specs.Shapes.{band_text}
use Rattle.pictures.proofs.Loops.{one_more}
use Rattle.pictures.proofs.shapes.BandsDisplay.fmt.Goals as goal

pub loop-row-preserved : goal.loop-row-preserved
loop-row-preserved g c = λ p.
    let all = c.args.self.now in
    one_more _ _ _ _ (band_text all.frame all.marks.now) all.rows.now c.loop-row.row-index (record { place = 0; level = 0; tolerance = 0; links = 0; weight = 0 }) c.loop-row-test.true (c.loop-row.invariant p) (search rules)
