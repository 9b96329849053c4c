use Rattle.std.proofs.Common.{◌+◌, ◌-◌, ◌/◌, sym, arith}
use Rattle.std.proofs.lemmas.Bool.{both_ways}
use Rattle.reports.specs.Link.{allows_all}
use Rattle.reports.proofs.Links.{from_T, stays}
use Rattle.reports.proofs.link.least_within.Goals as goal

pub loop-low-preserved : goal.loop-low-preserved
loop-low-preserved g c =
    let says = g.M.Measure.says c.args.measure.now in
    let vs = c.args.line.now.vertices.now in
    let links = c.args.links.now in
    let inv = c.loop-low.invariant in
    let middle = c.loop-low.low + (c.loop-low.least - c.loop-low.low) / 2 in
    record {
      ordered = omega arith;
      within = inv.within;
      allowed = inv.allowed;
      none_below = λ s below h.
          both_ways (allows_all says vs links middle) (sym {b = allows_all says vs links middle} c.if-allows_all.ensures)
          (stays g.M.Measure.LARGEST says (g.met.M.Measure.rules c.args.measure.now) vs c.args.line.now.lawful links s middle c.loop-low.least (omega arith) (omega arith)
          (from_T _ h) (from_T _ inv.allowed));
    }
