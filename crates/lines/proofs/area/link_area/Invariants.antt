use Rattle.std.proofs.Common.{◌≡◌}
use Rattle.lines.proofs.Areas.{Walking, along}
use Rattle.lines.proofs.area.link_area.Given as goal

abbrev pub invariant-loop-ends : goal.invariant-loop-ends
invariant-loop-ends l = (l.ends-iterator.size ≡ 2) × Walking l.vertices l.i (along l.vertices l.i l.j) l.ends-iterator.rest.now l.sum
