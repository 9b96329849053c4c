use Rattle.std.proofs.Common.{◌+◌}
use Rattle.measures.proofs.AllNear.{Passing}
use Rattle.measures.proofs.nearness.farthest.Given as goal

abbrev pub invariant-loop-v : goal.invariant-loop-v
invariant-loop-v g l = Passing g.N.Nearness.near l.vertices l.i l.j l.t l.most (l.i + 1 + l.v-index)
