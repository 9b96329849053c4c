use Rattle.std.proofs.Common.{◌≡◌, ◌+◌, drop}
use Rattle.writer.specs.Family.{counts_from}
use Rattle.writer.proofs.family.Family.check.Given as goal

abbrev pub invariant-loop-i : goal.invariant-loop-i
invariant-loop-i l = counts_from l.n (l.i + 1) (drop l.i l.self.counts.now) ≡ counts_from l.n 1 l.self.counts.now
