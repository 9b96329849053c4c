use Rattle.std.proofs.Common.{◌+◌, map, take}
use Rattle.packs.specs.Bytes.{little}
use Rattle.marker.specs.Wrote.{Wrote}
use Rattle.marker.proofs.chain.Chain.put.Given as goal

abbrev pub invariant-loop-i : goal.invariant-loop-i
invariant-loop-i l = Wrote l.fn.at l.fn.numbers l.numbers (map little (take l.i l.self.numbers.now)) (l.fn.at + l.i)
