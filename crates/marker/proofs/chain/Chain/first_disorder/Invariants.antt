use Rattle.std.proofs.Common.{◌≡◌, length, drop, map}
use Rattle.packs.specs.Bytes.{little}
use Rattle.marker.specs.Judge.{disorder_from, disorder}
use Rattle.marker.proofs.chain.Chain.first_disorder.Given as goal

abbrev pub invariant-loop-i : goal.invariant-loop-i
invariant-loop-i l =
    let xs = map little l.numbers in
    disorder_from l.n (length xs) l.i l.low (drop l.i xs) ≡ disorder l.n xs
