use Rattle.std.proofs.Common.{◌≡◌, ◌≤◌, map, length, take, drop}
use Rattle.std.specs.List.{concat}
use Rattle.marker.specs.Records.{chains_in}
use Rattle.marker.specs.Wrote.{Wrote}
use Rattle.marker.proofs.place.ChainPlace.put.Given as goal

abbrev pub invariant-loop-i : goal.invariant-loop-i
invariant-loop-i l =
    let cs = chains_in l.fn.chains.left l.fn.chains.rest.now in
    let it = l.i-iterator in
    goal.iterator-loop-i.can_next it × goal.iterator-loop-i.is_finite it × (it.count ≤ length cs) ×
    (drop it.count cs ≡ chains_in it.iter.left it.iter.rest.now) ×
    Wrote 0 l.fn.self.numbers l.self.numbers (concat (take it.count cs)) l.end ×
    Wrote 0 l.fn.self.counts l.self.counts (map length (take it.count cs)) it.count
