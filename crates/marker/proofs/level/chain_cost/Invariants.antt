use Rattle.std.proofs.Common.{◌≡◌, ◌-◌, ◌≤◌, length, take, drop, map}
use Rattle.families.specs.Chain.{links}
use Rattle.families.specs.Family.{cost}
use Rattle.packs.specs.Bytes.{little}
use Rattle.marker.proofs.level.chain_cost.Given as goal

abbrev pub invariant-loop-link : goal.invariant-loop-link
invariant-loop-link g l =
    let ps = l.chain.numbers.now in
    let rest = l.link-iterator.iter.rest.now in
    (l.link-iterator.iter.size ≡ 2) × (length rest ≤ length ps) × (rest ≡ take (length rest) ps) ×
    (l.sum ≡ cost g.P.Price.kind (λ _ i j. g.P.Price.link l.line.vertices.now i j l.weight) 0 (drop (length rest - 1) (links (map little ps))))
