use Rattle.std.proofs.Common.{◌≡◌, ◌≤◌, length, drop}
use Rattle.families.specs.Family.{total}
use Rattle.prices.specs.Price.{price_by}
use Rattle.marker.specs.Records.{chains_in, chain_of}
use Rattle.marker.proofs.mark.Family.total.Given as goal

abbrev pub invariant-loop-chain : goal.invariant-loop-chain
invariant-loop-chain g l =
    let ls = l.self.levels.now in
    let cs = chains_in l.self.chains.left l.self.chains.rest.now in
    let k = length l.yielded in
    let it = l.chain-iterator in
    (k ≤ length ls) × (drop k cs ≡ chains_in it.a.left it.a.rest.now) × (drop k ls ≡ it.b.rest.now) ×
    (l.sum ≡ total g.P.Price.kind (price_by g.P.Price.link l.self.line.vertices.now ls) k (chain_of cs))
