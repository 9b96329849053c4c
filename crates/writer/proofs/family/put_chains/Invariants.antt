use Rattle.std.proofs.Common.{◌≡◌, ◌+◌, ◌-◌, ◌*◌, length, take, drop, sum}
use Rattle.std.specs.List.{flat_map}
use Rattle.marker.specs.Records.{chain_record}
use Rattle.marker.specs.Wrote.{Wrote}
use Rattle.writer.specs.Family.{chains_of}
use Rattle.writer.proofs.family.put_chains.Given as goal

abbrev pub invariant-loop-count : goal.invariant-loop-count
invariant-loop-count l =
    let counts = l.counts in
    let all = chains_of counts l.chains in
    Wrote l.fn.at l.fn.bytes l.bytes (flat_map chain_record (take l.count-index all)) l.end ×
    (chains_of (drop l.count-index counts) l.numbers ≡ drop l.count-index all) ×
    (sum (drop l.count-index counts) ≡ length l.numbers) ×
    (l.end + 6 * (length counts - l.count-index) + 2 * length l.numbers ≡ l.fn.at + 6 * length counts + 2 * length l.chains)
