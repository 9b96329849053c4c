use Rattle.std.proofs.Common.{arith}
use Rattle.marker.proofs.Walking.{whole_others, chains_first}
use Rattle.marker.proofs.records.ChainsIterator.next.Goals as goal

pub invariant_of-self : goal.invariant_of-self
invariant_of-self c =
    let s = c.args.self.now in
    record { inside = whole_others s.left c.u32_at.result s.rest.now (omega arith) c.u32_at.ensures s.inside }

pub returns-clause-steps : goal.returns-clause-steps
returns-clause-steps c =
    let s = c.args.self.now in
    chains_first s.left c.u32_at.result s.rest.now (omega arith) c.u32_at.ensures _ c.of-chain.ensures
