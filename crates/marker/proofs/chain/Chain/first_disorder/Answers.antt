use Rattle.std.proofs.Common.{sym, ◌∙◌}
use Rattle.marker.proofs.Numbers.{disorder_here, disorder_further}
use Rattle.marker.proofs.chain.Chain.first_disorder.Goals as goal

pub returns-then-not-in_order : goal.returns-then-not-in_order
returns-then-not-in_order c =
    sym (disorder_here c.args.n c.loop-i.low c.args.self.now.numbers.now c.loop-i.i c.number-v.result c.loop-i-test.true c.number-v.ensures.value (sym c.if-not-in_order.ensures)) ∙ c.loop-i.invariant

pub loop-i-preserved : goal.loop-i-preserved
loop-i-preserved c =
    sym (disorder_further c.args.n c.loop-i.low c.args.self.now.numbers.now c.loop-i.i c.number-v.result c.loop-i-test.true c.number-v.ensures.value (sym c.if-not-in_order.ensures)) ∙ c.loop-i.invariant
