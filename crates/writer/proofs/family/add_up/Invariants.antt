use Rattle.std.proofs.Common.{◌≡◌, ◌+◌, take, sum}
use Rattle.writer.proofs.family.add_up.Given as goal

abbrev pub invariant-loop-count : goal.invariant-loop-count
invariant-loop-count l = sum (take l.count-index l.counts) + l.left ≡ l.fn.number
