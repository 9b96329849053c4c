use Rattle.std.proofs.Common.{◌≡◌, ◌++◌, take}
use Rattle.keys.proofs.key.append.Given as goal

abbrev pub invariant-loop-v : goal.invariant-loop-v
invariant-loop-v l = l.numbers.items ≡ l.initial.numbers.items ++ take l.v-index l.chain
