use Rattle.std.proofs.Common.{◌≡◌, length}
use Rattle.edits.proofs.perform.places.Given as goal

abbrev pub invariant-loop : goal.invariant-loop
invariant-loop g l = length l.answers.items ≡ l.counter
