use Rattle.std.proofs.Common.{◌≡◌, ◌≤◌, drop}
use Rattle.pictures.specs.Family.{count_on}
use Rattle.pictures.proofs.family.stay.Given as goal

abbrev pub invariant-loop-number : goal.invariant-loop-number
invariant-loop-number l = (l.count ≤ l.number-index) × (count_on l.count (drop l.number-index l.chains) l.v ≡ count_on 0 l.chains l.v)
