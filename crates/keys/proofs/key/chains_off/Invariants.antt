use Rattle.std.proofs.Common.{◌≡◌, ◌+◌, ◌-◌, ◌≤◌, length, map, get_or}
use Rattle.std.specs.List.{concat}
use Rattle.families.specs.Stay.{read_off}
use Rattle.keys.specs.Key.{chains_to}
use Rattle.keys.proofs.key.chains_off.Given as goal

abbrev pub invariant-loop-level : goal.invariant-loop-level
invariant-loop-level l = record {
  within : l.level ≤ l.m + 1;
  numbers : l.numbers.items ≡ concat (chains_to (l.level - 1) (read_off (λ v. get_or l.fn.stays v 0) (length l.fn.stays)));
  counts : l.counts.items ≡ map length (chains_to (l.level - 1) (read_off (λ v. get_or l.fn.stays v 0) (length l.fn.stays)));
}
