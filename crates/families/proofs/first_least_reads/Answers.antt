use Rattle.std.proofs.Common.{arith}
use Rattle.families.proofs.Next.{walk_end, walk_top, walk_low}
use Rattle.families.proofs.first_least_reads.Goals as goal

pub returns : goal.returns
returns g c = λ K price allowed. (
  λ k l i. walk_end K price allowed k l i i (omega arith),
  walk_top K price allowed,
  walk_low K price allowed,
)
