use Rattle.std.proofs.Common.{arith}
use Rattle.families.proofs.LeastTotal.{L_zero, L_end, L_at, L_le}
use Rattle.families.proofs.recurrence.Goals as goal

pub returns : goal.returns
returns g c = λ K rules price allowed. (
  L_zero K price allowed,
  λ k i. L_end K price allowed k i i (omega arith),
  λ k i j v a b t. (L_le rules price allowed k i j v a b t).le,
  L_at K price allowed,
)
