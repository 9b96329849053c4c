-- The worked cases are computed. Assumes nothing.
use Rattle.std.proofs.Common.{refl}
use Rattle.families.specs.Least.{L, walk}
use Rattle.worked.specs.Worked.{AllHold}

pub all_hold : AllHold
unfolding L walk
all_hold = refl
