use Rattle.families.proofs.FirstLeast.{stands}
use Rattle.families.proofs.first_least_stands.Goals as goal

pub returns : goal.returns
returns g c = λ K rules price allowed m n near. stands rules price allowed m n near
