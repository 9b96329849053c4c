use Rattle.families.proofs.FirstLeast.{is_first}
use Rattle.families.proofs.next_is_first.Goals as goal

pub returns : goal.returns
returns g c = λ K rules price allowed m n near. is_first rules price allowed m n near
