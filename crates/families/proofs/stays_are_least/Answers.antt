use Rattle.families.proofs.Stays.{stays_least}
use Rattle.families.proofs.stays_are_least.Goals as goal

pub returns : goal.returns
returns g c = λ K rules price allowed m n some near stays are. stays_least rules price allowed m n some near stays are
