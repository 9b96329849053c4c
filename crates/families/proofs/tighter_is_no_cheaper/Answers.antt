use Rattle.families.proofs.Tighter.{no_cheaper}
use Rattle.families.proofs.tighter_is_no_cheaper.Goals as goal

pub returns : goal.returns
returns g c = λ K rules price loose tight m n near sub. no_cheaper rules price loose tight m n near sub
