use Rattle.families.proofs.Tighter.{lower_no_cheaper}
use Rattle.families.proofs.lower_no_cheaper.Goals as goal

pub returns : goal.returns
returns g c = λ K rules price yes' m n largest near rise low high lower.
    lower_no_cheaper rules price yes' m n largest near rise low high lower
