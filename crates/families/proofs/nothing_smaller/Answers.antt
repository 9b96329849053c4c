use Rattle.families.proofs.NothingSmaller.{nothing_smaller}
use Rattle.families.proofs.nothing_smaller.Goals as goal

pub returns : goal.returns
returns g c = λ K rules price allowed m n chain fam. nothing_smaller rules price allowed m n chain fam
