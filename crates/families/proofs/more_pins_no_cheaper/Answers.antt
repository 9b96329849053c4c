use Rattle.families.proofs.MorePins.{more_pins}
use Rattle.families.proofs.more_pins_no_cheaper.Goals as goal

pub returns : goal.returns
returns g c = λ K rules price allowed m n near fewer more sub. more_pins rules price allowed m n near fewer more sub
