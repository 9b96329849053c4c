use Rattle.layers.proofs.Pinned.{more_pins_in_layer}
use Rattle.layers.proofs.theorems.more_pins_in_layer.Goals as goal

pub returns : goal.returns
returns g c = more_pins_in_layer
