use Rattle.layers.proofs.Pinned.{pins_in_layer}
use Rattle.layers.proofs.theorems.pins_in_layer.Goals as goal

pub returns : goal.returns
returns c = pins_in_layer
