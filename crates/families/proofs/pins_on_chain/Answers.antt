use Rattle.families.proofs.Pinning.{pins_on_chain}
use Rattle.families.proofs.pins_on_chain.Goals as goal

pub returns : goal.returns
returns c = pins_on_chain
