use Rattle.families.proofs.Pinning.{pins_on_family}
use Rattle.families.proofs.pins_on_family.Goals as goal

pub returns : goal.returns
returns c = pins_on_family
