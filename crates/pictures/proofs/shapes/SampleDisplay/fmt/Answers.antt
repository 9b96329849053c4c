use Rattle.std.proofs.Common.{rules}
use Rattle.pictures.proofs.shapes.SampleDisplay.fmt.Goals as goal

pub returns-clause-writes : goal.returns-clause-writes
returns-clause-writes g c = rw (← c.colour-colour.ensures, ← c.from.ensures) (search rules)
