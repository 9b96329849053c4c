use Rattle.std.proofs.Common.{rules}
use Rattle.pictures.proofs.shapes.SwatchDisplay.fmt.Goals as goal

pub returns-clause-writes : goal.returns-clause-writes
returns-clause-writes g c = rw (← c.units-start.ensures, ← c.row-y.ensures, ← c.units-long.ensures, ← c.units-width.ensures) (search rules)
