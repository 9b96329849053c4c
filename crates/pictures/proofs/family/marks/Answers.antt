use Rattle.std.proofs.Common.{arith}
use Rattle.std.proofs.lemmas.Grind.{common_steps}
use Rattle.pictures.proofs.Drawn.{draws_chains}
use Rattle.pictures.proofs.family.marks.Goals as goal

pub returns-clause-draws : goal.returns-clause-draws
returns-clause-draws c = draws_chains c.args.vertices.now c.args.chains.now c.args.top c.loop-v.marks.items (grind (arith, common_steps))
