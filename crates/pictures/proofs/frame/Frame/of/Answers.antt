use Rattle.std.proofs.Common.{rules}
use Rattle.pictures.proofs.Exact.{exact_map}
use Rattle.pictures.proofs.frame.Frame.of.Goals as goal

pub returns-clause-exact : goal.returns-clause-exact
returns-clause-exact c = exact_map c.around.result c.args.ends c.args.marks.now c.args.banded.now c.args.rows (search rules)
