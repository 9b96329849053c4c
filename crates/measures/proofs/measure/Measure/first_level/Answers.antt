use Rattle.std.proofs.Common.{rules}
use Rattle.measures.proofs.First.{tells_first}
use Rattle.measures.proofs.measure.Measure.first_level.Goals as goal

pub returns-clause-answer : goal.returns-clause-answer
returns-clause-answer g c = c.first_passing.ensures (g.Self.Measure.says c.args.self.now c.args.line.now.vertices.now c.args.i c.args.j) (λ t b e. search rules)

pub returns-clause-tells_first_level : goal.returns-clause-tells_first_level
returns-clause-tells_first_level g c = tells_first (g.Self.Measure.says c.args.self.now) c.args.line.now.vertices.now c.args.levels.now c.args.i c.args.j _ (returns-clause-answer g c)
