use Rattle.std.proofs.Common.{◌≡◌, map}
use Rattle.texts.specs.Statement.{vertices_in, vertices_said}
use Rattle.texts.proofs.Vertices.{onto, behind}
use Rattle.texts.proofs.statement.read_vertices.Given as goal

abbrev pub invariant-loop-text : goal.invariant-loop-text
invariant-loop-text l = vertices_said (vertices_in (map (λ text. text.now) l.texts)) ≡ onto l.said.items (behind l.texts l.text-index)
