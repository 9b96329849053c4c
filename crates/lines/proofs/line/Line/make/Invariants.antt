use Rattle.std.proofs.Common.{◌≡◌, ℕ, ◌<◌, get_or, drop}
use Rattle.lines.specs.Vertex.{InRange, origin}
use Rattle.lines.specs.Line.{ranged_from}
use Rattle.lines.proofs.line.Line.make.Given as goal

abbrev pub invariant-loop-i : goal.invariant-loop-i
invariant-loop-i l =
    ((k : ℕ) → k < l.i → InRange (get_or l.vertices k origin)) ×
    (ranged_from l.i (drop l.i l.vertices) ≡ ranged_from 0 l.vertices)
