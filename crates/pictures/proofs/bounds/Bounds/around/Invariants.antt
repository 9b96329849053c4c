use Rattle.std.proofs.Common.{◌≡◌, drop}
use Rattle.pictures.specs.Bounds.{around}
use Rattle.pictures.proofs.bounds.Bounds.around.Given as goal

abbrev pub invariant-loop-mark : goal.invariant-loop-mark
invariant-loop-mark l = around l.bounds (drop l.mark-index l.marks) ≡ around l.fn.self l.marks
