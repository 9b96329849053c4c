use Rattle.std.proofs.Common.{take}
use Rattle.std.specs.Fmt.{HasWritten, IsPlainFormatter}
use Rattle.pictures.specs.Shapes.{points_text}
use Rattle.pictures.proofs.shapes.PointsDisplay.fmt.Given as goal

abbrev pub invariant-loop-mark : goal.invariant-loop-mark
invariant-loop-mark g l =
    IsPlainFormatter l.fn.f → HasWritten g.W.Write.write_str_gives l.fn.f (points_text l.frame l.level (take l.mark-index l.mark-items)) l.f
