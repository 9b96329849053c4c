use Rattle.std.proofs.Common.{take}
use Rattle.std.specs.Fmt.{HasWritten, IsPlainFormatter}
use Rattle.pictures.specs.Shapes.{dots_text}
use Rattle.pictures.proofs.shapes.DotsDisplay.fmt.Given as goal

abbrev pub invariant-loop-mark : goal.invariant-loop-mark
invariant-loop-mark g l =
    IsPlainFormatter l.fn.f → HasWritten g.W.Write.write_str_gives l.fn.f (dots_text l.frame l.level (take l.mark-index l.mark-items)) l.f
