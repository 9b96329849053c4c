use Rattle.std.proofs.Common.{take}
use Rattle.std.specs.Fmt.{HasWritten, IsPlainFormatter}
use Rattle.pictures.specs.Shapes.{all_spots_text}
use Rattle.pictures.proofs.shapes.AllSpotsDisplay.fmt.Given as goal

abbrev pub invariant-loop-row : goal.invariant-loop-row
invariant-loop-row g l =
    IsPlainFormatter l.fn.f → HasWritten g.W.Write.write_str_gives l.fn.f (all_spots_text l.frame l.marks (take l.row-index l.row-items)) l.f
