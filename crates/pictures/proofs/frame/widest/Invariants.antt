use Rattle.std.proofs.Common.{◌≡◌, drop}
use Rattle.pictures.specs.Frame.{widest}
use Rattle.pictures.proofs.frame.widest.Given as goal

abbrev pub invariant-loop-row : goal.invariant-loop-row
invariant-loop-row l = widest l.most (drop l.row-index l.rows) ≡ widest 0 l.rows
