use Rattle.std.proofs.Common.{◌≡◌, ◌++◌, drop}
use Rattle.pictures.specs.Family.{marks_from}
use Rattle.pictures.proofs.family.marks.Given as goal

abbrev pub invariant-loop-v : goal.invariant-loop-v
invariant-loop-v l = l.marks.items ++ marks_from l.v (drop l.v l.vertices) l.chains l.top ≡ marks_from 0 l.vertices l.chains l.top
