use Rattle.std.proofs.Common.{◌≡◌, ◌+◌, ◌≤◌, drop}
use Rattle.lines.specs.Level.{judged_from, judged_levels}
use Rattle.lines.proofs.level.check_levels.Given as goal

abbrev pub invariant-loop-i : goal.invariant-loop-i
invariant-loop-i l = (judged_from l.largest l.layer (l.i + 1) l.least (drop l.i l.levels) ≡ judged_levels l.largest l.layer l.levels) × (l.least ≤ 4294967296)
