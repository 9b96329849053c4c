use Rattle.std.proofs.Common.{◌≡◌, ◌+◌, map, drop}
use Rattle.texts.specs.Draft.{said_in, nothing, all_said}
use Rattle.texts.proofs.draft.read_lines.Given as goal

abbrev pub invariant-loop-i : goal.invariant-loop-i
invariant-loop-i l = all_said 1 (map (λ line. line.now) l.lines) nothing ≡ all_said (l.i + 1) (map (λ line. line.now) (drop l.i l.lines)) (said_in l.draft)
