use Rattle.std.proofs.Common.{◌≡◌, drop}
use Rattle.texts.specs.Draft.{none_above}
use Rattle.texts.proofs.draft.check_largest.Given as goal

abbrev pub invariant-loop-l : goal.invariant-loop-l
invariant-loop-l l = none_above l.largest l.levels ≡ none_above l.largest (drop l.l-index l.levels)
