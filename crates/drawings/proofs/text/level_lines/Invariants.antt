use Rattle.std.proofs.Common.{◌≡◌, ◌+◌, ◌-◌, ◌≤◌, length, get_or, string_bytes}
use Rattle.families.specs.Stay.{read_off}
use Rattle.drawings.specs.Text.{levels_text}
use Rattle.drawings.proofs.text.level_lines.Given as goal

abbrev pub invariant-loop-level : goal.invariant-loop-level
invariant-loop-level l =
    (l.level ≤ l.m + 1) × (string_bytes l.text ≡ levels_text (l.level - 1) (read_off (λ v. get_or l.stays v 0) (length l.stays)))
