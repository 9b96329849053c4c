use Rattle.std.proofs.Common.{◌≡◌, ◌++◌, take, string_bytes}
use Rattle.std.specs.List.{flat_map}
use Rattle.drawings.specs.Text.{ended}
use Rattle.reports.specs.Text.{row_text, head_text}
use Rattle.reports.proofs.text.report_text.Given as goal

abbrev pub invariant-loop-row : goal.invariant-loop-row
invariant-loop-row l = string_bytes l.text ≡ head_text ++ flat_map (λ row. ended (row_text row)) (take l.row-index l.row-items)
