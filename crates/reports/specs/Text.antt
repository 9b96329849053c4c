-- Reports as text. Assumes nothing.
use Rattle.std.specs.Prelude.{ℕ, List, [], ◌++◌, codes, decimal, vec_items}
use Rattle.std.specs.List.{flat_map}
use Rattle.drawings.specs.Text.{ended}
use Rattle.reports.specs.declared.row.Row.{Row}
use Rattle.reports.specs.declared.report.Report.{Report}

-- A number in a cell of the table, with the bar before it.
abbrev pub cell : ℕ → List ℕ
cell n = codes "| " ++ (decimal n ++ codes " ")

-- A form in a cell.
abbrev pub form_cell : ℕ × ℕ → List ℕ
form_cell f = codes "| " ++ (decimal f.0 ++ (codes " " ++ (decimal f.1 ++ codes " ")))

-- The line of a row.
abbrev pub row_text : Row → List ℕ
row_text r =
    cell r.level ++ (cell r.tolerance ++ (cell r.weight ++ (cell r.links ++ (cell r.kept ++ (cell r.share ++ (cell r.longest ++ (cell r.enough ++
    (form_cell r.price ++ (form_cell r.alone ++ codes "|")))))))))

-- The head of the table.
abbrev pub head_text : List ℕ
head_text =
    ended (codes "| Level | Tolerance | Weight | Links | Kept | Share | Longest | Enough | Price | Alone |") ++
    ended (codes "|---|---|---|---|---|---|---|---|---|---|")

-- The line of the total.
abbrev pub total_text : ℕ × ℕ → List ℕ
total_text f = codes "Total " ++ (decimal f.0 ++ (codes " " ++ decimal f.1))

-- The lines of a report: the table with a line for each row, an empty line, and the total.
abbrev pub report_text : Report → List ℕ
report_text r = head_text ++ (flat_map (λ row. ended (row_text row)) (vec_items r.rows) ++ (ended [] ++ ended (total_text r.total)))
