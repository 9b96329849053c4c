use Rattle.std.proofs.Common.{◌≡◌, ◌++◌, [], ◌∷◌, string_bytes, codes, decimal, ap, ◌∙◌, arith}
use Rattle.std.specs.List.{flat_map}
use Rattle.std.proofs.lemmas.List.{append_assoc}
use Rattle.drawings.specs.Text.{ended}
use Rattle.reports.specs.Text.{row_text, head_text, total_text}
use Rattle.reports.specs.declared.row.Row.{Row}
use Rattle.reports.proofs.Texts.{blank, one_line, all_lines}
use Rattle.reports.proofs.text.report_text.Goals as goal

pub loop-row-preserved : goal.loop-row-preserved
loop-row-preserved c =
    one_line (λ (row : Row). ended (row_text row)) c.deref-row-items.result.now head_text c.loop-row.row-index blank (string_bytes c.loop-row.text) (string_bytes c.writeln.new.self) (omega arith)
    c.loop-row.invariant c.in_ok-writeln.ensures.bytes

pub returns : goal.returns
returns c =
    let f = λ (row : Row). ended (row_text row) in
    let rows = c.deref-row-items.result.now in
    let total = ended (total_text c.args.report.now.total) in
    let empty : string_bytes c.push_str-2.new.self ≡ string_bytes c.loop-row.text ++ ended [] = c.in_ok-push_str-2.ensures.bytes in
    let form = c.args.report.now.total in
    let written = codes "Total " ++ (decimal form.0 ++ (codes " " ++ (decimal form.1 ++ (10 ∷ [])))) in
    let bytes : string_bytes c.writeln-2.new.self ≡ string_bytes c.push_str-2.new.self ++ written = c.in_ok-writeln-2.ensures.bytes in
    let same : written ≡ total = simp append_assoc in
    let last : string_bytes c.writeln-2.new.self ≡ string_bytes c.push_str-2.new.self ++ total = bytes ∙ ap (λ ys. string_bytes c.push_str-2.new.self ++ ys) same in
    all_lines f rows head_text c.loop-row.row-index (string_bytes c.loop-row.text) (string_bytes c.push_str-2.new.self) (string_bytes c.writeln-2.new.self) (ended []) total (omega arith)
    c.loop-row.invariant empty last ∙
    ap (λ xs. head_text ++ (flat_map f xs ++ (ended [] ++ total))) c.deref-row-items.ensures.value
