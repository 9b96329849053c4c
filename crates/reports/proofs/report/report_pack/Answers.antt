use Rattle.std.proofs.Common.{rules, ◌≡◌, ◌-◌, vec_items, arith}
use Rattle.reports.proofs.Valid.{line_lawful, end_to_end, told}
use Rattle.reports.proofs.report.report_pack.Goals as goal

pub slice_bounds-rows_of-end : goal.slice_bounds-rows_of-end
slice_bounds-rows_of-end c =
    let inside = c.in_ok-family.ensures.numbers_inside in
    search rules

pub rows_of-requires-clause-line : goal.rows_of-requires-clause-line
rows_of-requires-clause-line c = line_lawful c.args.bytes.now c.in_ok-family.family c.in_ok-family.ensures

pub rows_of-requires-clause-family : goal.rows_of-requires-clause-family
rows_of-requires-clause-family c =
    let f = c.in_ok-family.family in
    let all_counts : f.job.levels - 0 ≡ f.job.levels = omega arith in
    let all_numbers : f.vertices - 0 ≡ f.vertices = omega arith in
    rw (all_counts, all_numbers) (end_to_end c.args.bytes.now f c.in_ok-family.ensures)

pub returns : goal.returns
returns c =
    let f = c.in_ok-family.family in
    let all_counts : f.job.levels - 0 ≡ f.job.levels = omega arith in
    let all_numbers : f.vertices - 0 ≡ f.vertices = omega arith in
    record {
      valid = c.in_ok-family.ensures.valid;
      told = told c.args.bytes.now f c.in_ok-family.ensures (vec_items c.in_ok-rows.rows) (rw (all_counts, all_numbers) at c.in_ok-rows.ensures);
    }
