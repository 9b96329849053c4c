use Rattle.std.proofs.Common.{◌≡◌, ◌+◌, ◌-◌, ◌≤◌, length}
use Rattle.pictures.specs.Show.{row_shown, rows_to}
use Rattle.pictures.proofs.show.Family.all_rows.Given as goal

abbrev pub invariant-loop-k : goal.invariant-loop-k
invariant-loop-k l = record {
  within : (1 ≤ l.k) × (l.k ≤ length l.fn.self.levels.now + 1);
  rows : l.rows.items ≡ rows_to (l.k - 1) (row_shown l.fn.self.levels.now l.fn.self.counts.now);
}
