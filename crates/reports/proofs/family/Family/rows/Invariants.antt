use Rattle.std.proofs.Common.{◌≡◌, ℕ, ◌-◌, ◌≤◌, length, Some}
use Rattle.std.specs.Prelude.{slice_get}
use Rattle.lines.specs.Level.{level_of}
use Rattle.marker.specs.Records.{chain_of}
use Rattle.writer.specs.Family.{chains_of}
use Rattle.reports.specs.Row.{Tells}
use Rattle.reports.specs.declared.row.Row.{Row}
use Rattle.reports.proofs.family.Family.rows.Given as goal

abbrev pub invariant-loop-i : goal.invariant-loop-i
invariant-loop-i g l = record {
  told : l.i ≡ length l.rows.items;
  each : (k : ℕ) (row : Row) → 1 ≤ k → slice_get l.rows.items (k - 1) ≡ Some row →
      Tells g.P.Price.kind g.P.Price.link (g.M.Measure.says l.measure) l.fn.self.line.vertices.now k (level_of l.fn.self.levels.now k) (chain_of (chains_of l.fn.self.counts.now l.fn.self.numbers.now) k) row;
}
