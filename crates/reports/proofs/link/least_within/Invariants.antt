use Rattle.std.proofs.Common.{ℕ, ◌-◌, ◌<◌, ◌≤◌, T}
use Rattle.reports.specs.Link.{allows_all}
use Rattle.reports.proofs.link.least_within.Given as goal

abbrev pub invariant-loop-low : goal.invariant-loop-low
invariant-loop-low g l =
    let passes = allows_all (g.M.Measure.says l.measure) l.line.vertices.now l.links in
    record {
      ordered : l.low ≤ l.least;
      within : l.least ≤ l.high;
      allowed : T (passes l.least);
      none_below : (s : ℕ) → s < l.low → T (passes s) → ⊥;
    }

abbrev pub decreases-loop-low : goal.decreases-loop-low
decreases-loop-low g l = l.least - l.low
