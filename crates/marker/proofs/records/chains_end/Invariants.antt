use Rattle.std.proofs.Common.{◌≡◌, ◌-◌, ◌≤◌, length, drop}
use Rattle.marker.specs.Records.{chains_end}
use Rattle.marker.proofs.records.chains_end.Given as goal

abbrev pub invariant-loop-k : goal.invariant-loop-k
invariant-loop-k l =
    (chains_end l.n (l.m - l._k) l.at (drop l.at l.records) ≡ chains_end l.n l.m 0 l.records) × (l.at ≤ length l.records)
