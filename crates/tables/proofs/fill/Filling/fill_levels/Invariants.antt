use Rattle.std.proofs.Common.{◌≡◌, ℕ, ◌<◌, ◌≤◌, length}
use Rattle.tables.specs.Terms.{costs, grants}
use Rattle.tables.specs.Row.{KeptOutside, room, RowHolds}
use Rattle.tables.proofs.fill.Filling.fill_levels.Given as goal

abbrev pub invariant-loop-k : goal.invariant-loop-k
invariant-loop-k g l =
    let K = g.P.Price.kind in
    (length l.cells ≡ length l.initial.cells) ×
    ((h v : ℕ) → 1 ≤ h → h < l.k → v < l.self.n → RowHolds K (costs g.P.Price.link l.self.terms) (grants l.self.terms) l.cells l.self.n h v) ×
    KeptOutside K l.initial.cells l.cells 0 (room l.self)
