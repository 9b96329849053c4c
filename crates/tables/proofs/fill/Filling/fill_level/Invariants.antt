use Rattle.std.proofs.Common.{◌≡◌, length}
use Rattle.tables.specs.Row.{KeptOutside, room, Filled}
use Rattle.tables.proofs.fill.Filling.fill_level.Given as goal

abbrev pub invariant-loop-i : goal.invariant-loop-i
invariant-loop-i g l =
    let K = g.P.Price.kind in
    (length l.cells ≡ length l.initial.cells) ×
    Filled K g.P.Price.link l.self l.cells l.k l.i × KeptOutside K l.initial.cells l.cells 0 (room l.self)
