use Rattle.std.proofs.Common.{◌≡◌, length}
use Rattle.tables.specs.Row.{OnlyRow, Begun}
use Rattle.tables.proofs.fill.Filling.fill_row.Given as goal

abbrev pub invariant-loop-v : goal.invariant-loop-v
invariant-loop-v g l =
    let K = g.P.Price.kind in
    (length l.cells ≡ length l.initial.cells) ×
    Begun K g.P.Price.link l.self l.cells l.k l.i l.v ×
    OnlyRow K l.self l.initial.cells l.cells l.k l.i
