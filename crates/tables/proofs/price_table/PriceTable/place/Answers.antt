use Rattle.std.proofs.Common.{length, rules}
use Rattle.tables.proofs.PriceCells.{place_in, place_out}
use Rattle.tables.proofs.price_table.PriceTable.place.Goals as goal

pub returns-then-place-self : goal.returns-then-place-self
returns-then-place-self g c =
    place_in c.args.self.now.n c.args.k c.args.i c.args.j (length c.args.self.now.cells.now) (search rules) (search rules) (search rules) _ _ _ _
    c.saturating_mul.ensures c.saturating_add-row.ensures c.saturating_mul-2.ensures c.saturating_add-place.ensures c.if-place-self.true (search rules)

pub returns-else-place-self : goal.returns-else-place-self
returns-else-place-self g c =
    place_out c.args.self.now.n c.args.k c.args.i c.args.j (length c.args.self.now.cells.now) (search rules) (search rules) (search rules) _ _ _ _
    c.saturating_mul.ensures c.saturating_add-row.ensures c.saturating_mul-2.ensures c.saturating_add-place.ensures c.if-place-self.false
