use Rattle.std.proofs.Common.{sym}
use Rattle.tables.proofs.PriceCells.{at_place, no_place, put_so}
use Rattle.tables.proofs.price_table.PriceTable.put.Goals as goal

pub returns-in-Some-clause-cells : goal.returns-in-Some-clause-cells
returns-in-Some-clause-cells g c =
    let t = c.args.self.now in
    sym ((at_place t.n c.args.k c.args.i c.args.j t.cells.now c.in-Some.place g.P.Price.kind.neutral c.in-Some.ensures).2 c.args.price)

pub returns-in-Some-clause-reads_back : goal.returns-in-Some-clause-reads_back
returns-in-Some-clause-reads_back g c =
    let t = c.args.self.now in
    put_so t.n c.args.k c.args.i c.args.j t.cells.now g.P.Price.kind.neutral c.args.price _ (returns-in-Some-clause-cells g c)

pub returns-in_default-clause-cells : goal.returns-in_default-clause-cells
returns-in_default-clause-cells g c =
    let t = c.args.self.now in
    sym ((no_place t.n c.args.k c.args.i c.args.j t.cells.now g.P.Price.kind.neutral c.in_default.ensures).1 c.args.price)
