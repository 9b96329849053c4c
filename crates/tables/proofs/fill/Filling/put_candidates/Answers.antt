use Rattle.std.proofs.Common.{rules}
use Rattle.tables.specs.Terms.{costs, grants}
use Rattle.tables.proofs.Filling.{row_begun}
use Rattle.tables.proofs.fill.Filling.put_candidates.Goals as goal

pub returns-clause-after : goal.returns-clause-after
returns-clause-after g c =
    let K = g.P.Price.kind in
    let f = c.args.self.now in
    row_begun K (costs g.P.Price.link f.terms) (grants f.terms) c.args.cells.now _ f.n c.args.k c.args.i c.head-head.result c.requires.level.0 c.requires.ends
    c.requires.before c.requires.cleared c.head-head.ensures (c.update_row.ensures.inside (λ _ further. K.join c.head-head.result further) (λ x y r h. search rules))
    c.update_row.ensures.outside
