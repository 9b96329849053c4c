use Rattle.std.proofs.Common.{◌≡◌, ◌∙◌, subst, rules}
use Rattle.tables.specs.Terms.{costs, grants}
use Rattle.tables.specs.Row.{RowSoFar}
use Rattle.tables.proofs.Filling.{rows_kept, row_last, row_whole, row_done}
use Rattle.tables.proofs.fill.Filling.fill_row.Goals as goal

pub returns-then-i-self-clause-after : goal.returns-then-i-self-clause-after
returns-then-i-self-clause-after g c =
    let K = g.P.Price.kind in
    let f = c.args.self.now in
    let price = costs g.P.Price.link f.terms in
    let t = c.clear_row.ensures in
    row_done K price (grants f.terms) c.args.cells.now _ f.n c.args.k c.args.i c.requires.ends t.outside c.requires.before
    (row_last K price (grants f.terms) _ f.n c.args.k c.args.i c.if-i-self.true t.cleared)

pub put_candidates-requires-clause-before : goal.put_candidates-requires-clause-before
put_candidates-requires-clause-before g c =
    let f = c.args.self.now in
    rows_kept g.P.Price.kind (costs g.P.Price.link f.terms) (grants f.terms) c.args.cells.now _ f.n c.args.k c.args.i c.requires.ends c.clear_row.ensures.outside c.requires.before

pub returns-clause-after : goal.returns-clause-after
returns-clause-after g c =
    let K = g.P.Price.kind in
    let f = c.args.self.now in
    let price = costs g.P.Price.link f.terms in
    let k = c.args.k in
    let i = c.args.i in
    let inv = c.loop-v.invariant in
    let end : c.loop-v.v ≡ f.n = search rules in
    row_done K price (grants f.terms) c.args.cells.now c.loop-v.cells f.n k i c.requires.ends
    (λ y o. inv.2 y o ∙ c.put_candidates.ensures.outside y o ∙ c.clear_row.ensures.outside y o) c.requires.before
    (row_whole K price (grants f.terms) c.loop-v.cells f.n k i c.requires.level.0 (subst (λ v. RowSoFar K price (grants f.terms) c.loop-v.cells f.n k i v) end inv.1))
