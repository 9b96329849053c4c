use Rattle.std.proofs.Common.{rules, arith}
use Rattle.families.specs.Price.{cheaper}
use Rattle.tables.specs.Terms.{costs, grants}
use Rattle.tables.proofs.Filling.{candidates_left, candidates_taken}
use Rattle.tables.proofs.fill.Filling.take_candidates.Goals as goal

pub returns-then-not-grants-clause-after : goal.returns-then-not-grants-clause-after
returns-then-not-grants-clause-after g c =
    let f = c.args.self.now in
    candidates_left g.P.Price.kind (costs g.P.Price.link f.terms) (grants f.terms) c.args.cells.now f.n c.args.k c.args.i c.args.v (omega arith) (search rules) c.requires.before

pub returns-clause-after : goal.returns-clause-after
returns-clause-after g c =
    let K = g.P.Price.kind in
    let f = c.args.self.now in
    candidates_taken K (costs g.P.Price.link f.terms) (grants f.terms) c.args.cells.now _ f.n c.args.k c.args.i c.args.v c.head-head.result
    c.requires.level.0 (omega arith) c.requires.ends.1 (search rules) c.requires.before c.head-head.ensures
    (c.update_row.ensures.inside (λ best further. cheaper K best (K.join c.head-head.result further)) (λ x y r h. search rules))
    c.update_row.ensures.outside
