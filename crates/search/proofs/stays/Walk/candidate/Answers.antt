use Rattle.std.proofs.Common.{◌-◌, length, ◌∙◌, ap₂, arith}
use Rattle.tables.specs.Terms.{costs, grants}
use Rattle.search.proofs.Reading.{reads}
use Rattle.search.proofs.stays.Walk.candidate.Goals as goal

pub returns : goal.returns
returns g c =
    let K = g.P.Price.kind in
    let w = c.args.self.now in
    let read = reads K (costs g.P.Price.link w.terms) (grants w.terms) w.prices.now.cells.now w.prices.now.n (length w.terms.levels.now) w.filled in
    let under = c.get.ensures ∙ read (c.args.k - 1) c.args.i c.args.v (omega arith) (omega arith) (omega arith) in
    let rest = c.get-2.ensures ∙ read c.args.k c.args.v c.args.j (omega arith) (omega arith) (omega arith) in
    c.join-2.ensures ∙ ap₂ K.join (c.join.ensures ∙ ap₂ K.join c.cost-cost.ensures under) rest
