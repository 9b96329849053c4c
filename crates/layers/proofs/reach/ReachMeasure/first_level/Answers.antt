use Rattle.std.proofs.Common.{◌-◌, ◌≤◌, ◌⊎◌, inl, inr, arith, rules}
use Rattle.layers.proofs.Grading.{first_far, first_near}
use Rattle.layers.proofs.reach.ReachMeasure.first_level.Goals as goal
use Rattle.layers.proofs.reach.ReachMeasure.first_level.Goals.{else-ahead-gt1-via-then-ahead-gt1+else-ahead-self, else-ahead-gt1-via-else-ahead-gt1}

pub returns-then-ahead-self : goal.returns-then-ahead-self
returns-then-ahead-self g c = search (rules, first_far)

pub returns-clause-answer : goal.returns-clause-answer
returns-clause-answer g c =
    let near : (c.args.j - c.args.i ≤ 1) ⊎ (c.args.j - c.args.i ≤ c.args.self.now.reach) =
    elim c.else-ahead-gt1.branch [ else-ahead-gt1-via-then-ahead-gt1+else-ahead-self w ↦ inr (omega arith) | else-ahead-gt1-via-else-ahead-gt1 w ↦ inl (omega arith) ] in
    let rules = g.met.M.Measure.rules c.args.self.now.below in
    search (rules, first_near)
