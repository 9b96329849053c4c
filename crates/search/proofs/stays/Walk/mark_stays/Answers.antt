use Rattle.std.proofs.Common.{◌≡◌, ℕ, ◌<◌, ◌≤◌, subst, length, get_or, arith}
use Rattle.std.proofs.lemmas.List.{places}
use Rattle.families.specs.Least.{first_least}
use Rattle.families.specs.Stay.{stay}
use Rattle.tables.specs.Terms.{costs, grants}
use Rattle.search.proofs.Marking.{all_marked, last_put}
use Rattle.search.proofs.stays.Walk.mark_stays.Goals as goal

pub returns-clause-inside : goal.returns-clause-inside
returns-clause-inside g c =
    let w = c.args.self.now in
    let m = c.mark_between.ensures in
    let K = g.P.Price.kind in
    let price = costs g.P.Price.link w.terms in
    let allowed = grants w.terms in
    let levels = length w.terms.levels.now in
    let stays = c.mark_between.new.stays in
    let n = c.count-n.result in
    let two : 2 ≤ n = omega (arith, w.terms.line.lawful.0.0, c.count-n.ensures) in
    subst (λ z. (v : ℕ) → v < z → get_or stays v 0 ≡ stay (first_least K price allowed levels z) levels v) c.count-n.ensures
    (all_marked K price allowed levels n (omega arith) two _ stays (grind (arith, places)) (last_put _ n levels (omega arith) (grind (arith, places))) m.inside m.outside)
