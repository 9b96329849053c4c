use Rattle.std.proofs.Common.{◌-◌, ◌∙◌, inl, inr, arith, rules}
use Rattle.families.proofs.Next.{next_range}
use Rattle.tables.specs.Terms.{costs, grants}
use Rattle.search.proofs.Walks.{more_done, more_ahead, more_kept}
use Rattle.search.proofs.stays.Walk.+mark_between.Goals as goal

pub mark_between-requires : goal.mark_between-requires
mark_between-requires g t c κs within =
    let w = c.args.self.now in
    let is = c.next_vertex-next.ensures in
    let r = next_range g.P.Price.kind (costs g.P.Price.link w.terms) (grants w.terms) (c.args.k - 1) c.loop-at.at c.args.j c.loop-at-test.true in
    let p = c.put_stay.ensures in
    let inv = c.loop-at.invariant in (
      search rules,
      (
        search rules,
        (
          search rules,
          (
            (omega (arith, r.0, is), (omega (arith, r.1, is), omega (arith, c.put_stay.auto.stays, inv.2))),
            λ v a b. p.others v (inl b) ∙ inv.5 v (inr (inl a)) ∙ c.requires.none v (omega (arith, inv.0)) (omega (arith, r.1, is)),
          ),
        ),
      ),
    )

pub loop-at-smaller : goal.loop-at-smaller
loop-at-smaller g t c =
    let w = c.args.self.now in
    let r = next_range g.P.Price.kind (costs g.P.Price.link w.terms) (grants w.terms) (c.args.k - 1) c.loop-at.at c.args.j c.loop-at-test.true in
    omega (arith, r.0, r.1, c.next_vertex-next.ensures)

pub loop-at-preserved : goal.loop-at-preserved
loop-at-preserved g t c =
    let K = g.P.Price.kind in
    let price = costs g.P.Price.link c.args.self.now.terms in
    let allowed = grants c.args.self.now.terms in
    let k = c.args.k in let i = c.args.i in let j = c.args.j in let at = c.loop-at.at in
    let x = c.next_vertex-next.result in
    let is = c.next_vertex-next.ensures in
    let r = next_range K price allowed (k - 1) at j c.loop-at-test.true in
    let p = c.put_stay.ensures in
    let m = c.mark_between.ensures in
    let inv = c.loop-at.invariant in
    let entry = c.args.stays.now in
    let size = c.mark_between.auto.stays ∙ c.put_stay.auto.stays ∙ inv.2 in (
      omega (arith, r.0, is, inv.0),
      omega (arith, r.1, is),
      size,
      more_done K price allowed k i j at x (search rules) inv.0 c.loop-at-test.true is entry c.loop-at.stays _ _ inv.3 inv.4 inv.5 p.here p.others m.inside m.outside,
      more_ahead K price allowed k i j at x (search rules) inv.0 c.loop-at-test.true is entry c.loop-at.stays _ _ inv.3 inv.4 inv.5 p.here p.others m.inside m.outside,
      more_kept K price allowed k i j at x (search rules) inv.0 c.loop-at-test.true is entry c.loop-at.stays _ _ inv.3 inv.4 inv.5 p.here p.others m.inside m.outside,
    )
