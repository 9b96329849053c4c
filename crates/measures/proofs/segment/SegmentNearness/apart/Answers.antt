use Rattle.std.proofs.Common.{◌≡◌, true, false, pos, sym, refl, ap, ◌∙◌, w64, SFits, rules}
use lib.Signed.{le_z}
use Rattle.std.proofs.lemmas.Bool.{cond-true, cond-false}
use Rattle.measures.specs.Plane.{dot, squared}
use Rattle.measures.specs.Apart.{apart_within}
use Rattle.measures.proofs.Products.{zero_fits, order_back}
use Rattle.measures.proofs.Distances.{end_counts}
use Rattle.measures.proofs.segment.SegmentNearness.apart.Goals as goal

pub returns-then-along-le0 : goal.returns-then-along-le0
returns-then-along-le0 c t =
    let p = c.args.link.p.vertex in
    let q = c.args.link.q.vertex in
    let v = c.args.v.vertex in
    let start : le_z (dot p q v) (pos 0) ≡ true =
    order_back c.along-along.result (pos 0) _ _ true (record { sfits = c.along-along.type_inv }) zero_fits c.along-along.ensures refl c.if-along-le0.true in
    cond-true _ _ _ start ∙ end_counts p v _ c.distance.ensures p q t ∙ ap (λ a. apart_within a p q t) (sym c.from_end.ensures)

pub returns-then-along-link : goal.returns-then-along-link
returns-then-along-link c t =
    let l = c.args.link in
    let p = l.p.vertex in
    let q = l.q.vertex in
    let v = c.args.v.vertex in
    let f : SFits w64 l.length = search rules in
    let start : le_z (dot p q v) (pos 0) ≡ false =
    order_back c.along-along.result (pos 0) _ _ false (record { sfits = c.along-along.type_inv }) zero_fits c.along-along.ensures refl c.if-along-le0.false in
    let end : le_z (squared p q) (dot p q v) ≡ true =
    order_back l.length c.along-along.result _ _ true f (record { sfits = c.along-along.type_inv }) l.measured c.along-along.ensures c.if-along-link.true in
    cond-false _ _ _ start ∙ cond-true _ _ _ end ∙ end_counts q v _ c.distance-then-along-link.ensures p q t ∙
    ap (λ a. apart_within a p q t) (sym c.from_end-then-along-link.ensures)
