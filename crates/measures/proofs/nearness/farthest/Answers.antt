use Rattle.std.proofs.Common.{◌≡◌, ℕ, ◌+◌, ◌-◌, ◌<◌, true, false, List, take, drop, get_or, sym, ap, ◌∙◌, subst, arith}
use Rattle.std.proofs.lemmas.List.{get_or-take, get_or-drop}
use Rattle.lines.specs.Vertex.{origin}
use Rattle.lines.specs.declared.vertex.Vertex.{Vertex}
use Rattle.measures.specs.Plane.{Near}
use Rattle.measures.specs.Apart.{apart_within}
use Rattle.measures.specs.declared.apart.Apart.{Apart}
use Rattle.measures.proofs.Distances.{limit_is}
use Rattle.measures.proofs.AllNear.{Passing, apart_fails, apart_passes}
use Rattle.measures.proofs.nearness.farthest.Goals as goal

-- the vertex that the loop has come to is vertex i + 1 + at
vertex_is : (vs : List Vertex) (i j at : ℕ) (v : Vertex) → at < j - (i + 1) → v ≡ get_or (take (j - (i + 1)) (drop (i + 1) vs)) at origin → v ≡ get_or vs (i + 1 + at) origin
vertex_is vs i j at v h e = e ∙ get_or-take (j - (i + 1)) (drop (i + 1) vs) at origin h ∙ get_or-drop (i + 1) vs at origin

-- what the vertex tells, as what vertex k tells
told : (near : Near) (p q v w : Vertex) (a : Apart) → v ≡ w → ((t : ℕ) → near p q v t ≡ apart_within a p q t) → (t : ℕ) → near p q w t ≡ apart_within a p q t
told near p q v w a e tells t = ap (λ x. near p q x t) (sym e) ∙ tells t

pub returns-then-not-within : goal.returns-then-not-within
returns-then-not-within g c =
    let vs = c.args.vertices.now in
    let i = c.args.i in
    let j = c.args.j in
    let k = i + 1 + c.loop-v.v-index in
    let p = c.args.link.p.vertex in
    let q = c.args.link.q.vertex in
    let a = c.apart-apart.result in
    let e = vertex_is vs i j c.loop-v.v-index _ (omega arith) c.new.ensures in
    let y = limit_is a _ p q c.args.t false c.permits-limit.ensures.far c.permits-limit.ensures.off c.if-not-within.ensures in
    apart_fails g.N.Nearness.near vs i j c.args.t k a p q (omega arith) c.requires.start c.requires.end (told g.N.Nearness.near p q _ _ a e c.apart-apart.ensures) (omega arith) y

pub loop-v-preserved : goal.loop-v-preserved
loop-v-preserved g c =
    let vs = c.args.vertices.now in
    let i = c.args.i in
    let j = c.args.j in
    let k = i + 1 + c.loop-v.v-index in
    let p = c.args.link.p.vertex in
    let q = c.args.link.q.vertex in
    let a = c.apart-apart.result in
    let e = vertex_is vs i j c.loop-v.v-index _ (omega arith) c.new.ensures in
    let y = limit_is a _ p q c.args.t true c.permits-limit.ensures.far c.permits-limit.ensures.off c.if-not-within.ensures in
    let d : k + 1 ≡ i + 1 + (c.loop-v.v-index + 1) = omega arith in
    subst (Passing g.N.Nearness.near vs i j c.args.t c.or_more-most.result) d
    (apart_passes g.N.Nearness.near vs i j c.args.t k a p q (omega arith) c.requires.start c.requires.end (told g.N.Nearness.near p q _ _ a e c.apart-apart.ensures)
    c.loop-v.most c.or_more-most.result c.or_more-most.ensures.far c.or_more-most.ensures.off y c.loop-v.invariant)
