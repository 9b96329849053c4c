use Rattle.std.proofs.Common.{◌≡◌, ℕ, ◌&&◌, true, false, leb, get_or, Some, None, sym, ap, ◌∙◌, rules}
use Rattle.std.proofs.lemmas.Bool.{and_left}
use Rattle.lines.specs.Line.{is_link}
use Rattle.lines.specs.Level.{level}
use Rattle.measures.specs.Measure.{first_allowing}
use Rattle.measures.specs.Plane.{each_skipped, skipped_largest}
use Rattle.measures.specs.Apart.{apart_within, Found}
use Rattle.measures.proofs.Grades.{none_is}
use Rattle.measures.proofs.First.{tells_first}
use Rattle.measures.proofs.AllNear.{first_found, link_refused}
use Rattle.measures.proofs.nearness.AnyMeasure.first_level.Goals as goal

pub returns-in_err-link-clause-answer : goal.returns-in_err-link-clause-answer
returns-in_err-link-clause-answer g c =
    let vs = c.args.line.now.vertices.now in
    let none : c.from_residual.result ≡ None = search rules in
    let apart : false ≡ is_link vs c.args.i c.args.j = search rules in
    none ∙ none_is (each_skipped skipped_largest g.N.Nearness.near vs c.args.i c.args.j) c.args.levels.now (λ k h. and_left _ _ (sym apart))

pub returns-in_err-most-clause-answer : goal.returns-in_err-most-clause-answer
returns-in_err-most-clause-answer g c =
    let near = g.N.Nearness.near in
    let ls = c.args.levels.now in
    let vs = c.vertices.result.now in
    let w = c.widest.result in
    let found : Found near vs c.args.i c.args.j w None = search rules in
    let none : c.from_residual-in_err-most.result ≡ None = search rules in
    none ∙ none_is (each_skipped skipped_largest near vs c.args.i c.args.j) ls
    (λ k h. link_refused skipped_largest near vs c.args.i c.args.j (get_or ls k (level 0 0)).tolerance w found (c.widest.ensures.covers k (level 0 0) h)) ∙
    ap (λ r. first_allowing (each_skipped skipped_largest near) r.now ls c.args.i c.args.j) c.vertices.ensures.value

pub returns-clause-answer : goal.returns-clause-answer
returns-clause-answer g c =
    let near = g.N.Nearness.near in
    let ls = c.args.levels.now in
    let vs = c.vertices.result.now in
    let same = c.vertices.ensures.value in
    let p = c.in_ok-link.link.p.vertex in
    let q = c.in_ok-link.link.q.vertex in
    let most = c.in_ok-most.most in
    let link : true ≡ is_link vs c.args.i c.args.j = search rules in
    let found : Found near vs c.args.i c.args.j c.widest.result (Some most) = search rules in
    let first = c.first_passing.ensures (λ (t : ℕ). leb t skipped_largest && apart_within most p q t) (λ t b e. search rules) in
    first_found skipped_largest near vs ls c.args.i c.args.j p q most c.first_passing.result link (search rules) (search rules) found.1 first ∙
    ap (λ r. first_allowing (each_skipped skipped_largest near) r.now ls c.args.i c.args.j) same

pub returns-clause-tells_first_level : goal.returns-clause-tells_first_level
returns-clause-tells_first_level g c = tells_first (each_skipped skipped_largest g.N.Nearness.near) c.args.line.now.vertices.now c.args.levels.now c.args.i c.args.j _ (returns-clause-answer g c)
