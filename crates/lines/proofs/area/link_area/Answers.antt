use Rattle.std.proofs.Common.{◌≡◌, ◌-◌, ◌<◌, ◌≤◌, ◌+ℤ◌, length, nat_abs, sym, refl, ap, ◌∙◌, subst, ap₂, arith, rules}
use Rattle.std.proofs.lemmas.Bool.{cond-true}
use Rattle.std.proofs.lemmas.Iterator.{window_more}
use Rattle.lines.specs.Line.{is_link}
use Rattle.lines.specs.Area.{link_area, walked}
use Rattle.lines.proofs.Areas.{added, along, along_length, walked_on}
use Rattle.lines.proofs.area.link_area.Goals as goal

pub loop-ends-preserved : goal.loop-ends-preserved
loop-ends-preserved c =
    let i = c.args.i in
    let j = c.args.j in
    let vs = c.vertices-vertices.result.now in
    let xs = along vs i j in
    let rest = c.loop-ends.ends-iterator.rest.now in
    let inv = c.loop-ends.invariant in
    let link = c.if-not-is_link.ensures.decides.0 refl in
    let inside : j < length vs = subst (λ r. j < length r.now) (sym c.vertices-vertices.ensures.value) link.1 in
    let m = window_more xs c.loop-ends.ends-iterator c.next.new.self c.next.result c.in-Some.ends c.in-Some.is c.next.ensures.steps (omega (arith, inv.0)) inv.1.within inv.1.is_end in
    let few : length xs - length rest ≤ 256 = omega (arith, along_length vs i j link.0 inside, c.vertices-vertices.ensures.lawful.0) in
    let a = added _ c.step-sum.result (length xs - length rest) few inv.1.small c.step-sum.ensures.bound in
    let size = c.next.ensures.steps.0 ∙ inv.0 in
    let w = walked_on vs i j link.0 inside rest c.next.new.self.rest.now c.in-Some.ends.now _ c.step-sum.result _
    inv.1 m.0 m.1 (omega (arith, m.2, inv.0)) (λ k d b. m.3 k d (omega (arith, inv.0, b))) c.step-sum.ensures.value a.0 a.1 in
    (size, w)

pub returns : goal.returns
returns c =
    let i = c.args.i in
    let j = c.args.j in
    let same = c.vertices-vertices.ensures.value in
    let vs = c.vertices-vertices.result.now in
    let xs = along vs i j in
    let rest = c.loop-ends.ends-iterator.rest.now in
    let inv = c.loop-ends.invariant in
    let link = c.if-not-is_link.ensures.decides.0 refl in
    let inside : j < length vs = subst (λ r. j < length r.now) (sym same) link.1 in
    let n = along_length vs i j link.0 inside in
    let last : length rest < c.loop-ends.ends-iterator.size = search rules in
    let all : length xs - length rest ≡ j - i = omega (arith, n, last, inv.0, inv.1.some) in
    let few : length xs - length rest ≤ 256 = omega (arith, n, c.vertices-vertices.ensures.lawful.0) in
    let a = added _ c.step-sum-2.result (length xs - length rest) few inv.1.small c.step-sum-2.ensures.bound in
    let l = ap (λ r. is_link r.now i j) same ∙ sym c.if-not-is_link.ensures.value in
    let sum = a.0 ∙ ap₂ ◌+ℤ◌ (inv.1.sums ∙ ap (walked vs i) all) c.step-sum-2.ensures.value in
    c.unsigned_abs.ensures.value ∙ ap nat_abs sum ∙ sym (cond-true _ _ 0 l) ∙ ap (λ r. link_area r.now i j) same
