use Rattle.std.proofs.Common.{◌≡◌, ℕ, ◌+◌, ◌-◌, [], length, get_or, drop, map, sym, ap, ◌∙◌, ap₂, arith}
use Rattle.std.proofs.lemmas.List.{at_drop_all, take_all}
use Rattle.families.specs.Chain.{links}
use Rattle.families.specs.Family.{cost}
use Rattle.packs.specs.Bytes.{little}
use Rattle.marker.proofs.Numbers.{length_pair_links, off_back, cost_more}
use Rattle.marker.proofs.level.chain_cost.Goals as goal

pub loop-link-init : goal.loop-link-init
loop-link-init g c =
    let ps = c.args.chain.numbers.now in
    let s = c.into_iter-link-iterator.result.iter in
    let w : s ≡ c.windows.result = ap (λ x. x.iter) c.into_iter-link-iterator.ensures.into_iter_gives ∙ c.rev-link-items.ensures.source in
    let r : s.rest.now ≡ ps = ap (λ x. x.rest.now) w ∙ c.windows.ensures.rest in
    let l = ap length r in (
      ap (λ x. x.size) w ∙ c.windows.ensures.size,
      omega arith,
      r ∙ sym (take_all (length s.rest.now) ps (omega arith)),
      c.neutral-sum.ensures ∙ sym (at_drop_all (cost g.P.Price.kind (λ _ i j. g.P.Price.link c.args.line.now.vertices.now i j c.args.weight) 0) (links (map little ps)) (length s.rest.now - 1)
          (omega (arith, length_pair_links ps))),
    )

pub loop-link-preserved : goal.loop-link-preserved
loop-link-preserved g c =
    let ps = c.args.chain.numbers.now in
    let inv = c.loop-link.invariant in
    let s = c.loop-link.link-iterator.iter in
    let t = c.next.new.self.iter in
    let h = off_back ps s t _ c.in-Some.link c.in-Some.is c.next.ensures.steps inv.0 inv.1 inv.2 in
    let K = g.P.Price.kind in
    let price = λ (_ i j : ℕ). g.P.Price.link c.args.line.now.vertices.now i j c.args.weight in
    let i = length t.rest.now - 1 in
    let shorter = h.shorter in
    let some = h.some in
    let next : i + 1 ≡ length t.rest.now = omega arith in
    let left : length s.rest.now - 1 ≡ i + 1 = omega arith in
    let a = c.number.ensures.value ∙ ap little (h.first []) in
    let b = c.number-in-loop-link.ensures.value ∙ ap little (h.second []) ∙ ap (λ k. little (get_or ps k [])) (sym next) in (
      h.two,
      omega arith,
      h.front_left,
      c.join-sum.ensures ∙ ap₂ K.join c.of_link.ensures (inv.3 ∙ ap (λ k. cost K price 0 (drop k (links (map little ps)))) left)
          ∙ sym (cost_more K price 0 ps i c.number.result c.number-in-loop-link.result (omega arith) a b),
    )
