use Rattle.std.proofs.Common.{◌≡◌, ◌+◌, ◌≤◌, ◌++◌, map, length, set, take, drop, [], ◌∷◌, sym, ap, ap₂, ◌∙◌, subst, rules, arith}
use Rattle.std.specs.List.{concat}
use Rattle.std.proofs.lemmas.List.{take_all, length-drop, length-map}
use Rattle.packs.specs.Bytes.{little}
use Rattle.marker.specs.Chain.{numbers_of}
use Rattle.marker.specs.Records.{chains_in}
use Rattle.marker.specs.Wrote.{Wrote}
use Rattle.marker.proofs.Stepping.{length_chains, next_of}
use Rattle.marker.proofs.Writing.{wrote_both, wrote_more}
use Rattle.marker.proofs.Placing.{joined_more, counted_more, room_for}
use Rattle.marker.proofs.place.ChainPlace.put.Goals as goal

pub bounds-self-i : goal.bounds-self-i
bounds-self-i c =
    let s = c.in-Some.ensures.steps in
    let chains = c.args.chains in
    let cs = chains_in chains.left chains.rest.now in
    let inside = (next_of cs c.loop-i.i-iterator.count (numbers_of c.in-Some.chain) _ (c.loop-i.invariant.3 ∙ s.0)).inside in
    let one_each = length_chains chains.left chains.rest.now in
    let few = c.requires.0 in
    let same = s.1 in
    omega arith

pub put-end-requires : goal.put-end-requires
put-end-requires c =
    let v = c.loop-i.invariant in
    let s = c.in-Some.ensures.steps in
    let chains = c.args.chains in
    let cs = chains_in chains.left chains.rest.now in
    let few : length cs ≤ 8 = subst (λ n. n ≤ 8) (sym (length_chains chains.left chains.rest.now)) c.requires.0 in
    let room = room_for cs c.loop-i.i-iterator.count (numbers_of c.in-Some.chain) _ (v.3 ∙ s.0) few c.requires.1 in
    let ends = v.4.ends in
    let sized = c.loop-i.self.sized.0 in
    omega arith

pub loop-i-preserved : goal.loop-i-preserved
loop-i-preserved c =
    let v = c.loop-i.invariant in
    let s = c.in-Some.ensures.steps in
    let chains = c.args.chains in
    let cs = chains_in chains.left chains.rest.now in
    let before = c.args.self.now in
    let k = c.loop-i.i-iterator.count in
    let x = numbers_of c.in-Some.chain in
    let n = next_of cs k x _ (v.3 ∙ s.0) in
    let inside = n.inside in
    let one_each = length_chains chains.left chains.rest.now in
    let few : length cs ≤ 8 = subst (λ n. n ≤ 8) (sym one_each) c.requires.0 in
    let room = room_for cs k x _ (v.3 ∙ s.0) few c.requires.1 in
    let ends = v.4.ends in
    let sized = before.sized in
    let sized_here = c.loop-i.self.sized in
    let more : c.next.new.self.count ≡ k + 1 = s.2 in
    let joined = subst (λ xs. Wrote 0 before.numbers c.put-end.new.numbers xs c.put-end.result) (joined_more cs k x _ (v.3 ∙ s.0))
    (wrote_both 0 c.loop-i.end c.put-end.result before.numbers c.loop-i.self.numbers c.put-end.new.numbers (concat (take k cs)) x (omega arith) v.4 c.put-end.ensures) in
    let vertices = length c.in-Some.chain.numbers.now in
    let same : vertices ≡ length x = sym (length-map c.in-Some.chain.numbers.now little) in
    let here : c.in-Some.i ≡ k = s.1 in
    let counted = wrote_more 0 c.in-Some.i (k + 1) vertices before.counts c.loop-i.self.counts (map length (take k cs)) (map length (take (k + 1) cs)) (omega arith) (omega arith) (omega arith)
    (ap (λ w. map length (take k cs) ++ w ∷ []) same ∙ counted_more cs k x _ (v.3 ∙ s.0)) (subst (λ j. Wrote 0 before.counts c.loop-i.self.counts (map length (take k cs)) j) (sym here) v.5) in (
      search rules,
      search rules,
      omega arith,
      ap (λ j. drop j cs) more ∙ n.others,
      subst (λ j. Wrote 0 before.numbers c.put-end.new.numbers (concat (take j cs)) c.put-end.result) (sym more) joined,
      subst (λ j. Wrote 0 before.counts (set c.loop-i.self.counts c.in-Some.i vertices) (map length (take j cs)) j) (sym more) counted,
    )

pub returns-clause-counts : goal.returns-clause-counts
returns-clause-counts c =
    let v = c.loop-i.invariant in
    let s = c.in-None.ensures.steps in
    let chains = c.args.chains in
    let cs = chains_in chains.left chains.rest.now in
    let k = c.loop-i.i-iterator.count in
    let one_each = length_chains chains.left chains.rest.now in
    let left = length-drop k cs in
    let none = ap length (v.3 ∙ s.0.0) in
    let few = v.2 in
    let all : k ≡ length cs = omega arith in
    v.5.whole ∙ ap₂ (λ xs j. map length xs ++ drop j c.args.self.now.counts) (take_all k cs (omega arith)) (all ∙ one_each)
