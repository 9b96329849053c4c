use Rattle.std.proofs.Common.{◌≡◌, ◌+◌, [], ◌∷◌, ◌++◌, length, drop, ap, ◌∙◌, ap₂, sym, ⊎_elim, arith, length-drop}
use Rattle.std.proofs.lemmas.List.{length_push}
use Rattle.families.specs.Family.{total}
use Rattle.lines.specs.Level.{level}
use Rattle.prices.specs.Price.{price_by}
use Rattle.marker.specs.Records.{chains_in, chain_of}
use Rattle.marker.proofs.Stepping.{length_chains, next_of, total_more}
use Rattle.marker.proofs.mark.Family.total.Goals as goal

pub loop-chain-preserved : goal.loop-chain-preserved
loop-chain-preserved g c =
    let K = g.P.Price.kind in
    let link = g.P.Price.link in
    let vs = c.args.self.now.line.vertices.now in
    let ls = c.args.self.now.levels.now in
    let cs = chains_in c.args.self.now.chains.left c.args.self.now.chains.rest.now in
    let inv = c.loop-chain.invariant in
    let s = c.in-Some.ensures.steps in
    let k = length c.loop-chain.yielded in
    let more : length (c.loop-chain.yielded ++ (c.in-Some.chain, c.in-Some.level) ∷ []) ≡ k + 1 = length_push c.loop-chain.yielded (c.in-Some.chain, c.in-Some.level) in
    let chain = next_of cs k _ _ (inv.1 ∙ s.0) in
    let level_next = next_of ls k _ _ (inv.2 ∙ s.1) in
    let inside = level_next.inside in (
      omega arith,
      ap (λ j. drop j cs) more ∙ chain.others,
      ap (λ j. drop j ls) more ∙ level_next.others,
      c.join-sum.ensures ∙ ap₂ K.join c.chain_cost.ensures inv.3
          ∙ total_more K link vs ls cs k _ _ (ap (λ l. l.weight) (level_next.here (level 0 0))) (chain.here []) ∙ ap (λ j. total K (price_by link vs ls) j (chain_of cs)) (sym more),
    )

pub returns : goal.returns
returns g c =
    let self = c.args.self.now in
    let ls = self.levels.now in
    let cs = chains_in self.chains.left self.chains.rest.now in
    let inv = c.loop-chain.invariant in
    let k = length c.loop-chain.yielded in
    let all : length cs ≡ length ls = length_chains self.chains.left self.chains.rest.now ∙ self.one_each in
    let few = inv.0 in
    let dc = length-drop k cs in
    let dl = length-drop k ls in
    let fc = ap length inv.1 in
    let fl = ap length inv.2 in
    let done : k ≡ length ls = ⊎_elim (λ a. let e = ap length a.1.0 in omega arith) (λ b. let e = b.1.0 in omega arith) c.in-None.ensures.steps in
    inv.3 ∙ ap (λ j. total g.P.Price.kind (price_by g.P.Price.link self.line.vertices.now ls) j (chain_of cs)) done
