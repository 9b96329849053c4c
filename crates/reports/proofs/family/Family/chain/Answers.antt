use Rattle.std.proofs.Common.{◌≡◌, ◌+◌, ◌-◌, get_or, take, drop, ap, ◌∙◌, arith}
use Rattle.reports.proofs.Chains.{chain_lies}
use Rattle.reports.proofs.family.Family.chain.Goals as goal

pub returns : goal.returns
returns c =
    let counts = c.args.self.now.counts.now in
    let numbers = c.args.self.now.numbers.now in
    let i = c.args.i in
    let s = c.total-start.result in
    let n : s + get_or counts i 0 - s ≡ get_or counts i 0 = omega arith in
    ap (λ k. take k (drop s numbers)) n ∙ ap (λ k. take (get_or counts i 0) (drop k numbers)) (c.total-start.ensures) ∙ chain_lies counts numbers i c.requires.place
