use Rattle.std.proofs.Common.{◌+◌, [], ◌∷◌, ◌++◌, map, take, sym, ap, ◌∙◌, arith}
use Rattle.std.proofs.lemmas.List.{map_more, length-map}
use Rattle.packs.specs.Bytes.{little}
use Rattle.marker.proofs.Writing.{wrote_more}
use Rattle.marker.proofs.chain.Chain.put.Goals as goal

pub loop-i-preserved : goal.loop-i-preserved
loop-i-preserved c =
    let ps = c.args.self.now.numbers.now in
    let i = c.loop-i.i in
    let all = length-map ps little in
    let more = ap (λ v. map little (take i ps) ++ v ∷ []) c.number_16.ensures ∙ sym (map_more little ps i [] c.loop-i-test.true) in
    wrote_more c.args.at (c.args.at + i) (c.args.at + (i + 1)) c.number_16.result c.args.numbers.now c.loop-i.numbers (map little (take i ps)) (map little (take (i + 1) ps))
    (omega arith) (omega arith) (omega arith) more c.loop-i.invariant
