use Rattle.std.proofs.Common.{◌≡◌, ◌+◌, ◌<◌, ◌≤◌, [], length, get_or, take, drop, sym, ap, subst, ◌∙◌, rules}
use Rattle.std.specs.List.{flat_map}
use Rattle.std.proofs.lemmas.List.{take_all}
use Rattle.marker.specs.Records.{chain_record}
use Rattle.marker.specs.Wrote.{Wrote}
use Rattle.writer.specs.Family.{chains_of}
use Rattle.marker.proofs.Writing.{one_more}
use Rattle.writer.proofs.Chains.{chains_length, chain_here, chains_after, sum_after}
use Rattle.writer.proofs.family.put_chains.Goals as goal

pub loop-count-preserved : goal.loop-count-preserved
loop-count-preserved c =
    let counts = c.args.counts.now in
    let all = chains_of counts c.args.chains.now in
    let i = c.loop-count.count-index in
    let v = c.loop-count.invariant in
    let h : i < length counts = search rules in
    let g : i < length all = subst (λ n. i < n) (sym (chains_length counts c.args.chains.now)) h in
    let numbers = c.loop-count.numbers.now in
    let n = get_or counts i 0 in
    let front : c.split_at.result.0.now ≡ take n numbers = search rules in
    let back : c.split_at.result.1.now ≡ drop n numbers = search rules in
    let chain = front ∙ chain_here counts all i h g numbers v.1 in
    let after = ap (chains_of (drop (i + 1) counts)) back ∙ chains_after counts all i h g numbers v.1 in
    let total = sum_after counts all i h g numbers v.2 ∙ ap length (sym back) in (
      one_more chain_record all i [] c.args.at c.loop-count.end c.put_chain_record-end.result c.args.bytes.now c.loop-count.bytes c.put_chain_record-end.new.bytes g (search rules) v.0
          (subst (λ xs. Wrote c.loop-count.end c.loop-count.bytes c.put_chain_record-end.new.bytes (chain_record xs) c.put_chain_record-end.result) chain c.put_chain_record-end.ensures.wrote),
      after,
      total,
      search rules,
    )

pub returns-clause-wrote : goal.returns-clause-wrote
returns-clause-wrote c =
    let counts = c.args.counts.now in
    let all = chains_of counts c.args.chains.now in
    let whole = take_all c.loop-count.count-index all (subst (λ n. n ≤ c.loop-count.count-index) (sym (chains_length counts c.args.chains.now)) (search rules)) in
    subst (λ xs. Wrote c.args.at c.args.bytes.now c.loop-count.bytes (flat_map chain_record xs) c.loop-count.end) whole c.loop-count.invariant.0
