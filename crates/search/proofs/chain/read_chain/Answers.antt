use Rattle.std.proofs.Common.{◌≡◌, ℕ, IfOk, length, get_or, nat_le, subst, arith, rules}
use Rattle.std.proofs.lemmas.Iterator.{YieldsList-from_range, items_from_collect}
use Rattle.std.proofs.lemmas.Iterator.Consumers.{YieldsList-from_filter}
use Rattle.search.proofs.Staying.{staying_range}
use Rattle.search.proofs.chain.read_chain.Goals as goal

pub returns : goal.returns
returns c =
    let xs = c.args.stays.now in
    let stays = λ (v : ℕ). get_or xs v 0 in
    let e = items_from_collect c.collect.result c.collect.ensures.ran
    (YieldsList-from_filter _ (λ v. nat_le c.args.k (stays v)) (YieldsList-from_range 0 (length xs) (length xs) (search rules) (omega arith)) c.filter.ensures.closure (λ x r q h. search rules)) in
    subst (λ us. IfOk c.collect.result (λ chain. chain.items ≡ us)) (staying_range stays c.args.k (length xs) 0) e
