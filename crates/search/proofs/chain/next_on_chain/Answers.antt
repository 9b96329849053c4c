use Rattle.std.proofs.Common.{ℕ, ◌^◌, ◌<◌, ◌≤◌, length, get_or, arith, rules}
use Rattle.std.proofs.lemmas.Iterator.{first_from_Range}
use Rattle.search.proofs.Staying.{next_told}
use Rattle.search.proofs.chain.next_on_chain.Goals as goal

pub returns : goal.returns
returns c =
    let xs = c.args.stays.now in
    let stays = λ (w : ℕ). get_or xs w 0 in
    let k = c.args.k in
    let fits : length xs < 2 ^ 64 = search rules in
    next_told stays k c.args.v (length xs) c.saturating_add.result (omega (arith, c.saturating_add.ensures)) c.find.result
    (first_from_Range _ _ _ c.find.result (λ w. k ≤ stays w) (λ w. stays w < k) c.find.ensures.ran (λ x q h. search rules) (λ x q h. (search rules, search rules)))
