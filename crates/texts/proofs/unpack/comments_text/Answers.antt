use Rattle.std.proofs.Common.{rules, ◌≡◌, ◌-◌, take, string_bytes, ap, arith}
use Rattle.std.proofs.lemmas.Result.{err_from_is_err_and}
use Rattle.texts.proofs.ChainsRead.{read, fits, comments, refused}
use Rattle.texts.proofs.unpack.comments_text.Goals as goal

pub returns-in_err-claim : goal.returns-in_err-claim
returns-in_err-claim c =
    let p = err_from_is_err_and c.from_residual.result c.from_residual.ensures.1 in
    rw (p.1, p.2) (refused c.args.n c.args.m c.args.records.now c.in_err-claim.field-0.0 (search rules) c.in_err-claim.ensures.answer)

pub chain_lines-requires : goal.chain_lines-requires
chain_lines-requires c =
    let place = c.read_chains.new.place in
    let h = c.read_chains.ensures in
    let v : c.in_ok-claim.claim.vertices - 0 ≡ c.in_ok-claim.claim.vertices = omega arith in
    let m : c.args.m - 0 ≡ c.args.m = omega arith in
    fits c.args.n c.args.m c.args.records.now c.in_ok-claim.claim place.numbers place.counts _ _
    (read c.args.n c.args.m c.args.records.now c.in_ok-claim.claim place.numbers _ place.counts _ c.in_ok-claim.ensures.answer h.accepts_exactly_written_records h.numbers h.counts)
    (ap (λ k. take k place.numbers) v) (ap (λ k. take k place.counts) m)

pub returns : goal.returns
returns c =
    let place = c.read_chains.new.place in
    let h = c.read_chains.ensures in
    let v : c.in_ok-claim.claim.vertices - 0 ≡ c.in_ok-claim.claim.vertices = omega arith in
    let m : c.args.m - 0 ≡ c.args.m = omega arith in
    comments c.args.n c.args.m c.args.records.now c.in_ok-claim.claim place.numbers place.counts _ _
    (read c.args.n c.args.m c.args.records.now c.in_ok-claim.claim place.numbers _ place.counts _ c.in_ok-claim.ensures.answer h.accepts_exactly_written_records h.numbers h.counts)
    (ap (λ k. take k place.numbers) v) (ap (λ k. take k place.counts) m)
    (string_bytes c.in_ok-text.text) (string_bytes c.in_ok-total.total) (string_bytes c.writeln.new.self) c.in_ok-text.ensures c.in_ok-total.ensures (search rules) (search rules)
