use Rattle.std.proofs.Common.{Err, sym, ap, ◌∙◌, arith}
use Rattle.std.proofs.lemmas.Result.{err_from_is_err_and}
use Rattle.marker.proofs.Walking.{end_further, end_refused}
use Rattle.marker.proofs.records.chains_end.Goals as goal

pub returns-in_err-size-clause-answer : goal.returns-in_err-size-clause-answer
returns-in_err-size-clause-answer c =
    let p = err_from_is_err_and c.from_residual.result c.from_residual.ensures.1 in
    p.1 ∙ ap Err p.2
    ∙ sym (end_refused c.args.n c.args.m c.loop-k._k c.loop-k.at c.in_err-size.field-0.0 c.args.records.now (omega arith) (sym c.in_err-size.ensures.answer))
    ∙ c.loop-k.invariant.0

pub loop-k-preserved : goal.loop-k-preserved
loop-k-preserved c = (
  sym (end_further c.args.n c.args.m c.loop-k._k c.loop-k.at c.in_ok-size.size c.args.records.now (omega arith) (sym c.in_ok-size.ensures.answer))
      ∙ c.loop-k.invariant.0,
  c.in_ok-size.ensures.within,
)
