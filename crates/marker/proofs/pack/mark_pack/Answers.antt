use Rattle.std.proofs.Common.{Err, sym, ap, ◌∙◌}
use Rattle.std.proofs.lemmas.Result.{err_from_is_err_and}
use Rattle.std.proofs.lemmas.List.{take_rest}
use Rattle.marker.specs.Pack.{place_marked}
use Rattle.marker.proofs.Heads.{head_read, marked_so, head_refused}
use Rattle.marker.proofs.pack.mark_pack.Goals as goal

pub returns-in_err-job-clause-answer : goal.returns-in_err-job-clause-answer
returns-in_err-job-clause-answer c =
    let p = err_from_is_err_and c.from_residual.result c.from_residual.ensures.1 in
    p.1 ∙ ap Err p.2 ∙ sym (head_refused c.args.bytes.now c.in_err-job.field-0.0 c.in_err-job.ensures.answer)

pub mark_job-requires : goal.mark_job-requires
mark_job-requires c =
    let read = c.read_family_head in
    (head_read c.args.bytes.now c.in_ok-job.job c.in_ok-job.end _ _ _ _ c.in_ok-job.ensures.answer read.ensures.accepts_exactly_lawful_heads read.ensures.vertices read.ensures.levels).few

pub returns-clause-answer : goal.returns-clause-answer
returns-clause-answer c =
    let read = c.read_family_head in
    let h = head_read c.args.bytes.now c.in_ok-job.job c.in_ok-job.end _ _ _ _ c.in_ok-job.ensures.answer read.ensures.accepts_exactly_lawful_heads read.ensures.vertices read.ensures.levels in
    c.mark_job.ensures ∙ ap (place_marked read.new.place.vertices read.new.place.levels c.in_ok-job.job) (take_rest c.args.bytes.now c.in_ok-job.end)
    ∙ marked_so c.args.bytes.now c.in_ok-job.job c.in_ok-job.end _ _ h
