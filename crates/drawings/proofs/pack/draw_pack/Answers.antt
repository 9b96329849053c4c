use Rattle.drawings.proofs.Jobs.{job_read, line_lawful, drawable, drawn}
use Rattle.drawings.proofs.pack.draw_pack.Goals as goal

pub draw_job-requires : goal.draw_job-requires
draw_job-requires c =
    let read = c.read_job.ensures in
    let place = c.read_job.new.place in
    let h = job_read c.args.bytes.now c.in_ok-job.job place.vertices _ place.levels _ c.in_ok-job.ensures.answer read.accepts_exactly_lawful_jobs read.vertices read.levels in
    record { few = h.few; line = line_lawful _ _ _ _ h; levels = drawable _ _ _ _ h }

pub returns : goal.returns
returns c =
    let read = c.read_job.ensures in
    let place = c.read_job.new.place in
    let h = job_read c.args.bytes.now c.in_ok-job.job place.vertices _ place.levels _ c.in_ok-job.ensures.answer read.accepts_exactly_lawful_jobs read.vertices read.levels in
    drawn _ _ _ _ h c.draw_job.result c.draw_job.ensures
