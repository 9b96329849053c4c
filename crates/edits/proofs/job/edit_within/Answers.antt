use Rattle.drawings.proofs.Jobs.{job_read}
use Rattle.edits.proofs.Jobs.{edited}
use Rattle.edits.proofs.job.edit_within.Goals as goal

pub edit_placed-requires : goal.edit_placed-requires
edit_placed-requires g c =
    let read = c.read_job.ensures in
    let place = c.read_job.new.place in
    (job_read c.args.bytes.now c.in_ok-job.job place.vertices _ place.levels _ c.in_ok-job.ensures.answer read.accepts_exactly_lawful_jobs read.vertices read.levels).few

pub returns : goal.returns
returns g c =
    let read = c.read_job.ensures in
    let place = c.read_job.new.place in
    let h = job_read c.args.bytes.now c.in_ok-job.job place.vertices _ place.levels _ c.in_ok-job.ensures.answer read.accepts_exactly_lawful_jobs read.vertices read.levels in
    let t = c.edit_placed.ensures in
    edited c.args.bytes.now c.in_ok-job.job place.vertices place.levels h c.args.edits.now c.args.room c.edit_placed.result t.level_count t.told t.each_least
