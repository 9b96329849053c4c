use Rattle.std.proofs.Common.{rules}
use Rattle.drawings.proofs.Jobs.{job_read, line_lawful, drawable}
use Rattle.keys.proofs.Writing.{shown_at, key_of}
use Rattle.keys.proofs.key.key_pack.Goals as goal

pub write_key-requires : goal.write_key-requires
write_key-requires c =
    let read = c.read_job.ensures in
    let place = c.read_job.new.place in
    let h = job_read c.args.bytes.now c.in_ok-job.job place.vertices _ place.levels _ c.in_ok-job.ensures.answer read.accepts_exactly_lawful_jobs read.vertices read.levels in
    record {
      few = h.few;
      line = line_lawful _ _ _ _ h;
      levels = drawable _ _ _ _ h;
      shown = shown_at _ _ _ _ h c.in_ok-drawing.drawing c.in_ok-drawing.ensures;
    }

pub returns : goal.returns
returns c =
    let read = c.read_job.ensures in
    let place = c.read_job.new.place in
    let h = job_read c.args.bytes.now c.in_ok-job.job place.vertices _ place.levels _ c.in_ok-job.ensures.answer read.accepts_exactly_lawful_jobs read.vertices read.levels in
    key_of _ _ _ _ h c.in_ok-drawing.drawing c.in_ok-drawing.ensures c.write_key.result (search rules) c.write_key.ensures
