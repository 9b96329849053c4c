use Rattle.std.proofs.Common.{length, Ok, Err, ap, sym, ◌∙◌, rules}
use Rattle.writer.specs.Job.{size_answered, bytes_after}
use Rattle.writer.proofs.Jobs.{short}
use Rattle.writer.proofs.JobTrips.{job_accepts, job_reads_back, job_writes}
use Rattle.writer.proofs.job.write_job.Goals as goal

pub returns-in_err-check_job-clause-accepts_exactly : goal.returns-in_err-check_job-clause-accepts_exactly
returns-in_err-check_job-clause-accepts_exactly c =
    job_accepts c.args.measure c.args.price c.args.line.now.vertices.now c.args.levels.now (length c.args.bytes.now) c.from_residual.result (search rules)

pub returns-in_err-check_job-clause-writes_what_was_read : goal.returns-in_err-check_job-clause-writes_what_was_read
returns-in_err-check_job-clause-writes_what_was_read c =
    job_writes c.args.measure c.args.price c.args.line.now.vertices.now c.args.levels.now c.args.bytes.now c.args.bytes.now c.from_residual.result (search rules) (search rules)

pub returns-then-count-levels-clause-answer : goal.returns-then-count-levels-clause-answer
returns-then-count-levels-clause-answer c =
    ap Err c.new.ensures ∙
    sym (ap size_answered (short c.args.measure c.args.price c.args.levels.now c.in_ok-check_job.field-0 (sym c.in_ok-check_job.ensures) c.args.line.now.vertices.now (length c.args.bytes.now) (search rules)))

pub returns-then-count-levels-clause-bytes_after : goal.returns-then-count-levels-clause-bytes_after
returns-then-count-levels-clause-bytes_after c =
    sym (ap (λ pack. bytes_after pack c.args.bytes.now)
    (short c.args.measure c.args.price c.args.levels.now c.in_ok-check_job.field-0 (sym c.in_ok-check_job.ensures) c.args.line.now.vertices.now (length c.args.bytes.now) (search rules)))

pub returns-then-count-levels-clause-accepts_exactly : goal.returns-then-count-levels-clause-accepts_exactly
returns-then-count-levels-clause-accepts_exactly c =
    job_accepts c.args.measure c.args.price c.args.line.now.vertices.now c.args.levels.now (length c.args.bytes.now) (Err c.new.result) (returns-then-count-levels-clause-answer c)

pub returns-then-count-levels-clause-writes_what_was_read : goal.returns-then-count-levels-clause-writes_what_was_read
returns-then-count-levels-clause-writes_what_was_read c =
    job_writes c.args.measure c.args.price c.args.line.now.vertices.now c.args.levels.now c.args.bytes.now c.args.bytes.now (Err c.new.result)
    (returns-then-count-levels-clause-answer c) (returns-then-count-levels-clause-bytes_after c)

pub returns-clause-accepts_exactly : goal.returns-clause-accepts_exactly
returns-clause-accepts_exactly c =
    job_accepts c.args.measure c.args.price c.args.line.now.vertices.now c.args.levels.now (length c.args.bytes.now) (Ok c.put_job.result) (search rules)

pub returns-clause-reads_back : goal.returns-clause-reads_back
returns-clause-reads_back c =
    job_reads_back c.args.measure c.args.price c.args.line.now.vertices.now c.args.levels.now c.args.line.now.lawful c.args.bytes.now c.put_job.new.bytes (Ok c.put_job.result) (search rules) (search rules) (search rules)

pub returns-clause-writes_what_was_read : goal.returns-clause-writes_what_was_read
returns-clause-writes_what_was_read c =
    job_writes c.args.measure c.args.price c.args.line.now.vertices.now c.args.levels.now c.args.bytes.now c.put_job.new.bytes (Ok c.put_job.result) (search rules) (search rules)
