use Rattle.std.proofs.Common.{◌++◌, length, Ok, Err, ap, sym, subst, ◌∙◌, rules}
use Rattle.std.specs.List.{flat_map}
use Rattle.marker.specs.Records.{chain_record, total_record}
use Rattle.writer.specs.Put.{job_records}
use Rattle.writer.specs.Job.{size_answered, bytes_after}
use Rattle.writer.specs.Family.{chains_of, CountsFit}
use Rattle.marker.proofs.Writing.{wrote_both}
use Rattle.writer.proofs.Families.{short, answered, written}
use Rattle.writer.proofs.FamilyTrips.{family_accepts, family_reads_back, family_writes}
use Rattle.writer.proofs.family.write_family.Goals as goal

pub returns-then-job-chains-clause-answer : goal.returns-then-job-chains-clause-answer
returns-then-job-chains-clause-answer c =
    let f = c.args.family.now in
    let fit = subst (λ n. CountsFit n (length c.args.levels.now) f.counts.now (length f.chains.now)) c.count.ensures c.in_ok-check.ensures.fit in
    ap Err c.new.ensures ∙
    sym (ap size_answered (short c.args.measure c.args.price c.args.line.now.vertices.now c.args.levels.now f c.in_ok-check_job.field-0 (sym c.in_ok-check_job.ensures)
    (search rules) fit (length c.args.bytes.now) (search rules)))

pub returns-then-job-chains-clause-bytes_after : goal.returns-then-job-chains-clause-bytes_after
returns-then-job-chains-clause-bytes_after c =
    let f = c.args.family.now in
    let fit = subst (λ n. CountsFit n (length c.args.levels.now) f.counts.now (length f.chains.now)) c.count.ensures c.in_ok-check.ensures.fit in
    sym (ap (λ pack. bytes_after pack c.args.bytes.now)
    (short c.args.measure c.args.price c.args.line.now.vertices.now c.args.levels.now f c.in_ok-check_job.field-0 (sym c.in_ok-check_job.ensures)
    (search rules) fit (length c.args.bytes.now) (search rules)))

pub returns-clause-answer : goal.returns-clause-answer
returns-clause-answer c =
    let f = c.args.family.now in
    let fit = subst (λ n. CountsFit n (length c.args.levels.now) f.counts.now (length f.chains.now)) c.count.ensures c.in_ok-check.ensures.fit in
    let number = fit.number in
    answered c.args.measure c.args.price c.args.line.now.vertices.now c.args.levels.now f c.in_ok-check_job.field-0 (sym c.in_ok-check_job.ensures) (search rules) fit (length c.args.bytes.now)
    c.put_total_record.result (search rules) (search rules)

pub returns-clause-bytes_after : goal.returns-clause-bytes_after
returns-clause-bytes_after c =
    let f = c.args.family.now in
    let vs = c.args.line.now.vertices.now in
    let ls = c.args.levels.now in
    let fit = subst (λ n. CountsFit n (length ls) f.counts.now (length f.chains.now)) c.count.ensures c.in_ok-check.ensures.fit in
    let chains = flat_map chain_record (chains_of f.counts.now f.chains.now) in
    let rest = wrote_both c.put_job-at.result c.put_chains-at.result c.put_total_record.result c.put_job-at.new.bytes c.put_chains-at.new.bytes c.put_total_record.new.bytes chains (total_record f.total)
    (search rules) c.put_chains-at.ensures.wrote c.put_total_record.ensures.wrote in
    let whole = wrote_both 0 c.put_job-at.result c.put_total_record.result c.args.bytes.now c.put_job-at.new.bytes c.put_total_record.new.bytes (job_records c.args.measure c.args.price vs ls)
    (chains ++ total_record f.total) (search rules) c.put_job-at.ensures.wrote rest in
    written c.args.measure c.args.price vs ls f c.in_ok-check_job.field-0 (sym c.in_ok-check_job.ensures) (search rules) fit c.args.bytes.now c.put_total_record.new.bytes
    c.put_total_record.result (search rules) whole

pub returns-in_err-check_job-clause-accepts_exactly : goal.returns-in_err-check_job-clause-accepts_exactly
returns-in_err-check_job-clause-accepts_exactly c = family_accepts c.args.measure c.args.price c.args.line.now.vertices.now c.args.levels.now c.args.family.now (length c.args.bytes.now) c.from_residual.result (search rules)

pub returns-in_err-check_job-clause-writes_what_was_read : goal.returns-in_err-check_job-clause-writes_what_was_read
returns-in_err-check_job-clause-writes_what_was_read c =
    family_writes c.args.measure c.args.price c.args.line.now.vertices.now c.args.levels.now c.args.family.now c.args.bytes.now c.args.bytes.now c.from_residual.result (search rules) (search rules)

pub returns-in_err-check-clause-accepts_exactly : goal.returns-in_err-check-clause-accepts_exactly
returns-in_err-check-clause-accepts_exactly c = family_accepts c.args.measure c.args.price c.args.line.now.vertices.now c.args.levels.now c.args.family.now (length c.args.bytes.now) c.from_residual-in_err-check.result (search rules)

pub returns-in_err-check-clause-writes_what_was_read : goal.returns-in_err-check-clause-writes_what_was_read
returns-in_err-check-clause-writes_what_was_read c =
    family_writes c.args.measure c.args.price c.args.line.now.vertices.now c.args.levels.now c.args.family.now c.args.bytes.now c.args.bytes.now c.from_residual-in_err-check.result (search rules) (search rules)

pub returns-then-job-chains-clause-accepts_exactly : goal.returns-then-job-chains-clause-accepts_exactly
returns-then-job-chains-clause-accepts_exactly c = family_accepts c.args.measure c.args.price c.args.line.now.vertices.now c.args.levels.now c.args.family.now (length c.args.bytes.now) (Err c.new.result) (returns-then-job-chains-clause-answer c)

pub returns-then-job-chains-clause-writes_what_was_read : goal.returns-then-job-chains-clause-writes_what_was_read
returns-then-job-chains-clause-writes_what_was_read c =
    family_writes c.args.measure c.args.price c.args.line.now.vertices.now c.args.levels.now c.args.family.now c.args.bytes.now c.args.bytes.now (Err c.new.result) (returns-then-job-chains-clause-answer c) (returns-then-job-chains-clause-bytes_after c)

pub returns-clause-accepts_exactly : goal.returns-clause-accepts_exactly
returns-clause-accepts_exactly c = family_accepts c.args.measure c.args.price c.args.line.now.vertices.now c.args.levels.now c.args.family.now (length c.args.bytes.now) (Ok c.put_total_record.result) (returns-clause-answer c)

pub returns-clause-reads_back : goal.returns-clause-reads_back
returns-clause-reads_back c =
    family_reads_back c.args.measure c.args.price c.args.line.now.vertices.now c.args.levels.now c.args.family.now c.args.line.now.lawful c.put_chains-at.ensures.narrow c.put_total_record.ensures.narrow c.args.bytes.now c.put_total_record.new.bytes (Ok c.put_total_record.result)
    (search rules) (returns-clause-answer c) (returns-clause-bytes_after c)

pub returns-clause-writes_what_was_read : goal.returns-clause-writes_what_was_read
returns-clause-writes_what_was_read c =
    family_writes c.args.measure c.args.price c.args.line.now.vertices.now c.args.levels.now c.args.family.now c.args.bytes.now c.put_total_record.new.bytes (Ok c.put_total_record.result) (returns-clause-answer c) (returns-clause-bytes_after c)
