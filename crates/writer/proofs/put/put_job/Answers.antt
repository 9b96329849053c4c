use Rattle.std.proofs.Common.{◌≡◌, [], ◌∷◌, ◌++◌, ap, subst, rules}
use Rattle.std.specs.List.{flat_map}
use Rattle.packs.specs.Record.{a_record}
use Rattle.packs.specs.Job.{vertex_bytes, level_bytes}
use Rattle.marker.specs.Wrote.{Wrote}
use Rattle.marker.proofs.Writing.{wrote_both}
use Rattle.writer.specs.Put.{job_records}
use Rattle.writer.proofs.put.put_job.Goals as goal

pub returns-clause-wrote : goal.returns-clause-wrote
returns-clause-wrote c =
    let vs = c.vertices.result.now in
    let ls = c.args.levels.now in
    let second = wrote_both c.put_number_record-at.result c.put_record-at.result c.put_record.result c.put_number_record-at.new.bytes c.put_record-at.new.bytes c.put_record.new.bytes
    (a_record 2 (flat_map vertex_bytes vs)) (a_record 3 (flat_map level_bytes ls)) (search rules) c.put_record-at.ensures.wrote c.put_record.ensures.wrote in
    let whole = wrote_both 0 c.put_number_record-at.result c.put_record.result c.args.bytes.now c.put_number_record-at.new.bytes c.put_record.new.bytes
    (a_record 1 (c.args.measure ∷ (c.args.price ∷ []))) (a_record 2 (flat_map vertex_bytes vs) ++ a_record 3 (flat_map level_bytes ls)) (search rules) c.put_number_record-at.ensures.wrote second in
    let same : vs ≡ c.args.line.now.vertices.now = ap (λ v. v.now) c.vertices.ensures.value in
    subst (λ xs. Wrote 0 c.args.bytes.now c.put_record.new.bytes (job_records c.args.measure c.args.price xs ls) c.put_record.result) same whole
