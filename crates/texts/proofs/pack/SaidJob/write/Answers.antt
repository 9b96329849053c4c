use Rattle.std.proofs.Common.{rules, arith, ◌≡◌, ◌+◌, ◌*◌, length, vec_items, sym, refl, ap, ◌∙◌, subst}
use Rattle.std.specs.Prelude.{IsOk}
use Rattle.std.proofs.lemmas.List.{with_items_is}
use Rattle.packs.specs.Job.{job_in}
use Rattle.writer.specs.Job.{size_answered}
use Rattle.texts.proofs.Written.{packs, fills, reads}
use Rattle.texts.proofs.pack.SaidJob.write.Goals as goal

pub unwrap-requires-2 : goal.unwrap-requires-2
unwrap-requires-2 c =
    let vertices : c.make.new.self.vertices.now ≡ vec_items c.args.self.now.vertices = search rules in
    let levels : c.deref-2.result.now ≡ vec_items c.args.self.now.levels = c.deref-2.ensures.value in
    let room : length c.as_mut_slice.result.now ≡ 20 + 4 * length (vec_items c.args.self.now.vertices) + 8 * length (vec_items c.args.self.now.levels) =
    omega (arith, ap length c.as_mut_slice.ensures.value, c.in_ok-pack.ensures.length, c.count.ensures, c.len.ensures, ap length vertices, ap length levels, c.deref-2.ensures.len) in
    subst IsOk (sym (c.write_job.ensures.answer ∙ ap size_answered (packs _ _ _ _ c.requires c.into-measure.result c.into-price.result _ _ _ c.into-measure.ensures c.into-price.ensures vertices levels room))) refl

pub returns-clause-bytes : goal.returns-clause-bytes
returns-clause-bytes c =
    let vertices : c.make.new.self.vertices.now ≡ vec_items c.args.self.now.vertices = search rules in
    let levels : c.deref-2.result.now ≡ vec_items c.args.self.now.levels = c.deref-2.ensures.value in
    let room : length c.as_mut_slice.result.now ≡ 20 + 4 * length (vec_items c.args.self.now.vertices) + 8 * length (vec_items c.args.self.now.levels) =
    omega (arith, ap length c.as_mut_slice.ensures.value, c.in_ok-pack.ensures.length, c.count.ensures, c.len.ensures, ap length vertices, ap length levels, c.deref-2.ensures.len) in
    with_items_is c.in_ok-pack.pack c.write_job.new.bytes (c.write_job.auto.bytes ∙ c.as_mut_slice.ensures.len) ∙
    fills _ _ _ _ c.requires c.into-measure.result c.into-price.result _ _ _ c.into-measure.ensures c.into-price.ensures vertices levels room c.as_mut_slice.result.now c.write_job.new.bytes refl c.write_job.ensures.bytes_after

pub returns-clause-reads_back : goal.returns-clause-reads_back
returns-clause-reads_back c =
    let vertices : c.make.new.self.vertices.now ≡ vec_items c.args.self.now.vertices = search rules in
    let levels : c.deref-2.result.now ≡ vec_items c.args.self.now.levels = c.deref-2.ensures.value in
    let room : length c.as_mut_slice.result.now ≡ 20 + 4 * length (vec_items c.args.self.now.vertices) + 8 * length (vec_items c.args.self.now.levels) =
    omega (arith, ap length c.as_mut_slice.ensures.value, c.in_ok-pack.ensures.length, c.count.ensures, c.len.ensures, ap length vertices, ap length levels, c.deref-2.ensures.len) in
    ap job_in (with_items_is c.in_ok-pack.pack c.write_job.new.bytes (c.write_job.auto.bytes ∙ c.as_mut_slice.ensures.len)) ∙
    reads _ _ _ _ c.requires c.into-measure.result c.into-price.result _ _ _ c.into-measure.ensures c.into-price.ensures vertices levels room c.as_mut_slice.result.now c.write_job.new.bytes c.write_job.result c.unwrap-2.result refl
    c.write_job.ensures.bytes_after c.write_job.ensures.answer c.unwrap-2.ensures c.write_job.ensures.reads_back
