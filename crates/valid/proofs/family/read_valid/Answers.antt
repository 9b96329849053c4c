use Rattle.std.proofs.Common.{rules, ◌≤◌, length, sym, ap}
use Rattle.packs.specs.Bytes.{Octets}
use Rattle.valid.proofs.Reading.{head_read, chains_read, not_refused}
use Rattle.valid.proofs.family.read_valid.Goals as goal

pub slice_bounds-read_chains-count : goal.slice_bounds-read_chains-count
slice_bounds-read_chains-count c =
    let bs = c.args.bytes.now in
    let f = c.in_ok-total.total in
    let octets : Octets bs = search rules in
    let v = (c.in_ok-total.ensures.valid_exactly_for_true_families.exactly f).0 (sym c.in_ok-total.ensures.answer) in
    let job = c.in_ok-job.job in
    let end = c.in_ok-job.end in
    let place = c.read_family_head.new.place in
    let h = head_read bs octets f v job end place.vertices _ place.levels _ c.in_ok-job.ensures.answer c.read_family_head.ensures.vertices c.read_family_head.ensures.levels in
    h.inside

pub slice_bounds-read_chains-start : goal.slice_bounds-read_chains-start
slice_bounds-read_chains-start c =
    let bs = c.args.bytes.now in
    let f = c.in_ok-total.total in
    let octets : Octets bs = search rules in
    let v = (c.in_ok-total.ensures.valid_exactly_for_true_families.exactly f).0 (sym c.in_ok-total.ensures.answer) in
    let job = c.in_ok-job.job in
    let end = c.in_ok-job.end in
    let place = c.read_family_head.new.place in
    let h = head_read bs octets f v job end place.vertices _ place.levels _ c.in_ok-job.ensures.answer c.read_family_head.ensures.vertices c.read_family_head.ensures.levels in
    let inside : end ≤ length bs = h.inside in
    search rules

pub returns-in_err-claim : goal.returns-in_err-claim
returns-in_err-claim c =
    let bs = c.args.bytes.now in
    let f = c.in_ok-total.total in
    let octets : Octets bs = search rules in
    let v = (c.in_ok-total.ensures.valid_exactly_for_true_families.exactly f).0 (sym c.in_ok-total.ensures.answer) in
    let job = c.in_ok-job.job in
    let end = c.in_ok-job.end in
    let place = c.read_family_head.new.place in
    let h = head_read bs octets f v job end place.vertices _ place.levels _ c.in_ok-job.ensures.answer c.read_family_head.ensures.vertices c.read_family_head.ensures.levels in
    let kn = ap (λ j. j.vertices) h.job_is in
    let lm = ap (λ j. j.levels) h.job_is in
    absurd (not_refused bs octets f v job.vertices job.levels end kn lm h.end_is c.in_err-claim.field-0.0 c.in_err-claim.ensures.answer)

pub returns : goal.returns
returns c =
    let bs = c.args.bytes.now in
    let f = c.in_ok-total.total in
    let octets : Octets bs = search rules in
    let v = (c.in_ok-total.ensures.valid_exactly_for_true_families.exactly f).0 (sym c.in_ok-total.ensures.answer) in
    let job = c.in_ok-job.job in
    let end = c.in_ok-job.end in
    let place = c.read_family_head.new.place in
    let h = head_read bs octets f v job end place.vertices _ place.levels _ c.in_ok-job.ensures.answer c.read_family_head.ensures.vertices c.read_family_head.ensures.levels in
    let kn = ap (λ j. j.vertices) h.job_is in
    let lm = ap (λ j. j.levels) h.job_is in
    let read = c.read_chains.new.place in
    let claim = c.in_ok-claim.claim in
    let r = chains_read bs octets f v job.vertices job.levels end kn lm h.end_is claim read.numbers _ read.counts _ c.in_ok-claim.ensures.answer c.read_chains.ensures.numbers c.read_chains.ensures.counts in
    record {
      valid = v;
      job_is = h.job_is;
      few = h.few;
      vertices_are = h.vertices_are;
      levels_are = h.levels_are;
      numbers_inside = r.numbers_inside;
      numbers_are = r.numbers_are;
      counts_are = r.counts_are;
    }
