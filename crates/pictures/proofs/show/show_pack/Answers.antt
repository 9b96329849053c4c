use Rattle.std.proofs.Common.{rules, ◌≡◌, ◌-◌, sym, ap, subst, ◌∙◌, arith}
use Rattle.pictures.specs.Show.{HasLevel}
use Rattle.pictures.proofs.show.show_pack.Goals as goal
use Rattle.pictures.proofs.show.show_pack.Goals.{else-options-via-then-options+else-not-has_band, else-options-via-else-options}

pub returns-then-not-has_level : goal.returns-then-not-has_level
returns-then-not-has_level c =
    let r = c.in_ok-valid.ensures in
    let levels = ap (λ j. j.levels) r.job_is in
    record {
      form = c.in_ok-valid.valid.total;
      valid = r.valid;
      level = λ h. let t = c.has_level.ensures.no (subst (HasLevel c.args.options.level) (sym levels) h) in search rules;
    }

pub returns-then-not-has_band : goal.returns-then-not-has_band
returns-then-not-has_band c =
    let r = c.in_ok-valid.ensures in
    let levels = ap (λ j. j.levels) r.job_is in
    record {
      form = c.in_ok-valid.valid.total;
      valid = r.valid;
      level = subst (HasLevel c.args.options.level) levels (c.has_level.ensures.yes (search rules));
      asked = search rules;
      band = λ h. let t = c.has_band.ensures.no (ap (λ j. j.measure) r.job_is ∙ h) in search rules;
    }

pub returns : goal.returns
returns c =
    let r = c.in_ok-valid.ensures in
    let levels = ap (λ j. j.levels) r.job_is in
    let job = c.in_ok-valid.valid.job in
    let all_vertices : job.vertices - 0 ≡ job.vertices = omega arith in
    let all_levels : job.levels - 0 ≡ job.levels = omega arith in
    let all_numbers : c.in_ok-valid.valid.vertices - 0 ≡ c.in_ok-valid.valid.vertices = omega arith in
    record {
      form = c.in_ok-valid.valid.total;
      valid = r.valid;
      level = subst (HasLevel c.args.options.level) levels (c.has_level.ensures.yes (search rules));
      band = λ asked. elim c.else-options.branch [
        | else-options-via-then-options+else-not-has_band w ↦ sym (ap (λ j. j.measure) r.job_is) ∙ w.has_band.ensures.yes (search rules)
        | else-options-via-else-options w ↦ search rules
      ];
      drawn = rw (all_vertices, all_levels, all_numbers, r.vertices_are, r.levels_are, r.numbers_are, r.counts_are) at c.in_ok-picture.ensures;
    }
