use Rattle.std.proofs.Common.{length, get_or, vec_items, refl, ap, ◌∙◌, arith}
use Rattle.std.proofs.lemmas.List.{with_items_is}
use Rattle.prices.specs.Price.{price_by}
use Rattle.measures.specs.Measure.{allowed_by}
use Rattle.drawings.proofs.Shown.{least_front}
use Rattle.drawings.proofs.pack.Sketch.draw.Goals as goal

pub returns : goal.returns
returns g c =
    let vs = c.args.self.now.line.vertices.now in
    let ls = c.args.self.now.levels.now in
    let memory = c.find_least.new.stays in
    let whole = with_items_is c.in_ok-stays.stays memory (c.find_least.auto.stays ∙ c.as_mut_slice-3.ensures.len) in
    record {
      level_count = refl;
      stay_count = omega (
        arith,
        c.truncate.ensures.len,
        c.truncate.new.self.ok.0,
        c.in_ok-stays.stays.ok.0,
        c.in_ok-stays.ensures.length,
        c.count.ensures,
        c.args.self.now.line.lawful.0.1,
      );
      sum = c.in_ok-total.total;
      least = least_front g.P.Price.kind (price_by g.P.Price.link vs ls) (allowed_by (g.M.Measure.says c.args.measure.now) vs ls) (length ls) (length vs) memory
          (vec_items c.truncate.new.self) c.in_ok-total.total
          (λ v h. c.truncate.ensures.by_index v 0 (omega (arith, c.count.ensures)) ∙ ap (λ xs. get_or xs v 0) whole)
          c.in_ok-total.ensures.nothing_smaller;
      formed = c.form.ensures;
    }
