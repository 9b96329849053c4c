-- What is reported of a valid family that lies in memory. Assumes nothing.
use Rattle.std.proofs.Common.{◌≡◌, ℕ, List, length, take, map, sym, ap, ap₂, subst, ◌∙◌, arith}
use Rattle.std.specs.List.{concat}
use Rattle.std.proofs.lemmas.List.{length-map}
use Rattle.families.specs.Family.{Family}
use Rattle.lines.specs.Line.{Lawful}
use Rattle.measures.specs.Measure.{allowed_by}
use Rattle.packs.specs.Kind.{measure_largest}
use Rattle.marker.specs.Records.{chain_of}
use Rattle.marker.specs.Pack.{measure_says}
use Rattle.valid.specs.Family.{ReadValid}
use Rattle.valid.specs.declared.family.ValidFamily.{ValidFamily}
use Rattle.writer.specs.Family.{chains_of}
use Rattle.writer.proofs.Chains.{chains_back, sum_lengths}
use Rattle.reports.specs.Family.{EndToEnd}
use Rattle.reports.specs.Row.{TellsPriced}
use Rattle.reports.specs.declared.row.Row.{Row}

module _ (bs : List ℕ) (f : ValidFamily) (r : ReadValid bs f) where
  -- the measure and the price are those of the pack
  measure_is : f.job.measure ≡ r.valid.job.measure
  measure_is = ap (λ j. j.measure) r.job_is

  price_is : f.job.price ≡ r.valid.job.price
  price_is = ap (λ j. j.price) r.job_is

  pub line_lawful : Lawful (take f.job.vertices f.place.vertices)
  line_lawful = subst Lawful (sym r.vertices_are) r.valid.lawful.line

  pub end_to_end : EndToEnd (measure_largest f.job.measure) (measure_says f.job.measure) (take f.job.vertices f.place.vertices) (take f.job.levels f.place.levels)
      (take f.job.levels f.chains.counts) (take f.vertices f.chains.numbers)
  end_to_end =
      let v = r.valid in
      let here : EndToEnd (measure_largest v.job.measure) (measure_says v.job.measure) v.job.vertices v.job.levels (map length v.chains) (concat v.chains) = record {
        levels_lawful = v.lawful.levels_lawful;
        one_each = length-map v.chains length ∙ v.chain_count;
        inside = omega (arith, sum_lengths v.chains);
        family = subst (λ cs. Family (allowed_by (measure_says v.job.measure) v.job.vertices v.job.levels) (length v.job.levels) (length v.job.vertices) (chain_of cs)) (sym (chains_back v.chains)) v.family;
      } in
      rw (measure_is, r.vertices_are, r.levels_are, r.counts_are, r.numbers_are) here

  pub told : (rows : List Row) →
      TellsPriced f.job.price (measure_says f.job.measure) (take f.job.vertices f.place.vertices) (take f.job.levels f.place.levels) (chains_of (take f.job.levels f.chains.counts) (take f.vertices f.chains.numbers)) rows →
      TellsPriced r.valid.job.price (measure_says r.valid.job.measure) r.valid.job.vertices r.valid.job.levels r.valid.chains rows
  told rows t =
      let chains : chains_of (take f.job.levels f.chains.counts) (take f.vertices f.chains.numbers) ≡ r.valid.chains = ap₂ chains_of r.counts_are r.numbers_are ∙ chains_back r.valid.chains in
      rw (price_is, measure_is, r.vertices_are, r.levels_are, chains) at t
