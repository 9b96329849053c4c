-- The pack of a job: its numbers, its length, and when there is room for it. Assumes nothing.
use Rattle.std.proofs.Common.{◌≡◌, ℕ, ◌+◌, ◌*◌, ◌<◌, ◌≤◌, leb, List, [], ◌∷◌, ◌++◌, length, is_ok, Ok, Err, sym, refl, ap, ap₂, subst, ◌∙◌, arith, length-append}
use Rattle.std.specs.List.{flat_map}
use Rattle.std.proofs.lemmas.Bool.{cond-true, cond-false, le-leb, lt-leb}
use Rattle.lines.specs.Fault.{fault, then}
use Rattle.lines.specs.Level.{LawfulLevels, judged_count, judged_levels}
use Rattle.lines.specs.declared.fault.Cause.TheVariants.{Unknown, Memory}
use Rattle.lines.specs.declared.fault.Layer.TheVariants.{Pack}
use Rattle.lines.specs.declared.level.Level.{Level}
use Rattle.lines.specs.declared.vertex.Vertex.{Vertex}
use Rattle.lines.proofs.Levels.{judged_means}
use Rattle.marker.proofs.Limits.{count_means}
use Rattle.packs.specs.Record.{a_record}
use Rattle.packs.specs.Kind.{measure_number, price_number, measure_numbered, price_numbered, measure_largest}
use Rattle.packs.specs.Job.{vertex_bytes, level_bytes, encoded}
use Rattle.packs.specs.declared.kind.MeasureKind.{MeasureKind}
use Rattle.packs.specs.declared.kind.PriceKind.{PriceKind}
use Rattle.packs.proofs.Accepting.{measure_known, price_known}
use Rattle.packs.proofs.Answered.{then_ok, known_ok, same_answer}
use Rattle.packs.proofs.ItemTrips.{length_joined}
use Rattle.writer.specs.Put.{job_records}
use Rattle.writer.specs.Job.{content, judged_job, fitting, job_pack}

module _ (measure price : ℕ) (ls : List Level) (k : MeasureKind × PriceKind) (judged : judged_job measure price ls ≡ Ok k) where
  -- what was judged
  pub record Judged : Type 0 where
    pub same_measure : measure_number k.0 ≡ measure
    pub same_price : price_number k.1 ≡ price
    pub count : (1 ≤ length ls) × (length ls ≤ 8)
    pub levels_lawful : LawfulLevels (measure_largest k.0) ls

  pub what_judged : Judged
  what_judged =
      let p = then_ok (judged_count Pack (length ls)) _ k judged in
      let q = known_ok (measure_numbered measure) (fault Unknown Pack 0) _ k p.2 in
      let r = known_ok (price_numbered price) (fault Unknown Pack 1) _ k q.2 in
      let t = then_ok (judged_levels (measure_largest q.0) Pack ls) _ k r.2 in
      let same : (q.0, r.0) ≡ k = same_answer _ _ t.2 in
      let me = ap (λ (z : MeasureKind × PriceKind). z.0) same in
      let pr = ap (λ (z : MeasureKind × PriceKind). z.1) same in
      record {
        same_measure = ap measure_number (sym me) ∙ sym (measure_known measure q.0 q.1);
        same_price = ap price_number (sym pr) ∙ sym (price_known price r.0 r.1);
        count = (count_means Pack (length ls)).0 p.1;
        levels_lawful = subst (λ m. LawfulLevels (measure_largest m) ls) me ((judged_means (measure_largest q.0) Pack ls).0 (ap is_ok t.1));
      }

  module _ (vs : List Vertex) where
    -- the records are the pack
    pub records : job_records measure price vs ls ≡ encoded (content k.0 k.1 vs ls)
    records = ap₂ (λ m p. job_records m p vs ls) (sym what_judged.same_measure) (sym what_judged.same_price)

    pub pack_length : length (encoded (content k.0 k.1 vs ls)) ≡ 20 + 4 * length vs + 8 * length ls
    pack_length =
        let v = length_joined 4 vertex_bytes (λ _. refl) vs in
        let l = length_joined 8 level_bytes (λ _. refl) ls in
        length-append (a_record 1 (measure_number k.0 ∷ (price_number k.1 ∷ []))) (a_record 2 (flat_map vertex_bytes vs) ++ a_record 3 (flat_map level_bytes ls)) ∙
        ap (λ n. 8 + n) (length-append (a_record 2 (flat_map vertex_bytes vs)) (a_record 3 (flat_map level_bytes ls))) ∙ omega (arith, v, l)

    -- the memory is short
    pub short : (room : ℕ) → room < 20 + 4 * length vs + 8 * length ls → job_pack measure price vs ls room ≡ Err (fault Memory Pack 3)
    short room h =
        let pack = encoded (content k.0 k.1 vs ls) in
        ap (λ r. then r (λ z. fitting room (encoded (content z.0 z.1 vs ls)))) judged ∙ cond-false (leb (length pack) room) _ _ (lt-leb (length pack) room (subst (λ n. room < n) (sym pack_length) h))

    -- it is not
    pub fits : (room : ℕ) → 20 + 4 * length vs + 8 * length ls ≤ room → job_pack measure price vs ls room ≡ Ok (encoded (content k.0 k.1 vs ls))
    fits room h =
        let pack = encoded (content k.0 k.1 vs ls) in
        ap (λ r. then r (λ z. fitting room (encoded (content z.0 z.1 vs ls)))) judged ∙ cond-true (leb (length pack) room) _ _ (le-leb (length pack) room (subst (λ n. n ≤ room) (sym pack_length) h))
