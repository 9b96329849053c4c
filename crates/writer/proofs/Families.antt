-- The pack of a family: its length, and when the memory has room for it. Assumes nothing.
use Rattle.std.proofs.Common.{◌≡◌, ℕ, ◌+◌, ◌*◌, ◌<◌, ◌≤◌, leb, List, ◌++◌, length, drop, Ok, Err, sym, ap, ap₂, subst, ◌∙◌, arith, length-append}
use Rattle.std.proofs.Math.Nat.{zero-add}
use Rattle.std.specs.List.{flat_map}
use Rattle.std.proofs.lemmas.Bool.{cond-true, cond-false, le-leb, lt-leb}
use Rattle.lines.specs.Fault.{fault, then}
use Rattle.lines.specs.declared.fault.Cause.TheVariants.{Memory}
use Rattle.lines.specs.declared.fault.Layer.TheVariants.{Pack}
use Rattle.lines.specs.declared.level.Level.{Level}
use Rattle.lines.specs.declared.vertex.Vertex.{Vertex}
use Rattle.packs.specs.Job.{encoded}
use Rattle.packs.specs.declared.kind.MeasureKind.{MeasureKind}
use Rattle.packs.specs.declared.kind.PriceKind.{PriceKind}
use Rattle.marker.specs.Records.{chain_record, total_record}
use Rattle.marker.specs.Wrote.{Wrote}
use Rattle.writer.specs.Put.{job_records}
use Rattle.writer.specs.Job.{content, judged_job, fitting, size_answered, bytes_after}
use Rattle.writer.specs.Family.{chains_of, judged_counts, CountsFit, records_of, family_pack, family_size}
use Rattle.writer.specs.declared.family.Family.{Family}
use Rattle.writer.proofs.Chains.{joined_length}
use Rattle.writer.proofs.Jobs.{records, pack_length}

module _ (measure price : ℕ) (vs : List Vertex) (ls : List Level) (f : Family) (k : MeasureKind × PriceKind) (judged : judged_job measure price ls ≡ Ok k) where
  abbrev pack : List ℕ
  pack = encoded (content k.0 k.1 vs ls) ++ records_of f

  abbrev size : ℕ
  size = family_size (length vs) (length ls) (length f.chains.now)

  pub size_is : CountsFit (length vs) (length ls) f.counts.now (length f.chains.now) → length pack ≡ size
  size_is fit =
      let chains = joined_length f.counts.now f.chains.now fit.adds_up in
      let number = fit.number in
      length-append (encoded (content k.0 k.1 vs ls)) (records_of f) ∙
      ap (λ n. n + length (records_of f)) (pack_length measure price ls k judged vs) ∙
      ap (λ n. 20 + 4 * length vs + 8 * length ls + n) (length-append (flat_map chain_record (chains_of f.counts.now f.chains.now)) (total_record f.total) ∙ ap (λ n. n + 18) chains) ∙
      omega arith

  module _ (counted : judged_counts (length vs) (length ls) f.counts.now (length f.chains.now) ≡ Ok tt) (fit : CountsFit (length vs) (length ls) f.counts.now (length f.chains.now)) where
    asked : (room : ℕ) → family_pack measure price vs ls f room ≡ fitting room pack
    asked room =
        ap (λ r. then r (λ z. then (judged_counts (length vs) (length ls) f.counts.now (length f.chains.now)) (λ _. fitting room (encoded (content z.0 z.1 vs ls) ++ records_of f)))) judged ∙
        ap (λ r. then r (λ _. fitting room pack)) counted

    pub short : (room : ℕ) → room < size → family_pack measure price vs ls f room ≡ Err (fault Memory Pack 3)
    short room h = asked room ∙ cond-false (leb (length pack) room) _ _ (lt-leb (length pack) room (subst (λ n. room < n) (sym (size_is fit)) h))

    pub fits : (room : ℕ) → size ≤ room → family_pack measure price vs ls f room ≡ Ok pack
    fits room h = asked room ∙ cond-true (leb (length pack) room) _ _ (le-leb (length pack) room (subst (λ n. n ≤ room) (sym (size_is fit)) h))

    -- the bytes after the records are written
    pub written : (before after : List ℕ) (end : ℕ) → size ≤ length before → Wrote 0 before after (job_records measure price vs ls ++ records_of f) end →
        after ≡ bytes_after (family_pack measure price vs ls f (length before)) before
    written before after end room wrote =
        let same : job_records measure price vs ls ++ records_of f ≡ pack = ap (λ xs. xs ++ records_of f) (records measure price ls k judged vs) in
        let stop : end ≡ length pack = wrote.ends ∙ zero-add (length (job_records measure price vs ls ++ records_of f)) ∙ ap length same in
        wrote.whole ∙ ap₂ (λ xs n. xs ++ drop n before) same stop ∙ sym (ap (λ r. bytes_after r before) (fits (length before) room))

    -- how many they are
    pub answered : (room end : ℕ) → size ≤ room → end ≡ size → Ok end ≡ size_answered (family_pack measure price vs ls f room)
    answered room end h e = ap Ok (e ∙ sym (size_is fit)) ∙ sym (ap size_answered (fits room h))
