-- Which families are written, and that what was written is read and what was read is written. Assumes nothing.
use Rattle.std.proofs.Common.{◌≡◌, ℕ, ◌<◌, ◌≤◌, map, All, Decides, IfOk, List, [], ◌++◌, length, get_or, take, drop, is_ok, sum, Ok, Err, Result, sym, refl, ap, ap₂, subst, ◌∙◌, arith}
use Rattle.std.specs.List.{concat}
use Rattle.std.proofs.lemmas.List.{drop_at, get_or-map, length-map}
use Rattle.std.proofs.lemmas.List.Elements.{All-from_recursion, All-get_or}
use Rattle.lines.specs.Line.{Lawful}
use Rattle.lines.specs.declared.fault.Fault.{Fault}
use Rattle.lines.specs.declared.level.Level.{Level}
use Rattle.lines.specs.declared.vertex.Vertex.{Vertex}
use Rattle.packs.specs.Bytes.{Octets}
use Rattle.packs.specs.declared.kind.MeasureKind.{MeasureKind}
use Rattle.packs.specs.declared.kind.PriceKind.{PriceKind}
use Rattle.packs.specs.Job.{LawfulContent, encoded}
use Rattle.packs.proofs.Accepting.{accepts_heads}
use Rattle.packs.proofs.Answered.{then_ok, same_answer}
use Rattle.packs.proofs.LittleEndian.{octets_take, octets_drop}
use Rattle.marker.specs.Records.{family_records}
use Rattle.marker.specs.Reader.{ChainFits, FormFits, Written}
use Rattle.marker.proofs.Reading.{reads_written}
use Rattle.writer.specs.Job.{content, size_answered, bytes_after, Writes}
use Rattle.writer.specs.Family.{chains_of, CountsFit, records_of, family_pack, family_size, WritableFamily, ReadAsFamily}
use Rattle.writer.specs.declared.family.Family.{Family}
use Rattle.writer.proofs.Jobs.{what_judged}
use Rattle.writer.proofs.JobTrips.{writable, judged_back, fitted, front, writes, Same, encoded_again, judged_again}
use Rattle.writer.proofs.Counts.{accepted_fit, fit_accepted}
use Rattle.writer.proofs.Chains.{chains_length, chains_back, sum_lengths, chains_fit}
use Rattle.writer.proofs.Families.{size_is, fits}

after_first : (first rest bs : List ℕ) (k : ℕ) → bs ≡ first ++ rest → k ≡ length first → drop k bs ≡ rest
after_first first rest bs k e n = ap (drop k) e ∙ drop_at first rest k (sym n)

module _ (measure price : ℕ) (vs : List Vertex) (ls : List Level) (f : Family) where
  abbrev n : ℕ
  n = length vs

  abbrev m : ℕ
  m = length ls

  abbrev given : ℕ
  given = length f.chains.now

  pub family_accepts : (room : ℕ) (answer : Result ℕ Fault) → answer ≡ size_answered (family_pack measure price vs ls f room) → Decides (is_ok answer) (WritableFamily measure price n ls f room)
  family_accepts room (Ok size) e =
      let s = then_ok _ _ size (sym e) in
      let j = then_ok _ _ s.0 s.1 in
      let t = then_ok _ _ s.0 j.2 in
      let fit = accepted_fit n m f.counts.now given (ap is_ok t.1) in
      let p = fitted room (encoded (content j.0.0 j.0.1 vs ls) ++ records_of f) s.0 t.2 in
      let enough = subst (λ k. k ≤ room) (size_is measure price vs ls f j.0 j.1 fit) p.1 in
      (λ _. record { job = writable measure price ls j.0 (family_size n m given) room j.1 enough; counts_fit = fit }, λ _. refl)
  family_accepts room (Err e') e = (
    λ h. cc,
    λ w.
        let judged = judged_back measure price ls _ room w.job in
        let counted = fit_accepted n m f.counts.now given w.counts_fit in
        let made = fits measure price vs ls f (w.job.measure_kind, w.job.price_kind) judged counted w.counts_fit room w.job.room_for in
        let p = e ∙ ap size_answered made in
        cc,
  )

  pub family_reads_back : Lawful vs → All (λ v. v < 65536) f.chains.now → FormFits f.total → (before after : List ℕ) (answer : Result ℕ Fault) → Octets after →
      answer ≡ size_answered (family_pack measure price vs ls f (length before)) → after ≡ bytes_after (family_pack measure price vs ls f (length before)) before →
      IfOk answer (λ size. ReadAsFamily measure price vs ls (chains_of f.counts.now f.chains.now) f.total (take size after))
  family_reads_back line small form before after (Err e') octets e b = tt
  family_reads_back line small form before after (Ok size) octets e b =
      let s = then_ok _ _ size (sym e) in
      let j = then_ok _ _ s.0 s.1 in
      let t = then_ok _ _ s.0 j.2 in
      let fit = accepted_fit n m f.counts.now given (ap is_ok t.1) in
      let job = content j.0.0 j.0.1 vs ls in
      let p = fitted (length before) (encoded job ++ records_of f) s.0 t.2 in
      let w = what_judged measure price ls j.0 j.1 in
      let bs = take size after in
      let here : after ≡ bytes_after (Ok s.0) before = b ∙ ap (λ r. bytes_after r before) s.1 in
      let read : bs ≡ s.0 = front size s.0 before after (same_answer (length s.0) size s.2) here in
      let same : bs ≡ encoded job ++ records_of f = read ∙ sym p.0 in
      let lawful : LawfulContent job = record { line = line; count = w.count; levels_lawful = w.levels_lawful } in
      let end = length (encoded job) in
      let octets_here = octets_take size after octets in
      let rest : drop end bs ≡ records_of f = after_first (encoded job) (records_of f) bs end same refl in
      let chains = chains_of f.counts.now f.chains.now in
      let written : Written n m (drop end bs) chains f.total = record {
        size = line.0;
        count = w.count;
        one_each = chains_length f.counts.now f.chains.now ∙ fit.number;
        chains_fit = All-from_recursion (ChainFits n) chains (chains_fit n f.counts.now f.chains.now fit.adds_up fit.each small);
        form_fits = form;
        bytes = rest;
      } in
      record {
        job = job;
        end = end;
        read = ((accepts_heads bs octets_here).exactly job end).1 (lawful, refl, (records_of f, same));
        same_measure = w.same_measure;
        same_price = w.same_price;
        same_line = refl;
        same_levels = refl;
        same_chains = ((reads_written n m (drop end bs) (octets_drop end bs octets_here)).exactly chains f.total).1 written;
      }

  -- the counts of chains that were read
  counts_again : (bs : List ℕ) (chains : List (List ℕ)) → Written n m bs chains f.total → f.counts.now ≡ map length chains → f.chains.now ≡ concat chains → CountsFit n m f.counts.now given
  counts_again bs chains w counts numbers =
      let long = length-map chains (length {A = ℕ}) in
      record {
        number = ap length counts ∙ long ∙ w.one_each;
        adds_up = ap sum counts ∙ sum_lengths chains ∙ ap length (sym numbers);
        each = λ i h.
            let inside : i < length chains = let same = ap length counts in omega arith in
            let fit = All-get_or (ChainFits n) chains i [] inside w.chains_fit in
            let here : get_or f.counts.now i 0 ≡ length (get_or chains i []) = ap (λ xs. get_or xs i 0) counts ∙ get_or-map (length {A = ℕ}) chains i [] 0 inside in
            (omega arith, omega arith);
      }

  pub family_writes : (before after : List ℕ) (answer : Result ℕ Fault) → answer ≡ size_answered (family_pack measure price vs ls f (length before)) →
      after ≡ bytes_after (family_pack measure price vs ls f (length before)) before → (bs : List ℕ) (chains : List (List ℕ)) → Octets bs → ReadAsFamily measure price vs ls chains f.total bs →
      f.counts.now ≡ map length chains → f.chains.now ≡ concat chains → length bs ≤ length before → Writes bs before after answer
  family_writes before after answer e b bs chains octets r counts numbers room =
      let a = ((accepts_heads bs octets).exactly r.job r.end).0 r.read in
      let same : Same r.job measure price vs ls = record { same_measure = r.same_measure; same_price = r.same_price; same_line = r.same_line; same_levels = r.same_levels } in
      let k : MeasureKind × PriceKind = (r.job.measure, r.job.price) in
      let judged = judged_again r.job a.0 measure price vs ls same in
      let rest = drop r.end bs in
      let w = ((reads_written n m rest (octets_drop r.end bs octets)).exactly chains f.total).0 r.same_chains in
      let fit = counts_again rest chains w counts numbers in
      let cut : a.2.0 ≡ rest = sym (after_first (encoded r.job) a.2.0 bs r.end a.2.1 a.1) in
      let again : chains_of f.counts.now f.chains.now ≡ chains = ap₂ chains_of counts numbers ∙ chains_back chains in
      let pack : encoded (content r.job.measure r.job.price vs ls) ++ records_of f ≡ bs =
      ap₂ (λ xs ys. xs ++ ys) (encoded_again r.job a.0 measure price vs ls same) (ap (λ cs. family_records cs f.total) again ∙ sym w.bytes ∙ sym cut) ∙ sym a.2.1 in
      let enough : family_size n m given ≤ length before = let long = size_is measure price vs ls f k judged fit in let p = ap length pack in omega arith in
      writes (family_pack measure price vs ls f (length before)) bs before after answer e b
      (fits measure price vs ls f k judged (fit_accepted n m f.counts.now given fit) fit (length before) enough ∙ ap Ok pack)
