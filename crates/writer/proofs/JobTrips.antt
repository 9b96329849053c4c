-- Which jobs are written, and that what was written is read and what was read is written. Assumes nothing.
use Rattle.std.proofs.Common.{◌≡◌, ℕ, ◌≤◌, Decides, IfOk, List, length, take, drop, is_ok, Ok, Err, Result, sym, refl, ap, ap₂, subst, ◌∙◌, arith}
use Rattle.std.proofs.lemmas.List.{take_at}
use Rattle.std.proofs.lemmas.Bool.{leb-true}
use Rattle.lines.specs.Line.{Lawful}
use Rattle.lines.specs.Level.{LawfulLevels}
use Rattle.lines.specs.declared.fault.Fault.{Fault}
use Rattle.lines.specs.declared.fault.Layer.TheVariants.{Pack}
use Rattle.lines.specs.declared.level.Level.{Level}
use Rattle.lines.specs.declared.vertex.Vertex.{Vertex}
use Rattle.lines.proofs.Levels.{complete}
use Rattle.packs.specs.Bytes.{Octets}
use Rattle.packs.specs.Kind.{measure_number, price_number, measure_numbered, price_numbered, measure_largest}
use Rattle.packs.specs.Job.{Content, LawfulContent, encoded}
use Rattle.packs.specs.declared.kind.MeasureKind.{MeasureKind}
use Rattle.packs.specs.declared.kind.PriceKind.{PriceKind}
use Rattle.packs.proofs.Accepting.{measure_back, price_back, accepts_jobs}
use Rattle.packs.proofs.Answered.{then_ok, then_made, known_made, cond_ok, same_answer}
use Rattle.packs.proofs.LittleEndian.{octets_take}
use Rattle.marker.proofs.Limits.{count_means}
use Rattle.writer.specs.Job.{content, judged_job, fitting, job_pack, size_answered, bytes_after, job_size, WritableJob, ReadAsJob, Writes}
use Rattle.writer.proofs.Jobs.{what_judged, pack_length, fits}

-- a job that was judged can be written where there is room
pub writable : (measure price : ℕ) (ls : List Level) (k : MeasureKind × PriceKind) (size room : ℕ) → judged_job measure price ls ≡ Ok k → size ≤ room → WritableJob measure price ls size room
writable measure price ls k size room judged fit =
    let j = what_judged measure price ls k judged in
    record { count = j.count; measure_kind = k.0; price_kind = k.1; same_measure = j.same_measure; same_price = j.same_price; levels_lawful = j.levels_lawful; room_for = fit }

-- and one that can be written is judged without a fault
pub judged_back : (measure price : ℕ) (ls : List Level) (size room : ℕ) (w : WritableJob measure price ls size room) → judged_job measure price ls ≡ Ok (w.measure_kind, w.price_kind)
judged_back measure price ls size room w =
    then_made _ _ tt ((count_means Pack (length ls)).1 w.count) ∙
    known_made _ _ _ w.measure_kind (ap measure_numbered (sym w.same_measure) ∙ measure_back w.measure_kind) ∙
    known_made _ _ _ w.price_kind (ap price_numbered (sym w.same_price) ∙ price_back w.price_kind) ∙
    then_made _ _ tt (complete (measure_largest w.measure_kind) Pack 1 0 ls (λ _. omega arith) w.levels_lawful)

-- a pack that fits
pub fitted : (room : ℕ) (pack written : List ℕ) → fitting room pack ≡ Ok written → (pack ≡ written) × (length pack ≤ room)
fitted room pack written h = let p = cond_ok _ _ _ written h in (same_answer pack written p.1, leb-true (length pack) room p.0)

-- the bytes that an answer counts
pub front : (size : ℕ) (pack before after : List ℕ) → length pack ≡ size → after ≡ bytes_after (Ok pack) before → take size after ≡ pack
front size pack before after long e = ap (take size) e ∙ take_at pack (drop (length pack) before) size long

-- a pack that is written whole
pub writes : (pack : Result (List ℕ) Fault) (bs before after : List ℕ) (answer : Result ℕ Fault) → answer ≡ size_answered pack → after ≡ bytes_after pack before → pack ≡ Ok bs → Writes bs before after answer
writes pack bs before after answer e b p = record { answered = e ∙ ap size_answered p; bytes = b ∙ ap (λ r. bytes_after r before) p }

module _ (measure price : ℕ) (vs : List Vertex) (ls : List Level) where
  pub job_accepts : (room : ℕ) (answer : Result ℕ Fault) → answer ≡ size_answered (job_pack measure price vs ls room) →
      Decides (is_ok answer) (WritableJob measure price ls (job_size (length vs) (length ls)) room)
  job_accepts room (Ok size) e =
      let s = then_ok _ _ size (sym e) in
      let j = then_ok _ _ s.0 s.1 in
      let f = fitted room (encoded (content j.0.0 j.0.1 vs ls)) s.0 j.2 in
      let enough = subst (λ n. n ≤ room) (pack_length measure price ls j.0 j.1 vs) f.1 in
      (λ _. writable measure price ls j.0 (job_size (length vs) (length ls)) room j.1 enough, λ _. refl)
  job_accepts room (Err f) e = (
    λ h. cc,
    λ w. let made = fits measure price ls (w.measure_kind, w.price_kind) (judged_back measure price ls _ room w) vs room w.room_for in let p = e ∙ ap size_answered made in cc,
  )

  pub job_reads_back : Lawful vs → (before after : List ℕ) (answer : Result ℕ Fault) → Octets after → answer ≡ size_answered (job_pack measure price vs ls (length before)) →
      after ≡ bytes_after (job_pack measure price vs ls (length before)) before → IfOk answer (λ size. ReadAsJob measure price vs ls (take size after))
  job_reads_back line before after (Err f) octets e b = tt
  job_reads_back line before after (Ok size) octets e b =
      let s = then_ok _ _ size (sym e) in
      let j = then_ok _ _ s.0 s.1 in
      let f = fitted (length before) (encoded (content j.0.0 j.0.1 vs ls)) s.0 j.2 in
      let w = what_judged measure price ls j.0 j.1 in
      let job = content j.0.0 j.0.1 vs ls in
      let same : take size after ≡ encoded job = front size s.0 before after (same_answer _ size s.2) (b ∙ ap (λ r. bytes_after r before) s.1) ∙ sym f.0 in
      let lawful : LawfulContent job = record { line = line; count = w.count; levels_lawful = w.levels_lawful } in
      record {
        job = job;
        read = ((accepts_jobs (take size after) (octets_take size after octets)).exactly job).1 (lawful, same);
        same_measure = w.same_measure;
        same_price = w.same_price;
        same_line = refl;
        same_levels = refl;
      }

-- the arguments are those of a lawful job
pub record Same (j : Content) (measure price : ℕ) (vs : List Vertex) (ls : List Level) : Type 0 where
  pub same_measure : measure_number j.measure ≡ measure
  pub same_price : price_number j.price ≡ price
  pub same_line : j.vertices ≡ vs
  pub same_levels : j.levels ≡ ls

module _ (j : Content) (law : LawfulContent j) (measure price : ℕ) (vs : List Vertex) (ls : List Level) (same : Same j measure price vs ls) where
  pub writable_again : (size room : ℕ) → size ≤ room → WritableJob measure price ls size room
  writable_again size room fit = record {
    count = subst (λ xs. (1 ≤ length xs) × (length xs ≤ 8)) same.same_levels law.count;
    measure_kind = j.measure;
    price_kind = j.price;
    same_measure = same.same_measure;
    same_price = same.same_price;
    levels_lawful = subst (λ xs. LawfulLevels (measure_largest j.measure) xs) same.same_levels law.levels_lawful;
    room_for = fit;
  }

  pub encoded_again : encoded (content j.measure j.price vs ls) ≡ encoded j
  encoded_again = sym (ap₂ (λ xs ys. encoded (content j.measure j.price xs ys)) same.same_line same.same_levels)

  pub judged_again : judged_job measure price ls ≡ Ok (j.measure, j.price)
  unfolding writable_again
  judged_again = judged_back measure price ls 0 0 (writable_again 0 0 (omega arith))

pub job_writes : (measure price : ℕ) (vs : List Vertex) (ls : List Level) (before after : List ℕ) (answer : Result ℕ Fault) → answer ≡ size_answered (job_pack measure price vs ls (length before)) →
    after ≡ bytes_after (job_pack measure price vs ls (length before)) before → (bs : List ℕ) → Octets bs → ReadAsJob measure price vs ls bs → length bs ≤ length before → Writes bs before after answer
job_writes measure price vs ls before after answer e b bs octets r room =
    let a = ((accepts_jobs bs octets).exactly r.job).0 r.read in
    let same : Same r.job measure price vs ls = record { same_measure = r.same_measure; same_price = r.same_price; same_line = r.same_line; same_levels = r.same_levels } in
    let judged = judged_again r.job a.0 measure price vs ls same in
    let pack : encoded (content r.job.measure r.job.price vs ls) ≡ bs = encoded_again r.job a.0 measure price vs ls same ∙ sym a.1 in
    let long = pack_length measure price ls (r.job.measure, r.job.price) judged vs in
    let enough : job_size (length vs) (length ls) ≤ length before = let p = ap length pack in omega arith in
    writes (job_pack measure price vs ls (length before)) bs before after answer e b (fits measure price ls (r.job.measure, r.job.price) judged vs (length before) enough ∙ ap Ok pack)
