-- Writing the pack of a lawful job cannot be refused. Assumes nothing.
use Rattle.std.proofs.Common.{◌≡◌, ℕ, ◌+◌, ◌*◌, List, ◌++◌, length, take, Some, Ok, Option, Result, sym, ap, ◌∙◌, arith, append-nil}
use Rattle.std.proofs.lemmas.Bool.{cond-true, and_from, le-leb}
use Rattle.std.specs.Prelude.{IfOk}
use Rattle.std.proofs.lemmas.List.{drop_all, take_all}
use Rattle.std.proofs.lemmas.Result.{IfOk-at_ok}
use Rattle.lines.specs.Level.{judged_count, judged_levels}
use Rattle.lines.specs.declared.fault.Fault.{Fault}
use Rattle.lines.specs.declared.fault.Layer.TheVariants.{Pack}
use Rattle.lines.specs.declared.level.Level.{Level}
use Rattle.lines.specs.declared.vertex.Vertex.{Vertex}
use Rattle.lines.proofs.Levels.{complete}
use Rattle.packs.specs.Job.{LawfulContent, encoded, job_in}
use Rattle.packs.specs.Kind.{measure_number, price_number, measure_numbered, price_numbered, measure_largest}
use Rattle.packs.specs.declared.kind.MeasureKind.{MeasureKind}
use Rattle.packs.specs.declared.kind.PriceKind.{PriceKind}
use Rattle.packs.proofs.Accepting.{measure_back, price_back}
use Rattle.packs.proofs.Answered.{then_made, known_made, same_answer}
use Rattle.writer.specs.Job.{content, judged_job, job_pack, size_answered, bytes_after, ReadAsJob}
use Rattle.writer.proofs.Jobs.{pack_length, fits}

measure_same : (a b : MeasureKind) → measure_number a ≡ measure_number b → a ≡ b
measure_same a b e = let s : ◌≡◌ {A = Option MeasureKind} (Some a) (Some b) = sym (measure_back a) ∙ ap measure_numbered e ∙ measure_back b in cc

price_same : (a b : PriceKind) → price_number a ≡ price_number b → a ≡ b
price_same a b e = let s : ◌≡◌ {A = Option PriceKind} (Some a) (Some b) = sym (price_back a) ∙ ap price_numbered e ∙ price_back b in cc

module _ (me : MeasureKind) (pr : PriceKind) (vs : List Vertex) (ls : List Level) (law : LawfulContent (content me pr vs ls)) where
  judged : judged_job (measure_number me) (price_number pr) ls ≡ Ok (me, pr)
  judged =
      then_made (judged_count Pack (length ls)) _ tt (cond-true _ _ _ (and_from _ _ (le-leb 1 (length ls) law.count.0) (le-leb (length ls) 8 law.count.1))) ∙
      known_made _ _ _ me (measure_back me) ∙ known_made _ _ _ pr (price_back pr) ∙
      then_made (judged_levels (measure_largest me) Pack ls) _ tt (complete (measure_largest me) Pack 1 0 ls (λ _. omega arith) law.levels_lawful)

  abbrev room : ℕ
  room = 20 + 4 * length vs + 8 * length ls

  -- the same numbers, vertices and levels, as a caller has them
  module _ (m p : ℕ) (us : List Vertex) (ks : List Level) (n : ℕ) (em : m ≡ measure_number me) (ep : p ≡ price_number pr) (eu : us ≡ vs) (el : ks ≡ ls) (e : n ≡ room) where
    pub packs : job_pack m p us ks n ≡ Ok (encoded (content me pr vs ls))
    packs =
        ap (λ k. job_pack k p us ks n) em ∙ ap (λ k. job_pack (measure_number me) k us ks n) ep ∙ ap (λ ws. job_pack (measure_number me) (price_number pr) ws ks n) eu ∙ ap (λ xs. job_pack (measure_number me) (price_number pr) vs xs n) el ∙
        fits (measure_number me) (price_number pr) ls (me, pr) judged vs n (omega arith)

    -- and then the memory holds nothing else
    pub fills : (before after : List ℕ) → length before ≡ n → after ≡ bytes_after (job_pack m p us ks (length before)) before → after ≡ encoded (content me pr vs ls)
    fills before after f a =
        let pack = encoded (content me pr vs ls) in
        let l : length pack ≡ room = pack_length (measure_number me) (price_number pr) ls (me, pr) judged vs in
        a ∙ ap (λ k. bytes_after (job_pack m p us ks k) before) f ∙ ap (λ r. bytes_after r before) packs ∙ ap (λ rest. pack ++ rest) (drop_all (length pack) before (omega (arith, l, e, f))) ∙ append-nil pack

    -- so that reading it gives the job
    pub reads : (before after : List ℕ) (r : Result ℕ Fault) (size : ℕ) → length before ≡ n → after ≡ bytes_after (job_pack m p us ks (length before)) before →
        r ≡ size_answered (job_pack m p us ks (length before)) → r ≡ Ok size → IfOk r (λ s. ReadAsJob m p us ks (take s after)) → job_in after ≡ Ok (content me pr vs ls)
    reads before after r size f a answer ok back =
        let pack = encoded (content me pr vs ls) in
        let b = IfOk-at_ok (λ s. ReadAsJob m p us ks (take s after)) ok back in
        let k : ◌≡◌ {A = Result ℕ Fault} (Ok size) (Ok (length pack)) = sym ok ∙ answer ∙ ap (λ l. size_answered (job_pack m p us ks l)) f ∙ ap size_answered packs in
        let same_size : length after ≡ size = ap length (fills before after f a) ∙ sym (same_answer size (length pack) k) in
        let all : take size after ≡ after = take_all size after (omega arith) in
        let mm = measure_same b.job.measure me (b.same_measure ∙ em) in
        let pp = price_same b.job.price pr (b.same_price ∙ ep) in
        ap job_in (sym all) ∙ b.read ∙
        ap (λ x. Ok (content x b.job.price b.job.vertices b.job.levels)) mm ∙ ap (λ x. Ok (content me x b.job.vertices b.job.levels)) pp ∙
        ap (λ x. Ok (content me pr x b.job.levels)) (b.same_line ∙ eu) ∙ ap (λ x. Ok (content me pr vs x)) (b.same_levels ∙ el)
