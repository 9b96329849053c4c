-- The text of a pack says the job that was read. Assumes nothing.
use Rattle.std.proofs.Common.{◌≡◌, ℕ, ◌+◌, ◌-◌, ◌^◌, ◌<◌, ◌≤◌, Bool, true, false, cond, not, eqb, List, [], ◌∷◌, ◌++◌, length, take, drop, Ok, Err, Result, sym, refl, ap, ap₂, subst, ◌∙◌, arith, append-nil}
use Rattle.std.specs.Prelude.{codes, decimal}
use Rattle.std.specs.List.{AllByRecursion, list_all, flat_map}
use Rattle.std.proofs.lemmas.Bool.{and_parts}
use Rattle.std.proofs.lemmas.Bool.Decides.{nat_tests}
use Rattle.std.proofs.lemmas.Fmt.{digits_decimal}
use Rattle.std.proofs.lemmas.List.Elements.{recursion_from_All}
use Rattle.lines.specs.Fault.{then}
use Rattle.lines.specs.declared.fault.Fault.{Fault}
use Rattle.lines.specs.declared.level.Level.{Level}
use Rattle.lines.specs.declared.vertex.Vertex.{Vertex}
use Rattle.packs.specs.declared.job.Job.{Job}
use Rattle.packs.specs.Job.{Content, encoded, head_in, AcceptsHeads, summed_up_to}
use Rattle.packs.proofs.Answered.{then_ok, same_answer}
use Rattle.marker.specs.Reader.{family_in, ChainFits, FormFits, ReadsWritten}
use Rattle.marker.proofs.Heads.{HeadRead}
use Rattle.words.specs.Lines.{IsLine, each_with}
use Rattle.words.proofs.NumberTrips.{own}
use Rattle.words.proofs.Solid.{printed_digits, printed_line}
use Rattle.writer.specs.Job.{content}
use Rattle.drawings.specs.declared.drawing.DrawError.{DrawError}
use Rattle.drawings.specs.declared.drawing.DrawError.TheVariants.{Refused, OutOfMemory}
use Rattle.drawings.specs.Text.{vertex_text, level_text, total_text}
use Rattle.texts.specs.Text.{job_lines, job_text, comment, chain_lines, family_lines}
use Rattle.texts.specs.Error.{onward}
use Rattle.texts.specs.Draft.{job_said}
use Rattle.texts.specs.Unpack.{comments_in, comments_text, text_in, RefusedAs, SaysPacked}
use Rattle.texts.proofs.ChainsRead.{each_append}
use Rattle.texts.proofs.JobBack.{Quiet, job_back}

-- no line feed is in a comment
line_append : (a b : List ℕ) → IsLine a → IsLine b → IsLine (a ++ b)
line_append [] b p q = q
line_append (c ∷ a) b p q = (p.0, line_append a b p.1 q)

other : (c : ℕ) → not (eqb c 10) ≡ true → c ≡ 10 → ⊥
other c h = grind (arith, nat_tests)

codes_line : (word : List ℕ) → list_all (λ c. not (eqb c 10)) word ≡ true → IsLine word
codes_line [] h = tt
codes_line (c ∷ word) h = let p = and_parts (not (eqb c 10)) (list_all (λ d. not (eqb d 10)) word) h in (other c p.0, codes_line word p.1)

number_line : (n : ℕ) → n < 2 ^ 64 → IsLine (decimal n)
number_line n h = subst IsLine (append-nil (decimal n)) (printed_line (decimal n) [] (printed_digits (decimal n) (digits_decimal own n h)) tt)

vertices_line : (chain : List ℕ) → AllByRecursion (λ v. v < 2 ^ 16) chain → IsLine (flat_map vertex_text chain)
vertices_line [] h = tt
vertices_line (v ∷ chain) h = line_append (vertex_text v) (flat_map vertex_text chain) (line_append (codes " ") (decimal v) (codes_line (codes " ") refl) (number_line v (omega (arith, h.0)))) (vertices_line chain h.1)

level_line : (n k : ℕ) (chain : List ℕ) → n ≤ 256 → k < 2 ^ 64 → ChainFits n chain → IsLine (comment (level_text k chain))
level_line n k chain small few fits =
    line_append (codes "# ") (level_text k chain) (codes_line (codes "# ") refl)
    (line_append (codes "level ") _ (codes_line (codes "level ") refl)
    (line_append (decimal k) _ (number_line k few)
    (line_append (codes " links ") _ (codes_line (codes " links ") refl)
    (line_append (decimal (length chain - 1)) _ (number_line (length chain - 1) (omega (arith, fits.1, small)))
    (line_append (codes ":") _ (codes_line (codes ":") refl) (vertices_line chain (recursion_from_All (λ v. v < 2 ^ 16) chain fits.2)))))))

total_line : (form : ℕ × ℕ) → FormFits form → IsLine (comment (total_text form))
total_line form fits =
    line_append (codes "# ") (total_text form) (codes_line (codes "# ") refl)
    (line_append (codes "total ") _ (codes_line (codes "total ") refl)
    (line_append (decimal form.0) _ (number_line form.0 (omega (arith, fits.0))) (line_append (codes " ") _ (codes_line (codes " ") refl) (number_line form.1 fits.1))))

quiet : (text : List ℕ) → IsLine (comment text) → Quiet (comment text)
quiet text h = record { one_line = h; says = refl }

chains_quiet : (n k : ℕ) (chains : List (List ℕ)) → n ≤ 256 → k + length chains < 2 ^ 64 → AllByRecursion (ChainFits n) chains → AllByRecursion Quiet (chain_lines k chains)
chains_quiet n k [] small few fits = tt
chains_quiet n k (chain ∷ chains) small few fits =
    (quiet (level_text k chain) (level_line n k chain small (omega arith) fits.0), chains_quiet n (k + 1) chains small (omega arith) fits.1)

quiet_append : (xs ys : List (List ℕ)) → AllByRecursion Quiet xs → AllByRecursion Quiet ys → AllByRecursion Quiet (xs ++ ys)
quiet_append [] ys p q = q
quiet_append (x ∷ xs) ys p q = (p.0, quiet_append xs ys p.1 q)

comments_quiet : (n m : ℕ) (records : List ℕ) (lines : List (List ℕ)) → ReadsWritten n m records → comments_in n m records ≡ Ok lines → AllByRecursion Quiet lines
comments_quiet n m records lines reads h = either (eqb (length records) 0) h
  where
    some : then (family_in n m records) (λ f. Ok (family_lines f.0 f.1)) ≡ Ok lines → AllByRecursion Quiet lines
    some h =
        let p = then_ok (family_in n m records) _ lines h in
        let w = (reads.exactly p.0.0 p.0.1).0 p.1 in
        let few : 1 + length p.0.0 < 2 ^ 64 = omega (arith, w.one_each, w.count.1) in
        subst (AllByRecursion Quiet) (same_answer _ lines p.2)
        (quiet_append (chain_lines 1 p.0.0) (comment (total_text p.0.1) ∷ []) (chains_quiet n 1 p.0.0 w.size.1 few (recursion_from_All (ChainFits n) p.0.0 w.chains_fit))
        (quiet (total_text p.0.1) (total_line p.0.1 w.form_fits), tt))

    either : (b : Bool) → cond b (Ok []) (then (family_in n m records) (λ f. Ok (family_lines f.0 f.1))) ≡ Ok lines → AllByRecursion Quiet lines
    either true h = subst (AllByRecursion Quiet) (same_answer [] lines h) tt
    either false h = some h

-- what is answered for a job that was read, and the text behind it
module _ (bs : List ℕ) (job : Job) (end : ℕ) (vs : List Vertex) (ls : List Level) (r : HeadRead bs job end vs ls) where
  here : text_in bs ≡
      then (comments_in (length r.content.vertices) (length r.content.levels) (drop end bs)) (λ comments. Ok (each_with 10 (job_lines r.content ++ comments)))
  here = ap (λ h. then h (λ h. then (comments_in (length h.0.vertices) (length h.0.levels) (drop h.1 bs)) (λ comments. Ok (each_with 10 (job_lines h.0 ++ comments))))) r.is

  count : (length r.content.vertices ≡ job.vertices) × (length r.content.levels ≡ job.levels)
  count = (sym (ap (λ j. j.vertices) r.summed), sym (ap (λ j. j.levels) r.summed))

  same : content job.measure job.price (take job.vertices vs) (take job.levels ls) ≡ r.content
  same =
      ap (λ m. content m job.price (take job.vertices vs) (take job.levels ls)) (ap (λ j. j.measure) r.summed) ∙
      ap (λ p. content r.content.measure p (take job.vertices vs) (take job.levels ls)) (ap (λ j. j.price) r.summed) ∙
      ap₂ (λ v l. content r.content.measure r.content.price v l) r.vertices_read r.levels_read

  -- the comments are those of the bytes behind the job
  module _ (rest : List ℕ) (e : rest ≡ drop end bs) where
    there : comments_in job.vertices job.levels rest ≡ comments_in (length r.content.vertices) (length r.content.levels) (drop end bs)
    there = ap (comments_in job.vertices job.levels) e ∙ ap₂ (λ n m. comments_in n m (drop end bs)) (sym count.0) (sym count.1)

    refused : (f : Fault) → comments_text job.vertices job.levels rest ≡ Err f → text_in bs ≡ Err f
    refused f h = here ∙ through (comments_in (length r.content.vertices) (length r.content.levels) (drop end bs)) (ap (λ c. then c (λ ls. Ok (each_with 10 ls))) (sym there) ∙ h)
      where
        through : (c : Result (List (List ℕ)) Fault) → then c (λ ls. Ok (each_with 10 ls)) ≡ Err f → then c (λ comments. Ok (each_with 10 (job_lines r.content ++ comments))) ≡ Err f
        through (Ok ls) h = cc
        through (Err g) h = let k : g ≡ f = cc in ap Err k

    pub refused_as : (e : DrawError) → RefusedAs (comments_text job.vertices job.levels rest) e → RefusedAs (text_in bs) e
    refused_as (Refused f) h = refused f h
    refused_as OutOfMemory h = tt

    module _ (head comments text : List ℕ) (a : head ≡ job_text (content job.measure job.price (take job.vertices vs) (take job.levels ls)))
        (b : comments_text job.vertices job.levels rest ≡ Ok comments) (c : text ≡ head ++ comments) where
      abbrev lines : List (List ℕ)
      lines = (then_ok (comments_in job.vertices job.levels rest) (λ ls. Ok (each_with 10 ls)) comments b).0

      is : comments_in job.vertices job.levels rest ≡ Ok lines
      is = (then_ok (comments_in job.vertices job.levels rest) (λ ls. Ok (each_with 10 ls)) comments b).1

      written : each_with 10 (job_lines r.content ++ lines) ≡ text
      written =
          let d = same_answer (each_with 10 lines) comments (then_ok (comments_in job.vertices job.levels rest) (λ ls. Ok (each_with 10 ls)) comments b).2 in
          each_append (job_lines r.content) lines ∙ sym (c ∙ ap₂ (λ x y. x ++ y) (a ∙ ap job_text same) (sym d))

      pub unpacked : text_in bs ≡ Ok text
      unpacked = here ∙ ap (λ x. then x (λ comments. Ok (each_with 10 (job_lines r.content ++ comments)))) (sym there ∙ is) ∙ ap Ok written

      pub says_packed : AcceptsHeads bs → ReadsWritten job.vertices job.levels rest → SaysPacked bs text
      says_packed exact reads =
          let f = (exact.exactly r.content end).0 r.is in
          record {
            job = r.content;
            rest = f.2.0;
            lawful = r.lawful;
            begins = f.2.1;
            packed =
                ap (λ s. onward s (λ j. Ok (encoded j))) (subst (λ t. job_said t ≡ Ok r.content) written (job_back r.content r.lawful lines (comments_quiet job.vertices job.levels rest lines reads is)));
          }

pub head_refused : (bs : List ℕ) (f : Fault) → Err f ≡ summed_up_to (head_in bs) → text_in bs ≡ Err f
head_refused bs f e = through (head_in bs) e
  where
    through : (r : Result (Content × ℕ) Fault) → Err f ≡ summed_up_to r →
        then r (λ h. then (comments_in (length h.0.vertices) (length h.0.levels) (drop h.1 bs)) (λ comments. Ok (each_with 10 (job_lines h.0 ++ comments)))) ≡ Err f
    through (Ok h) e = cc
    through (Err g) e = let k : g ≡ f = cc in ap Err k
