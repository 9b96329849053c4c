-- What is packed as a text says gives back the job that the text was written for. Assumes nothing.
use Rattle.std.proofs.Common.{◌≡◌, ℕ, List, Ok, Err, Result, Vec, vec_items, sym, ap, ◌∙◌, arith}
use Rattle.std.specs.Prelude.{MatchResult}
use Rattle.packs.specs.Job.{Content, encoded}
use Rattle.texts.specs.Error.{onward, Blamed}
use Rattle.texts.specs.Draft.{job_said}
use Rattle.texts.specs.Pack.{pack_said, PackedAs, GivesJobBack}
use Rattle.texts.specs.Text.{job_text, short_text}
use Rattle.texts.specs.declared.error.TextError.{TextError}
use Rattle.texts.specs.declared.error.TextError.TheVariants.{Line, OutOfMemory}
use Rattle.texts.proofs.JobBack.{text_back, short_back}
use Rattle.texts.proofs.Steps.{same}

packed_as : {A : Type 0} (text : List ℕ) (j : Content) (r : Result (Vec ℕ A) TextError) → job_said text ≡ Ok j → MatchResult r (λ pack. pack_said text ≡ Ok (vec_items pack)) (Blamed (pack_said text)) → PackedAs j r
packed_as text j (Ok pack) e h = same (vec_items pack) (encoded j) (sym h ∙ ap (λ s. onward s (λ i. Ok (encoded i))) e)
packed_as text j (Err (Line n x)) e h =
    let f : ◌≡◌ {A = Result (List ℕ) TextError} (Err (Line n x)) (Ok (encoded j)) = sym h ∙ ap (λ s. onward s (λ i. Ok (encoded i))) e in
    let z : ◌≡◌ {A = ℕ} 0 1 = cc in absurd (omega arith)
packed_as text j (Err OutOfMemory) e h = tt

pub gives_job_back : {A : Type 0} (text : List ℕ) (r : Result (Vec ℕ A) TextError) → MatchResult r (λ pack. pack_said text ≡ Ok (vec_items pack)) (Blamed (pack_said text)) →
    GivesJobBack job_text text r
gives_job_back text r h j law e = packed_as text j r (ap job_said e ∙ text_back j law) h

pub gives_short_job_back : {A : Type 0} (text : List ℕ) (r : Result (Vec ℕ A) TextError) → MatchResult r (λ pack. pack_said text ≡ Ok (vec_items pack)) (Blamed (pack_said text)) →
    GivesJobBack short_text text r
gives_short_job_back text r h j law e = packed_as text j r (ap job_said e ∙ short_back j law) h
