-- Unpacking a job or a family: what is answered for the bytes. Assumes nothing.
use Rattle.std.specs.Prelude.{◌≡◌, ℕ, cond, List, [], ◌++◌, length, drop, Ok, Err, Result, ◌==◌}
use Rattle.lines.specs.Fault.{then}
use Rattle.lines.specs.declared.fault.Fault.{Fault}
use Rattle.packs.specs.Job.{Content, LawfulContent, encoded, head_in}
use Rattle.marker.specs.Reader.{family_in}
use Rattle.words.specs.Lines.{each_with}
use Rattle.drawings.specs.declared.drawing.DrawError.{DrawError}
use Rattle.drawings.specs.declared.drawing.DrawError.TheVariants.{Refused, OutOfMemory}
use Rattle.texts.specs.Text.{job_lines, family_lines}
use Rattle.texts.specs.Pack.{pack_said}

-- The comments of the chains and the total of a family, of a line of n vertices and m levels, or the first fault in the structure of their
-- records; a job has none. The chains are not judged.
abbrev pub comments_in : ℕ → ℕ → List ℕ → Result (List (List ℕ)) Fault
comments_in n m records = cond (length records == 0) (Ok []) (then (family_in n m records) (λ f. Ok (family_lines f.0 f.1)))

-- The same as text.
abbrev pub comments_text : ℕ → ℕ → List ℕ → Result (List ℕ) Fault
comments_text n m records = then (comments_in n m records) (λ comments. Ok (each_with 10 comments))

-- The text of a job pack or of a family pack: the lines of the job, then the comments of a family; or the first fault.
abbrev pub text_in : List ℕ → Result (List ℕ) Fault
text_in bs =
    then (head_in bs) (λ h. then (comments_in (length h.0.vertices) (length h.0.levels) (drop h.1 bs)) (λ comments. Ok (each_with 10 (job_lines h.0 ++ comments))))

-- What is answered is the fault that is due, or that memory ran out.
abbrev pub RefusedAs : {X : Type 0} → Result X Fault → DrawError → Type 0
RefusedAs due (Refused f) = due ≡ Err f
RefusedAs due OutOfMemory = Unit {0}

-- The bytes begin with the pack of a lawful job, and packing the text gives that pack.
pub record SaysPacked (bs text : List ℕ) : Type 0 where
  pub job : Content
  pub rest : List ℕ
  pub lawful : LawfulContent job
  pub begins : bs ≡ encoded job ++ rest
  pub packed : pack_said text ≡ Ok (encoded job)
