-- Packing a text: what is answered for it. Assumes nothing.
use Rattle.std.specs.Prelude.{◌≡◌, ℕ, ◌+◌, ◌-◌, ◌≤◌, List, length, take, Ok, Err, Result, Vec, vec_items}
use Rattle.packs.specs.Job.{Content, LawfulContent, encoded, job_in}
use Rattle.words.specs.Lines.{lines_of}
use Rattle.texts.specs.Error.{onward}
use Rattle.texts.specs.Draft.{Said, nothing, all_said, job_said}
use Rattle.writer.specs.Job.{content}
use Rattle.texts.specs.declared.pack.SaidJob.{SaidJob}
use Rattle.texts.specs.declared.error.TextError.{TextError}
use Rattle.texts.specs.declared.error.TextError.TheVariants.{Line, OutOfMemory}

-- What the job that was read off a text says.
abbrev pub said_content : SaidJob → Content
said_content job = content job.measure job.price (vec_items job.vertices) (vec_items job.levels)

-- The pack of the job that a text says, or the first line that is at fault.
abbrev pub pack_said : List ℕ → Result (List ℕ) TextError
pack_said text = onward (job_said text) (λ j. Ok (encoded j))

-- The text says a lawful job, and reading the pack gives that job.
pub record SaysLawfully (text pack : List ℕ) : Type 0 where
  pub job : Content
  pub said : job_said text ≡ Ok job
  pub lawful : LawfulContent job
  pub read : job_in pack ≡ Ok job

-- Line n is one of the text, or the line after its last; and the lines before it can be read without a fault.
pub record NoFaultBefore (text : List ℕ) (n : ℕ) : Type 0 where
  pub within : (1 ≤ n) × (n ≤ length (lines_of text) + 1)
  pub said : Said
  pub before : all_said 1 (take (n - 1) (lines_of text)) nothing ≡ Ok said

-- The line that an error names is the first at fault.
abbrev pub NamesFirst : List ℕ → TextError → Type 0
NamesFirst text (Line n e) = NoFaultBefore text n
NamesFirst text OutOfMemory = Unit {0}

-- The pack is that of a job, unless memory runs out.
abbrev pub PackedAs : {A : Type 0} → Content → Result (Vec ℕ A) TextError → Type 0
PackedAs j (Ok pack) = vec_items pack ≡ encoded j
PackedAs j (Err (Line n e)) = ⊥
PackedAs j (Err OutOfMemory) = Unit {0}

-- The text of a lawful job, in a form, is packed as that job.
abbrev pub GivesJobBack : {A : Type 0} → (Content → List ℕ) → List ℕ → Result (Vec ℕ A) TextError → Type 0
GivesJobBack form text result = (j : Content) → LawfulContent j → text ≡ form j → PackedAs j result
