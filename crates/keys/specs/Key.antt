-- The key of a job: the pack of its first least family. Assumes nothing.
use Rattle.std.specs.Prelude.{◌≡◌, ℕ, zero, suc, List, [], ◌∷◌, ◌++◌, length, Ok, Err, Result, Vec, vec_items, slice_index}
use Rattle.families.specs.Stay.{read_off}
use Rattle.packs.specs.Job.{job_in}
use Rattle.marker.specs.Records.{family_records}
use Rattle.marker.specs.Pack.{pack_marked}
use Rattle.drawings.specs.Pack.{Drawn}
use Rattle.drawings.specs.declared.drawing.Drawing.{Drawing}
use Rattle.drawings.specs.declared.drawing.DrawError.{DrawError}
use Rattle.drawings.specs.declared.drawing.DrawError.TheVariants.{Refused, OutOfMemory}

-- The chains of the levels 1 to m, level 1 first.
abbrev pub chains_to : ℕ → (ℕ → List ℕ) → List (List ℕ)
chains_to zero chain = []
chains_to (suc m) chain = chains_to m chain ++ (chain (suc m) ∷ [])

-- The chains of m levels that are read off stays.
abbrev pub chains_off : ℕ → List ℕ → List (List ℕ)
chains_off m stays = chains_to m (read_off (λ v. slice_index stays v) (length stays))

-- The records of a drawing: its chains, the finest first, and its total.
abbrev pub drawing_records : Drawing → List ℕ
drawing_records d = family_records (chains_off d.levels (vec_items d.stays)) d.form

-- The pack is the key of a job pack: the job's bytes, and then the records of its first least family and of the total; and the marker
-- finds it valid, with that total.
pub record KeyOf (bs pack : List ℕ) : Type 0 where
  pub drawing : Drawing
  pub drawn : Drawn bs drawing
  pub bytes : pack ≡ bs ++ drawing_records drawing
  pub valid : pack_marked pack ≡ Ok drawing.form

-- What is answered for the bytes of a job pack: its key, or exactly the reader's fault, or that memory ran out.
abbrev pub Keys : {A : Type 0} → List ℕ → Result (Vec ℕ A) DrawError → Type 0
Keys bs (Ok pack) = KeyOf bs (vec_items pack)
Keys bs (Err (Refused f)) = job_in bs ≡ Err f
Keys bs (Err OutOfMemory) = Unit {0}
