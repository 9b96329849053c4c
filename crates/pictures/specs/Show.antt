-- Showing a family: what is drawn of it, and what is answered for bytes. Assumes nothing.
use Rattle.std.specs.Prelude.{◌≡◌, ℕ, pos, zero, suc, ◌+◌, ◌-◌, ◌≤◌, true, cond, List, [], ◌∷◌, ◌++◌, ◌⊎◌, length, map, Some, None, Option, Ok, Err, Result, String, string_bytes, Vec, vec_items, codes, slice_index_or}
use Rattle.std.specs.List.{concat}
use Rattle.lines.specs.Fault.{refused_text}
use Rattle.lines.specs.Level.{level_of}
use Rattle.lines.specs.Vertex.{at}
use Rattle.lines.specs.declared.fault.Fault.{Fault}
use Rattle.lines.specs.declared.level.Level.{Level}
use Rattle.lines.specs.declared.vertex.Vertex.{Vertex}
use Rattle.packs.specs.declared.kind.MeasureKind.TheVariants.{Segment}
use Rattle.packs.specs.Job.{job_in}
use Rattle.marker.specs.Pack.{pack_marked, ValidPack}
use Rattle.drawings.specs.declared.drawing.DrawError.{DrawError}
use Rattle.drawings.specs.declared.drawing.DrawError.TheVariants.{Refused as RefusedDraw, OutOfMemory as NoMemoryToDraw}
use Rattle.keys.specs.Key.{KeyOf}
use Rattle.texts.specs.Pack.{pack_said}
use Rattle.texts.specs.declared.error.TextError.{TextError}
use Rattle.pictures.specs.declared.options.Options.{Options}
use Rattle.pictures.specs.declared.picture.Row.{Row}
use Rattle.pictures.specs.declared.show.ShowError.{ShowError}
use Rattle.pictures.specs.declared.show.ShowError.TheVariants.{Refused, NoLevel, NoBand, OutOfMemory}
use Rattle.pictures.specs.Family.{marks_from, row_of_level}
use Rattle.pictures.specs.Frame.{frame_of}
use Rattle.pictures.specs.Picture.{picture_text}

-- One of m levels is asked for, or all of them.
abbrev pub HasLevel : Option ℕ → ℕ → Type 0
HasLevel None m = Unit {0}
HasLevel (Some k) m = (1 ≤ k) × (k ≤ m)

-- The row of level k, above which stand that of the line and `before` others; the counts are those of the chains' vertices.
abbrev pub row_shown : List Level → List ℕ → ℕ → ℕ → Row
row_shown ls counts before k = row_of_level before k (level_of ls k) (slice_index_or counts (k - 1) 0)

-- The rows of the levels 1 to m, level 1 first.
abbrev pub rows_to : ℕ → (ℕ → ℕ → Row) → List Row
rows_to zero row = []
rows_to (suc m) row = rows_to m row ++ (row m (suc m) ∷ [])

-- The rows that are drawn: of one level, or of all.
abbrev pub rows_shown : Option ℕ → List Level → List ℕ → List Row
rows_shown None ls counts = rows_to (length ls) (row_shown ls counts)
rows_shown (Some k) ls counts = row_shown ls counts 0 k ∷ []

-- The coarsest level that is drawn.
abbrev pub coarsest : Option ℕ → ℕ → ℕ
coarsest None m = m
coarsest (Some k) m = k

-- The first and the last vertex of a line.
abbrev pub ends_of : List Vertex → Vertex × Vertex
ends_of vs = (slice_index_or vs 0 (at (pos 0) (pos 0)), slice_index_or vs (length vs - 1) (at (pos 0) (pos 0)))

-- The picture of a family: of a line, levels, the chains end to end with the numbers of their vertices, and the form of the total.
unfoldable pub family_text : Options → List Vertex → List Level → List ℕ → List ℕ → ℕ × ℕ → List ℕ
family_text o vs ls numbers counts form =
    let rows = rows_shown o.level ls counts in
    let marks = marks_from 0 vs numbers (coarsest o.level (length ls)) in
    let banded = cond o.bands rows [] in
    picture_text (frame_of (ends_of vs) marks banded (length rows)) o.pixels marks banded rows (ends_of vs) (length rows + 1) form

-- The bytes are a valid family pack, and the options fit it; the text is its picture.
pub record Shown (bs : List ℕ) (o : Options) (text : List ℕ) : Type 0 where
  pub form : ℕ × ℕ
  pub valid : ValidPack bs form
  pub level : HasLevel o.level (length valid.job.levels)
  pub band : o.bands ≡ true → valid.job.measure ≡ Segment
  pub drawn : text ≡ family_text o valid.job.vertices valid.job.levels (concat valid.chains) (map length valid.chains) form

-- The bytes are a valid family pack, which has no level with the number that is asked for.
pub record LacksLevel (bs : List ℕ) (o : Options) : Type 0 where
  pub form : ℕ × ℕ
  pub valid : ValidPack bs form
  pub level : HasLevel o.level (length valid.job.levels) → ⊥

-- The bytes are a valid family pack, bands are asked for, and its measure is not segment.
pub record LacksBand (bs : List ℕ) (o : Options) : Type 0 where
  pub form : ℕ × ℕ
  pub valid : ValidPack bs form
  pub level : HasLevel o.level (length valid.job.levels)
  pub asked : o.bands ≡ true
  pub band : valid.job.measure ≡ Segment → ⊥

-- What is answered for the bytes of a family pack: its picture, or exactly the marker's fault, or that the options do not fit it, or that
-- memory ran out.
abbrev pub Shows : {A : Type 0} → List ℕ → Options → Result (String A) ShowError → Type 0
Shows bs o (Ok s) = Shown bs o (string_bytes s)
Shows bs o (Err (Refused f)) = pack_marked bs ≡ Err f
Shows bs o (Err NoLevel) = LacksLevel bs o
Shows bs o (Err NoBand) = LacksBand bs o
Shows bs o (Err OutOfMemory) = Unit {0}

-- The family pack that is drawn for bytes: the key of the job that they say as a text; or else the key of the job of which they are the pack;
-- or else the bytes themselves.
pub record KeyOfText (bs pack : List ℕ) : Type 0 where
  pub job : List ℕ
  pub said : pack_said bs ≡ Ok job
  pub key : KeyOf job pack

pub record NoText (bs : List ℕ) : Type 0 where
  pub error : TextError
  pub faulty : pack_said bs ≡ Err error

pub record NoJob (bs : List ℕ) : Type 0 where
  pub fault : Fault
  pub refused : job_in bs ≡ Err fault

abbrev pub FamilyFor : List ℕ → List ℕ → Type 0
FamilyFor bs pack = KeyOfText bs pack ⊎ ((NoText bs × KeyOf bs pack) ⊎ (NoText bs × (NoJob bs × (pack ≡ bs))))

-- What is answered: the family pack, or that memory ran out.
abbrev pub GivesFamily : {A : Type 0} → List ℕ → Result (Vec ℕ A) DrawError → Type 0
GivesFamily bs (Ok pack) = FamilyFor bs (vec_items pack)
GivesFamily bs (Err (RefusedDraw f)) = ⊥
GivesFamily bs (Err NoMemoryToDraw) = Unit {0}

-- What is told of an error.
abbrev pub error_text : ShowError → List ℕ
error_text (Refused f) = refused_text f
error_text NoLevel = codes "--level: the family has no such level"
error_text NoBand = codes "--tolerance: the measure is not segment"
error_text OutOfMemory = codes "out of memory"
