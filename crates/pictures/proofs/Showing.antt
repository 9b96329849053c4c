-- What is drawn of a family. Assumes nothing.
use Rattle.std.proofs.Common.{◌≡◌, ℕ, zero, suc, ◌+◌, ◌≤◌, cond, List, [], ◌∷◌, length, min, Some, None, Option, refl, ap, ◌∙◌, arith}
use Rattle.std.proofs.lemmas.List.{length-append}
use Rattle.lines.specs.declared.level.Level.{Level}
use Rattle.lines.specs.declared.vertex.Vertex.{Vertex}
use Rattle.pictures.specs.declared.frame.Frame.{Frame}
use Rattle.pictures.specs.declared.options.Options.{Options}
use Rattle.pictures.specs.declared.picture.Mark.{Mark}
use Rattle.pictures.specs.declared.picture.Row.{Row}
use Rattle.pictures.specs.Family.{marks_from}
use Rattle.pictures.specs.Frame.{frame_of}
use Rattle.pictures.specs.Picture.{picture_text}
use Rattle.pictures.specs.Show.{row_shown, rows_to, rows_shown, coarsest, ends_of, family_text}

-- there is a row for each level
length_to : (m : ℕ) (row : ℕ → ℕ → Row) → length (rows_to m row) ≡ m
length_to zero row = refl
length_to (suc m) row = length-append (rows_to m row) (row m (suc m) ∷ []) ∙ omega (arith, length_to m row)

few_rows : (level : Option ℕ) (ls : List Level) (counts : List ℕ) → length ls ≤ 8 → length (rows_shown level ls counts) ≤ 8
few_rows None ls counts h = omega (arith, length_to (length ls) (row_shown ls counts))
few_rows (Some k) ls counts h = omega arith

-- what is drawn of equal parts is equal
same : {X : Type 0} (F : Vertex × Vertex → List Mark → List Row → List Row → ℕ → X) (ends ends' : Vertex × Vertex) (marks marks' : List Mark) (banded banded' rows rows' : List Row) (many many' : ℕ) →
    ends ≡ ends' → marks ≡ marks' → banded ≡ banded' → rows ≡ rows' → many ≡ many' → F ends marks banded rows many ≡ F ends' marks' banded' rows' many'
same F ends ends' marks marks' banded banded' rows rows' many many' e m b r n = rw (e, m, b, r, n) refl

-- the picture of these marks and rows is that of the family
pub drawn : (o : Options) (vs : List Vertex) (ls : List Level) (numbers counts : List ℕ) (form : ℕ × ℕ) (rows banded : List Row) (around marks : List Mark) (top many : ℕ) (frame : Frame) →
    length ls ≤ 8 → rows ≡ rows_shown o.level ls counts → top ≡ coarsest o.level (length ls) → marks ≡ marks_from 0 vs numbers top → banded ≡ cond o.bands rows [] →
    many ≡ min (length rows) 8 → around ≡ marks → frame ≡ frame_of (ends_of vs) around banded many →
    picture_text frame o.pixels marks banded rows (ends_of vs) (many + 1) form ≡ family_text o vs ls numbers counts form
unfolding family_text
drawn o vs ls numbers counts form rows banded around marks top many frame few r t m b n a f =
    ap (λ g. picture_text g o.pixels marks banded rows (ends_of vs) (many + 1) form) (f ∙ ap (λ ms. frame_of (ends_of vs) ms banded many) a) ∙
    same (λ ends marks banded rows many. picture_text (frame_of ends marks banded many) o.pixels marks banded rows ends (many + 1) form) (ends_of vs) _ _ _ _ _ _ _ _ (length (rows_shown o.level ls counts))
    refl (m ∙ ap (marks_from 0 vs numbers) t) (b ∙ ap (λ xs. cond o.bands xs []) r) r (omega (arith, n, ap length r, few_rows o.level ls counts few))
