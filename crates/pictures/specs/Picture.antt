-- The text of a picture. Assumes nothing.
use Rattle.std.specs.Prelude.{ℕ, List, [], ◌∷◌, ◌++◌, length, codes, decimal}
use Rattle.lines.specs.declared.vertex.Vertex.{Vertex}
use Rattle.pictures.specs.declared.frame.Frame.{Frame}
use Rattle.pictures.specs.declared.picture.Mark.{Mark}
use Rattle.pictures.specs.declared.picture.Row.{Row}
use Rattle.pictures.specs.Frame.{units_of, tall_of}
use Rattle.pictures.specs.Shapes.{points_text, bands_text, chains_text, all_spots_text, swatch_text, label_text, entries_text, end_text}

-- The beginning of a picture so many pixels wide.
abbrev pub opening_text : Frame → ℕ → List ℕ
opening_text f pixels =
    codes "<svg xmlns='http://www.w3.org/2000/svg' width='" ++ (decimal pixels ++ (codes "' height='" ++ (decimal (tall_of f pixels) ++ codes "'")))

-- The part of the plane that a picture shows.
abbrev pub view_text : Frame → List ℕ
view_text f = codes " viewBox='0 0 " ++ (decimal f.width ++ (codes " " ++ (decimal f.height ++ (codes "'>" ++ (10 ∷ [])))))

-- The white ground.
abbrev pub ground_text : Frame → List ℕ
ground_text f = codes "<rect width='" ++ (decimal f.width ++ (codes "' height='" ++ (decimal f.height ++ (codes "' fill='#ffffff'/>" ++ (10 ∷ [])))))

-- The line itself, thin and grey.
abbrev pub original_text : Frame → List Mark → List ℕ
original_text f marks =
    codes "<polyline stroke='#777777' stroke-width='" ++ (decimal (units_of f 2) ++ (codes "' points='" ++ (points_text f 0 marks ++ (codes "'/>" ++ (10 ∷ [])))))

-- The bands, the line itself and the chains.
abbrev pub strokes_text : Frame → List Mark → List Row → List Row → List ℕ
strokes_text f marks banded rows =
    codes "<g fill='none' stroke-linecap='round' stroke-linejoin='round'>" ++ (10 ∷ []) ++
    (bands_text f marks banded ++ original_text f marks) ++
    (chains_text f marks rows ++ (codes "</g>" ++ (10 ∷ [])))

-- The size of the text.
abbrev pub font_text : Frame → List ℕ
font_text f = codes "font-family='sans-serif' font-size='" ++ (decimal (units_of f 20) ++ codes "'")

-- The row of a line of so many vertices in the legend.
abbrev pub whole_text : Frame → ℕ → List ℕ
whole_text f count =
    codes "<path stroke='#777777' " ++ (swatch_text f 0 2 ++ (codes "/>" ++ (10 ∷ []))) ++
    (codes "<text " ++ (label_text f 0 ++ (codes ">line of " ++ (decimal count ++ (codes " vertices</text>" ++ (10 ∷ []))))))

-- The row of a total in the legend: total F S.
abbrev pub total_text : Frame → ℕ → ℕ × ℕ → List ℕ
total_text f place form =
    codes "<text " ++ (label_text f place ++ (codes ">total " ++ (decimal form.0 ++ (codes " " ++ (decimal form.1 ++ (codes "</text>" ++ (10 ∷ [])))))))

-- The legend: a row for a line of so many vertices, one for each level, and one for the total.
abbrev pub legend_text : Frame → ℕ → List Row → ℕ → ℕ × ℕ → List ℕ
legend_text f count rows place form =
    codes "<g " ++ (font_text f ++ (codes ">" ++ (10 ∷ []))) ++ (whole_text f count ++ entries_text f rows) ++ (total_text f place form ++ (codes "</g>" ++ (10 ∷ [])))

-- The whole picture.
unfoldable pub picture_text : Frame → ℕ → List Mark → List Row → List Row → Vertex × Vertex → ℕ → ℕ × ℕ → List ℕ
picture_text f pixels marks banded rows ends place form =
    (opening_text f pixels ++ (view_text f ++ (ground_text f ++ strokes_text f marks banded rows))) ++
    (all_spots_text f marks rows ++ (end_text f ends.0 ++ end_text f ends.1)) ++
    (legend_text f (length marks) rows place form ++ (codes "</svg>" ++ (10 ∷ [])))
