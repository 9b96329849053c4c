-- The parts of a picture, as text. Assumes nothing.
use Rattle.std.specs.Prelude.{ℕ, ◌+◌, ◌*◌, cond, List, [], ◌∷◌, ◌++◌, codes, decimal, ◌==◌, nat_lt}
use Rattle.std.specs.List.{flat_map}
use Rattle.lines.specs.declared.vertex.Vertex.{Vertex}
use Rattle.pictures.specs.declared.frame.Frame.{Frame}
use Rattle.pictures.specs.declared.picture.Mark.{Mark}
use Rattle.pictures.specs.declared.picture.Row.{Row}
use Rattle.pictures.specs.Frame.{x_of, y_of, row_of, units_of}

-- The colour of each level.
abbrev pub colour_text : ℕ → List ℕ
colour_text level =
    cond (level == 1) (codes "#56b4e9")
    (cond (level == 2) (codes "#e69f00")
    (cond (level == 3) (codes "#0072b2")
    (cond (level == 4) (codes "#d55e00")
    (cond (level == 5) (codes "#009e73")
    (cond (level == 6) (codes "#cc79a7")
    (cond (level == 7) (codes "#f0e442") (codes "#000000")))))))

-- The place of a vertex.
abbrev pub place_text : Frame → Vertex → List ℕ
place_text f v = codes " " ++ (decimal (x_of f v) ++ (codes "," ++ decimal (y_of f v)))

-- The place of a vertex that lies on the chain of a level.
abbrev pub point_text : Frame → ℕ → Mark → List ℕ
point_text f level m = cond (nat_lt m.stay level) [] (place_text f m.vertex)

-- The places of the vertices of the chain of a level.
abbrev pub points_text : Frame → ℕ → List Mark → List ℕ
points_text f level marks = flat_map (point_text f level) marks

-- A circle at a vertex whose stay is the level.
abbrev pub dot_text : Frame → ℕ → Mark → List ℕ
dot_text f level m =
    cond (m.stay == level)
    (codes "<circle cx='" ++ (decimal (x_of f m.vertex) ++ (codes "' cy='" ++ (decimal (y_of f m.vertex) ++ (codes "' r='" ++ (decimal (units_of f (level + 3)) ++ (codes "'/>" ++ (10 ∷ []))))))))
    []

-- The circles of the vertices whose stay is the level.
abbrev pub dots_text : Frame → ℕ → List Mark → List ℕ
dots_text f level marks = flat_map (dot_text f level) marks

-- The band of a level's tolerance around the line.
abbrev pub band_text : Frame → List Mark → Row → List ℕ
band_text f marks row =
    codes "<polyline stroke='" ++ (colour_text row.level ++ (codes "' stroke-opacity='0.2' stroke-width='" ++ (decimal (f.factor * row.tolerance * 2) ++
    (codes "' points='" ++ (points_text f 0 marks ++ (codes "'/>" ++ (10 ∷ [])))))))

-- The bands of levels.
abbrev pub bands_text : Frame → List Mark → List Row → List ℕ
bands_text f marks rows = flat_map (band_text f marks) rows

-- The chain of a level, in its colour.
abbrev pub chain_text : Frame → List Mark → Row → List ℕ
chain_text f marks row =
    codes "<polyline stroke='" ++ (colour_text row.level ++ (codes "' stroke-width='" ++ (decimal (units_of f (row.level + 2)) ++
    (codes "' points='" ++ (points_text f row.level marks ++ (codes "'/>" ++ (10 ∷ [])))))))

-- The chains of levels.
abbrev pub chains_text : Frame → List Mark → List Row → List ℕ
chains_text f marks rows = flat_map (chain_text f marks) rows

-- The circles of a level, in its colour.
abbrev pub spots_text : Frame → List Mark → Row → List ℕ
spots_text f marks row =
    codes "<g fill='" ++ (colour_text row.level ++ (codes "'>" ++ (10 ∷ []))) ++ (dots_text f row.level marks ++ (codes "</g>" ++ (10 ∷ [])))

-- The circles of levels.
abbrev pub all_spots_text : Frame → List Mark → List Row → List ℕ
all_spots_text f marks rows = flat_map (spots_text f marks) rows

-- The path of a swatch in a row of the legend, so many units thick.
abbrev pub swatch_text : Frame → ℕ → ℕ → List ℕ
swatch_text f place thick =
    codes "d='M" ++ (decimal (units_of f 48) ++ (codes "," ++ (decimal (row_of f place) ++ (codes "h" ++ (decimal (units_of f 40) ++
    (codes "' stroke-width='" ++ (decimal (units_of f thick) ++ codes "'")))))))

-- The place of the text in a row of the legend.
abbrev pub label_text : Frame → ℕ → List ℕ
label_text f place = codes "x='" ++ (decimal (units_of f 112) ++ (codes "' y='" ++ (decimal (row_of f place) ++ (codes "' dy='" ++ (decimal (units_of f 7) ++ codes "'")))))

-- What the legend says of a level: level K: tolerance T, L links, weight W.
abbrev pub caption_text : Row → List ℕ
caption_text row =
    codes "level " ++ (decimal row.level ++ (codes ": tolerance " ++ (decimal row.tolerance ++ (codes ", " ++ (decimal row.links ++ (codes " links, weight " ++ decimal row.weight))))))

-- The swatch of a level in the legend.
abbrev pub sample_text : Frame → Row → List ℕ
sample_text f row = codes "<path stroke='" ++ (colour_text row.level ++ (codes "' " ++ (swatch_text f row.place (row.level + 2) ++ (codes "/>" ++ (10 ∷ [])))))

-- The row of a level in the legend.
abbrev pub entry_text : Frame → Row → List ℕ
entry_text f row = sample_text f row ++ (codes "<text " ++ (label_text f row.place ++ (codes ">" ++ (caption_text row ++ (codes "</text>" ++ (10 ∷ []))))))

-- The rows of levels in the legend.
abbrev pub entries_text : Frame → List Row → List ℕ
entries_text f rows = flat_map (entry_text f) rows

-- An end of the line, a black square.
abbrev pub end_text : Frame → Vertex → List ℕ
end_text f v =
    codes "<rect transform='translate(" ++ (decimal (x_of f v) ++ (codes "," ++ (decimal (y_of f v) ++ codes ")' "))) ++
    (codes "x='-" ++ (decimal (units_of f 7) ++ (codes "' y='-" ++ (decimal (units_of f 7) ++ (codes "' width='" ++ (decimal (units_of f 14) ++
    (codes "' height='" ++ (decimal (units_of f 14) ++ (codes "'/>" ++ (10 ∷ []))))))))))
