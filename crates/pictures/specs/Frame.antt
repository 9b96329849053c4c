-- Where a line lies in its picture, and how large things are drawn. Assumes nothing.
use Rattle.std.specs.Prelude.{ℕ, ◌+◌, ◌-◌, ◌*◌, ◌/◌, ◌-ℤ◌, List, [], ◌∷◌, unsigned_abs, max, min}
use Rattle.lines.specs.Vertex.{at}
use Rattle.lines.specs.declared.vertex.Vertex.{Vertex}
use Rattle.pictures.specs.declared.bounds.Bounds.{Bounds}
use Rattle.pictures.specs.declared.frame.Frame.{Frame}
use Rattle.pictures.specs.declared.picture.Mark.{Mark}
use Rattle.pictures.specs.declared.picture.Row.{Row}
use Rattle.pictures.specs.Bounds.{at_vertex, with_vertex, around, wide, high}

-- How far to the right of the picture's left edge a vertex lies.
abbrev pub x_of : Frame → Vertex → ℕ
x_of f v = f.across + f.factor * unsigned_abs (v.x -ℤ f.corner.x)

-- How far below its top edge.
abbrev pub y_of : Frame → Vertex → ℕ
y_of f v = f.down + f.factor * unsigned_abs (v.y -ℤ f.corner.y)

-- So many units.
abbrev pub units_of : Frame → ℕ → ℕ
units_of f n = n * f.unit

-- How far below the top edge a row of the legend lies, counted from 0.
abbrev pub row_of : Frame → ℕ → ℕ
row_of f place = f.legend + units_of f (32 * place)

-- How many pixels high a picture is that is so many pixels wide.
abbrev pub tall_of : Frame → ℕ → ℕ
tall_of f pixels = pixels * f.height / max f.width 1

-- The larger side of a box, with a band on both sides, and at least 1.
abbrev pub side_of : Bounds → ℕ → ℕ
side_of b band = max (max (wide b) (high b)) 1 + 2 * band

-- The factor for a side: the smallest that makes it longer than 4,000.
abbrev pub factor_for : ℕ → ℕ
factor_for side = 4000 / min side 4001 + 1

-- The frame of a line in a box, with a band so far around the line, and a legend of so many rows. The larger side is about 800 units.
abbrev pub frame_around : Bounds → ℕ → ℕ → Frame
frame_around b band rows =
    let factor = factor_for (side_of b band) in
    let unit = factor * side_of b band / 800 in
    let inner = max (factor * wide b) (720 * unit) in
    let margin = 40 * unit + factor * band in
    let legend = margin + factor * high b + margin + 8 * unit in
    record {
      corner = at b.left b.top;
      across = margin + (inner - factor * wide b) / 2;
      down = margin;
      factor = factor;
      unit = unit;
      legend = legend;
      width = inner + 2 * margin;
      height = legend + rows * 32 * unit + 24 * unit;
    }

-- The largest of a number and the tolerances, each of which counts as 65,535 if it is larger.
abbrev pub widest : ℕ → List Row → ℕ
widest most [] = most
widest most (row ∷ rows) = widest (max most (min row.tolerance 65535)) rows

-- The frame of a line with bands, by its bounding box, and a legend of so many rows of levels, at most 8.
abbrev pub frame_of : Vertex × Vertex → List Mark → List Row → ℕ → Frame
frame_of ends marks banded rows = frame_around (around (with_vertex (at_vertex ends.0) ends.1) marks) (widest 0 banded) (min rows 8 + 2)
