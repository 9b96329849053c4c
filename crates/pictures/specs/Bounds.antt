-- The bounding box of a line. Assumes nothing.
use Rattle.std.specs.Prelude.{ℕ, List, [], ◌∷◌, ◌-ℤ◌, unsigned_abs}
use Rattle.std.specs.Int.{int_min, int_max}
use Rattle.lines.specs.declared.vertex.Vertex.{Vertex}
use Rattle.pictures.specs.declared.bounds.Bounds.{Bounds}
use Rattle.pictures.specs.declared.picture.Mark.{Mark}

-- The box that holds one vertex.
abbrev pub at_vertex : Vertex → Bounds
at_vertex v = record { left = v.x; right = v.x; bottom = v.y; top = v.y }

-- The smallest box that holds a box and a vertex.
abbrev pub with_vertex : Bounds → Vertex → Bounds
with_vertex b v = record { left = int_min b.left v.x; right = int_max b.right v.x; bottom = int_min b.bottom v.y; top = int_max b.top v.y }

-- The smallest box that holds a box and the vertices of marks.
abbrev pub around : Bounds → List Mark → Bounds
around b [] = b
around b (m ∷ ms) = around (with_vertex b m.vertex) ms

-- How far it is from left to right, and from bottom to top.
abbrev pub wide : Bounds → ℕ
wide b = unsigned_abs (b.right -ℤ b.left)

abbrev pub high : Bounds → ℕ
high b = unsigned_abs (b.top -ℤ b.bottom)
