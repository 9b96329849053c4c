-- Vertices and their range. Assumes nothing.
use Rattle.std.specs.Prelude.{Bool, ◌&&◌, ℤ, pos, negsuc, ◌≤ℤ◌, int_le}
use Rattle.lines.specs.declared.vertex.Vertex.{Vertex}

-- The vertex with the coordinates x and y.
abbrev pub at : ℤ → ℤ → Vertex
at x y = record { x = x; y = y }

-- The vertex (0, 0).
abbrev pub origin : Vertex
origin = at (pos 0) (pos 0)

-- Both coordinates are whole numbers from -16,384 to 16,383.
abbrev pub InRange : Vertex → Type 0
InRange v = (negsuc 16383 ≤ℤ v.x) × (v.x ≤ℤ pos 16383) × (negsuc 16383 ≤ℤ v.y) × (v.y ≤ℤ pos 16383)

-- The same as a test.
abbrev pub in_range : Vertex → Bool
in_range v = int_le (negsuc 16383) v.x && (int_le v.x (pos 16383) && (int_le (negsuc 16383) v.y && int_le v.y (pos 16383)))
