-- The strip measure: every skipped vertex lies within the tolerance of the straight line through the ends. Assumes nothing.
use Rattle.std.specs.Prelude.{ℕ, ◌*◌, Bool, cond, pos, ◌*ℤ◌, ◌==◌, int_le, unsigned_abs}
use Rattle.lines.specs.declared.vertex.Vertex.{Vertex}
use Rattle.measures.specs.Measure.{Answer}
use Rattle.measures.specs.Plane.{cross, squared, each_skipped}

-- v lies within t of the straight line through p and q, or of p where q lies at p.
abbrev pub near_line : Vertex → Vertex → Vertex → ℕ → Bool
near_line p q v t =
    cond (unsigned_abs (squared p q) == 0) (int_le (squared p v) (pos (t * t)))
    (int_le (cross p q v *ℤ cross p q v) (pos (t * t) *ℤ squared p q))

-- The largest tolerance of the strip measure.
abbrev pub strip_largest : ℕ
strip_largest = 32768

abbrev pub strip : Answer
strip = each_skipped strip_largest near_line
