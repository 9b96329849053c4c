-- The segment measure: every skipped vertex lies within the tolerance of the segment. Assumes nothing.
use Rattle.std.specs.Prelude.{ℕ, ◌*◌, Bool, cond, pos, ◌*ℤ◌, int_le}
use Rattle.lines.specs.declared.vertex.Vertex.{Vertex}
use Rattle.measures.specs.Measure.{Answer}
use Rattle.measures.specs.Plane.{dot, cross, squared, each_skipped}

-- v lies within t of the segment p → q: of p where v lies behind it, of q where v lies past it, else of the straight line.
abbrev pub near_segment : Vertex → Vertex → Vertex → ℕ → Bool
near_segment p q v t =
    cond (int_le (dot p q v) (pos 0)) (int_le (squared p v) (pos (t * t)))
    (cond (int_le (squared p q) (dot p q v)) (int_le (squared q v) (pos (t * t)))
    (int_le (cross p q v *ℤ cross p q v) (pos (t * t) *ℤ squared p q)))

-- The largest tolerance of the segment measure.
abbrev pub segment_largest : ℕ
segment_largest = 32768

abbrev pub segment : Answer
segment = each_skipped segment_largest near_segment
