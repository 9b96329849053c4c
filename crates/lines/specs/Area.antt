-- The area of a link. Assumes nothing.
use Rattle.std.specs.Prelude.{ℕ, zero, suc, ◌+◌, ◌-◌, cond, List, ℤ, pos, ◌+ℤ◌, ◌-ℤ◌, ◌*ℤ◌, slice_index_or, unsigned_abs}
use Rattle.lines.specs.declared.vertex.Vertex.{Vertex}
use Rattle.lines.specs.Vertex.{origin}
use Rattle.lines.specs.Line.{is_link}

-- The step from p to q: xp × yq − xq × yp.
abbrev pub step : Vertex → Vertex → ℤ
step p q = (p.x *ℤ q.y) -ℤ (q.x *ℤ p.y)

-- The sum over the first so many steps of the line from vertex i on.
abbrev pub walked : List Vertex → ℕ → ℕ → ℤ
walked vs i zero = pos 0
walked vs i (suc steps) = walked vs i steps +ℤ step (slice_index_or vs (i + steps) origin) (slice_index_or vs (i + steps + 1) origin)

-- The sum over the walk from i along the line to j and back to i.
abbrev pub round_trip : List Vertex → ℕ → ℕ → ℤ
round_trip vs i j = walked vs i (j - i) +ℤ step (slice_index_or vs j origin) (slice_index_or vs i origin)

-- The area of the link i → j: the absolute value of that sum; 0 for a pair that is no link.
abbrev pub link_area : List Vertex → ℕ → ℕ → ℕ
link_area vs i j = cond (is_link vs i j) (unsigned_abs (round_trip vs i j)) 0
