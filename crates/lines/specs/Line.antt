-- Lawful lines. Assumes nothing.
use Rattle.std.specs.Prelude.{◌≡◌, ℕ, ◌+◌, ◌<◌, ◌≤◌, Bool, cond, ◌&&◌, ◌⊎◌, List, [], ◌∷◌, length, pos, Ok, Err, Result, nat_le, nat_lt, slice_index_or}
use Rattle.lines.specs.declared.fault.Fault.{Fault}
use Rattle.lines.specs.declared.fault.Cause.TheVariants.{Limits, Coordinate}
use Rattle.lines.specs.declared.fault.Layer.{Layer}
use Rattle.lines.specs.declared.fault.Layer.TheVariants.{Content}
use Rattle.lines.specs.declared.vertex.Vertex.{Vertex}
use Rattle.lines.specs.Fault.{fault, then}
use Rattle.lines.specs.Vertex.{at, origin, InRange, in_range}

-- A line has 2 to 256 vertices.
abbrev pub Counted : List Vertex → Type 0
Counted vs = (2 ≤ length vs) × (length vs ≤ 256)

-- A lawful line: 2 to 256 vertices, each in range.
abbrev pub Lawful : List Vertex → Type 0
Lawful vs = Counted vs × ((i : ℕ) → i < length vs → InRange (slice_index_or vs i origin))

-- The fault of vertices that are no lawful line: first the count, then the lowest vertex out of range.
abbrev pub Blamed : List Vertex → Fault → Type 0
Blamed vs f =
    ((Counted vs → ⊥) × (f ≡ fault Limits Content 0)) ⊎
    (Counted vs × ((i : ℕ) × (i < length vs) × (InRange (slice_index_or vs i origin) → ⊥) × ((k : ℕ) → k < i → InRange (slice_index_or vs k origin)) × (f ≡ fault Coordinate Content i)))

-- The vertices vs, numbered from i: the first of them that is out of range.
abbrev pub ranged_from : ℕ → List Vertex → Result (Unit {0}) Fault
ranged_from i [] = Ok tt
ranged_from i (v ∷ vs) = cond (in_range v) (ranged_from (i + 1) vs) (Err (fault Coordinate Content i))

-- A line has 2 to 256 vertices; any other number of them is out of limits.
abbrev pub judged_size : Layer → ℕ → Result (Unit {0}) Fault
judged_size layer n = cond (nat_le 2 n && nat_le n 256) (Ok tt) (Err (fault Limits layer 0))

-- What the making of a line answers: the count is judged first, then every vertex in turn.
abbrev pub judged_line : List Vertex → Result (Unit {0}) Fault
judged_line vs = then (judged_size Content (length vs)) (λ _. ranged_from 0 vs)

-- The built-in line: (0, 0) (1, 0).
abbrev pub built_in : List Vertex
built_in = origin ∷ (at (pos 1) (pos 0) ∷ [])

-- i → j is a link of the line: i is below j, and both are vertices of it.
abbrev pub is_link : List Vertex → ℕ → ℕ → Bool
is_link vs i j = nat_lt i j && nat_lt j (length vs)
