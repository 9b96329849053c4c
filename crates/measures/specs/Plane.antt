-- Plane geometry in whole numbers. Assumes nothing.
use Rattle.std.specs.Prelude.{ℕ, zero, suc, ◌+◌, ◌-◌, Bool, true, ◌&&◌, ℤ, ◌+ℤ◌, ◌-ℤ◌, ◌*ℤ◌, nat_le, slice_index_or}
use Rattle.lines.specs.declared.vertex.Vertex.{Vertex}
use Rattle.lines.specs.Vertex.{origin}
use Rattle.lines.specs.Line.{is_link}
use Rattle.measures.specs.Measure.{Answer}

-- The scalar product of the ways p → q and p → r.
abbrev pub dot : Vertex → Vertex → Vertex → ℤ
dot p q r = ((q.x -ℤ p.x) *ℤ (r.x -ℤ p.x)) +ℤ ((q.y -ℤ p.y) *ℤ (r.y -ℤ p.y))

-- The cross product of the ways p → q and p → r.
abbrev pub cross : Vertex → Vertex → Vertex → ℤ
cross p q r = ((q.x -ℤ p.x) *ℤ (r.y -ℤ p.y)) -ℤ ((q.y -ℤ p.y) *ℤ (r.x -ℤ p.x))

-- The squared distance of p and q.
abbrev pub squared : Vertex → Vertex → ℤ
squared p q = dot p q q

-- The test holds of each of the vertices from k on, so many of them.
abbrev pub every : (ℕ → Bool) → ℕ → ℕ → Bool
every test k zero = true
every test k (suc more) = every test k more && test (k + more)

-- The largest tolerance of the measures that ask about each skipped vertex by itself.
abbrev pub skipped_largest : ℕ
skipped_largest = 32768

-- A measure that asks about each skipped vertex by itself: `near p q v t` says whether v lies near the link p → q.
abbrev pub each_skipped : ℕ → (Vertex → Vertex → Vertex → ℕ → Bool) → Answer
each_skipped largest near vs i j t =
    is_link vs i j && (nat_le t largest && every (λ k. near (slice_index_or vs i origin) (slice_index_or vs j origin) (slice_index_or vs k origin) t) (i + 1) (j - (i + 1)))

-- A test of one skipped vertex: `near p q v t` says whether v lies near the link p → q at the tolerance t.
abbrev pub Near : Type 0
Near = Vertex → Vertex → Vertex → ℕ → Bool

-- Every vertex that i → j skips lies near it.
abbrev pub all_near : Near → Answer
all_near near vs i j t = every (λ k. near (slice_index_or vs i origin) (slice_index_or vs j origin) (slice_index_or vs k origin) t) (i + 1) (j - (i + 1))
