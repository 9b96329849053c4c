-- How far the skipped vertices lie apart from a link. Assumes nothing.
use Rattle.std.specs.Prelude.{◌≡◌, ℕ, ◌*◌, ◌≤◌, Bool, true, false, ◌&&◌, List, Some, None, Option, nat_le, slice_index_or, unsigned_abs}
use Rattle.lines.specs.declared.vertex.Vertex.{Vertex}
use Rattle.lines.specs.Vertex.{origin}
use Rattle.measures.specs.declared.apart.Apart.{Apart}
use Rattle.measures.specs.Plane.{squared, Near, all_near}

-- What lies `a` apart from the link p → q lies within t of it.
abbrev pub apart_within : Apart → Vertex → Vertex → ℕ → Bool
apart_within a p q t = nat_le a.far (t * t) && nat_le a.off (t * t * unsigned_abs (squared p q))

-- What a pass over the skipped vertices finds: nothing where one is not near at t, else numbers that tell at every tolerance whether all are near.
abbrev pub Found : Near → List Vertex → ℕ → ℕ → ℕ → Option Apart → Type 0
Found near vs i j t None = (s : ℕ) → s ≤ t → all_near near vs i j s ≡ false
Found near vs i j t (Some a) =
    (all_near near vs i j t ≡ true) × ((s : ℕ) → all_near near vs i j s ≡ apart_within a (slice_index_or vs i origin) (slice_index_or vs j origin) s)
