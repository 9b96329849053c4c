-- Links: how long they are, and from which tolerance on they are allowed. Assumes nothing.
use Rattle.std.specs.Prelude.{ℕ, ◌+◌, ◌*◌, ◌<◌, ◌≤◌, Bool, T, cond, List, Some, None, Option, max, fold, ◌-ℤ◌, unsigned_abs, slice_index_or}
use Rattle.std.specs.List.{list_all}
use Rattle.lines.specs.Line.{is_link}
use Rattle.lines.specs.Vertex.{origin}
use Rattle.lines.specs.declared.vertex.Vertex.{Vertex}
use Rattle.measures.specs.Measure.{Answer}

-- The squared distance of two vertices.
abbrev pub squared_distance : Vertex → Vertex → ℕ
squared_distance p q = unsigned_abs (p.x -ℤ q.x) * unsigned_abs (p.x -ℤ q.x) + unsigned_abs (p.y -ℤ q.y) * unsigned_abs (p.y -ℤ q.y)

-- The squared length of the link i → j; 0 for a pair that is no link.
abbrev pub squared_length : List Vertex → ℕ → ℕ → ℕ
squared_length vs i j = cond (is_link vs i j) (squared_distance (slice_index_or vs i origin) (slice_index_or vs j origin)) 0

-- r is a length with this square, rounded down.
abbrev pub IsLength : ℕ → ℕ → Type 0
IsLength square r = (r * r ≤ square) × (square < (r + 1) * (r + 1))

-- The squared length of the longest of some links.
abbrev pub longest_square : List Vertex → List (ℕ × ℕ) → ℕ
longest_square vs ls = fold (λ square l. max square (squared_length vs l.0 l.1)) 0 ls

-- An answer is the least number that passes a test: it does, and no smaller one. None is answered exactly when no number passes.
abbrev pub LeastPassing : (ℕ → Bool) → Option ℕ → Type 0
LeastPassing test (Some t) = T (test t) × ((s : ℕ) → s < t → T (test s) → ⊥)
LeastPassing test None = (t : ℕ) → T (test t) → ⊥

-- Whether a measure allows all of some links at the tolerance t.
abbrev pub allows_all : Answer → List Vertex → List (ℕ × ℕ) → ℕ → Bool
allows_all says vs ls t = list_all (λ l. says vs l.0 l.1 t) ls
