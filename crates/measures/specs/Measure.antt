-- What every measure keeps. Assumes nothing.
use Rattle.std.specs.Prelude.{◌≡◌, ℕ, ◌+◌, ◌<◌, ◌≤◌, Bool, true, cond, ◌&&◌, T, List, length, Some, None, Option, nat_le}
use Rattle.lines.specs.Line.{Lawful}
use Rattle.lines.specs.Level.{level_of}
use Rattle.lines.specs.declared.vertex.Vertex.{Vertex}
use Rattle.lines.specs.declared.level.Level.{Level}
use Rattle.families.specs.Least.{first}

-- What a measure says of a line, a link i → j and a tolerance: yes or no.
abbrev pub Answer : Type 0
Answer = List Vertex → ℕ → ℕ → ℕ → Bool

-- The rules of a measure whose largest tolerance is `largest`, on lawful lines.
pub record Rules (largest : ℕ) (says : Answer) : Type 0 where
  -- the link to the next vertex is allowed at every tolerance up to the largest
  pub next_allowed : (vs : List Vertex) (i t : ℕ) → Lawful vs → i + 1 < length vs → t ≤ largest → says vs i (i + 1) t ≡ true
  -- what is allowed stays allowed at every larger tolerance up to the largest
  pub stays_allowed : (vs : List Vertex) (i j s t : ℕ) → Lawful vs → s ≤ t → t ≤ largest → says vs i j s ≡ true → says vs i j t ≡ true
  -- only links are allowed, and only up to the largest tolerance
  pub links_only : (vs : List Vertex) (i j t : ℕ) → Lawful vs → says vs i j t ≡ true → (i < j) × (j < length vs) × (t ≤ largest)

-- The links that level k of a job allows.
abbrev pub allowed_by : Answer → List Vertex → List Level → ℕ → ℕ → ℕ → Bool
allowed_by says vs ls k i j = says vs i j (level_of ls k).tolerance

-- The first level whose tolerance passes the test, or one more than there are levels when none does.
abbrev pub first_level : (ℕ → Bool) → List Level → ℕ
first_level passes ls = first (λ k. passes (level_of ls k).tolerance) 1 (length ls)

-- The grade of the link i → j: the first level that allows it, or one more than there are levels when none does.
abbrev pub grade : Answer → List Vertex → List Level → ℕ → ℕ → ℕ
grade says vs ls i j = first (λ k. allowed_by says vs ls k i j) 1 (length ls)

-- A grade as a level: none unless it is one of m levels.
abbrev pub level_in : ℕ → ℕ → Option ℕ
level_in m g = cond (nat_le 1 g && nat_le g m) (Some g) None

-- The first level whose tolerance passes the test; none when none does.
abbrev pub first_passing : (ℕ → Bool) → List Level → Option ℕ
first_passing passes ls = level_in (length ls) (first_level passes ls)

-- The first level that allows the link i → j; none when no level does.
abbrev pub first_allowing : Answer → List Vertex → List Level → ℕ → ℕ → Option ℕ
first_allowing says vs ls i j = first_passing (says vs i j) ls

-- An answer is the first of m levels that is allowed: that level is, and none before it. None is answered exactly when no level is.
abbrev pub FirstAllowed : (ℕ → Bool) → ℕ → Option ℕ → Type 0
FirstAllowed allowed m (Some k) = (1 ≤ k) × (k ≤ m) × T (allowed k) × ((h : ℕ) → 1 ≤ h → h < k → T (allowed h) → ⊥)
FirstAllowed allowed m None = (k : ℕ) → 1 ≤ k → k ≤ m → T (allowed k) → ⊥
