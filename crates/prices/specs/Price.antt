-- What a link costs. Assumes nothing.
use Rattle.std.specs.Prelude.{◌≡◌, ℕ, false, List}
use Rattle.families.specs.Price.{Kind, Same}
use Rattle.lines.specs.Line.{Lawful, is_link}
use Rattle.lines.specs.Level.{level_of}
use Rattle.lines.specs.declared.vertex.Vertex.{Vertex}
use Rattle.lines.specs.declared.level.Level.{Level}

-- What the link i → j of a line costs at a weight.
abbrev pub LinkPrice : Type 0 → Type 0
LinkPrice P = List Vertex → ℕ → ℕ → ℕ → P

-- On a lawful line a pair that is no link costs the neutral price.
abbrev pub NoLinkIsNeutral : {P : Type 0} → Kind P → LinkPrice P → Type 0
NoLinkIsNeutral K link = (vs : List Vertex) (i j w : ℕ) → Lawful vs → is_link vs i j ≡ false → Same K (link vs i j w) K.neutral

-- What the link i → j costs at level k of a job.
abbrev pub price_by : {P : Type 0} → LinkPrice P → List Vertex → List Level → ℕ → ℕ → ℕ → P
price_by link vs ls k i j = link vs i j (level_of ls k).weight
