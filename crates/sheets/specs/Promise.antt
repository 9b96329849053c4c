-- The promise of a draw, by the settings of its moment. Assumes nothing.
use Rattle.std.specs.Prelude.{◌≡◌, ℕ, ◌≤◌, Bool, List, length, slice_index}
use Rattle.families.specs.Price.{Kind, NotDearer, Same}
use Rattle.families.specs.Chain.{Has}
use Rattle.families.specs.Family.{Family, total}
use Rattle.families.specs.Pin.{pinned, HasPins}
use Rattle.families.specs.Least.{first_least}
use Rattle.families.specs.Stay.{read_off}
use Rattle.lines.specs.Level.{level_of}
use Rattle.lines.specs.declared.vertex.Vertex.{Vertex}
use Rattle.measures.specs.Measure.{allowed_by}
use Rattle.prices.specs.Price.{LinkPrice, price_by}
use Rattle.sheets.specs.Settings.{Settings}

-- The number of levels.
abbrev pub level_count : Settings → ℕ
level_count s = length s.levels

-- The links of a line that the measure itself allows at level k.
abbrev pub allowed : Settings → List Vertex → ℕ → ℕ → ℕ → Bool
allowed s vs = allowed_by s.says vs s.levels

-- Those of them that skip no pin.
abbrev pub unpinned : Settings → List Vertex → ℕ → ℕ → ℕ → Bool
unpinned s vs = pinned s.pins (allowed s vs)

-- A family is eligible for a draw when it is a family of the line by the measure and the levels, and each chain has every pin.
pub record Eligible (s : Settings) (vs : List Vertex) (chain : ℕ → List ℕ) : Type 0 where
  pub family : Family (allowed s vs) (level_count s) (length vs) chain
  pub has_pins : (k : ℕ) → 1 ≤ k → k ≤ level_count s → HasPins s.pins (chain k)

-- The chains that stays tell of a line.
abbrev pub chains : List Vertex → List ℕ → ℕ → List ℕ
chains vs stays = read_off (λ v. slice_index stays v) (length vs)

module _ {P : Type 0} (K : Kind P) (link : LinkPrice P) (s : Settings) (vs : List Vertex) where
  -- The prices of all links at all levels of a family, joined.
  abbrev pub cost_of : (ℕ → List ℕ) → P
  cost_of chain = total K (price_by link vs s.levels) (level_count s) chain

  -- The family that stays tell is the one that a draw owes, and `sum` is its total.
  pub record LeastEligible (stays : List ℕ) (sum : P) : Type 0 where
    -- it is eligible
    pub eligible : Eligible s vs (chains vs stays)
    -- its total joins the prices of all its links
    pub totals : Same K sum (cost_of (chains vs stays))
    -- no eligible family is cheaper
    pub nothing_cheaper : (chain : ℕ → List ℕ) → Eligible s vs chain → NotDearer K sum (cost_of chain)
    -- it is the first least family under what is allowed and skips no pin
    pub first_of_all : (k : ℕ) → 1 ≤ k → k ≤ level_count s →
        chains vs stays k ≡ first_least K (price_by link vs s.levels) (unpinned s vs) (level_count s) (length vs) k

-- The settings t are tighter than s, or as tight: the same number of vertices, measure and weights, no pin less, and at no level a larger tolerance.
pub record Tighter (s t : Settings) : Type 0 where
  pub same_count : t.n ≡ s.n
  pub same_largest : t.largest ≡ s.largest
  pub same_measure : t.says ≡ s.says
  pub same_levels : level_count t ≡ level_count s
  pub same_weights : (k : ℕ) → 1 ≤ k → k ≤ level_count s → (level_of t.levels k).weight ≡ (level_of s.levels k).weight
  pub lower : (k : ℕ) → 1 ≤ k → k ≤ level_count s → (level_of t.levels k).tolerance ≤ (level_of s.levels k).tolerance
  pub more_pins : (p : ℕ) → Has s.pins p → Has t.pins p

-- Every draw of the line under tighter settings costs no less than `sum`.
abbrev pub TighterNoCheaper : {P : Type 0} → Kind P → LinkPrice P → Settings → List Vertex → P → Type 0
TighterNoCheaper {P} K link s vs sum =
    (t : Settings) (stays : List ℕ) (other : P) → Tighter s t → LeastEligible K link t vs stays other → NotDearer K sum other
