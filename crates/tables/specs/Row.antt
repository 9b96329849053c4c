-- How the price table fills, row by row. Assumes nothing.
use Rattle.std.specs.Prelude.{◌≡◌, ℕ, suc, ◌+◌, ◌-◌, ◌*◌, ◌<◌, ◌≤◌, min, Bool, cond, ◌⊎◌, List, length, nat_le, slice_index_or}
use Rattle.families.specs.Price.{Kind}
use Rattle.families.specs.Least.{L, cheapest}
use Rattle.prices.specs.Price.{LinkPrice}
use Rattle.tables.specs.Terms.{costs, grants}
use Rattle.tables.specs.Price.{row}
use Rattle.tables.specs.declared.fill.Filling.{Filling}

-- `room`, `IsLevel`, `OnlyRow` and `KeptOutside` stand in most contracts of rows.rt at a level, a vertex and cells of its call, and no field holds these.

-- How many cells a filling writes: those of all levels.
abbrev pub room : Filling → ℕ
room f = length f.terms.levels.now * (f.n * f.n)

-- k is one of the levels of a filling, which are counted from 1.
abbrev pub IsLevel : Filling → ℕ → Type 0
IsLevel f k = (1 ≤ k) × (k ≤ length f.terms.levels.now)

-- `price k i j` is what the link i → j costs at level k, and `allowed k i j` says whether level k allows it.
module _ {P : Type 0} (K : Kind P) where
  -- The cells before `start` and those from `stop` on are as they were.
  abbrev pub KeptOutside : List P → List P → ℕ → ℕ → Type 0
  KeptOutside before after start stop = (y : ℕ) → (y < start) ⊎ (stop ≤ y) → slice_index_or after y K.neutral ≡ slice_index_or before y K.neutral

  -- The head of a candidate: the price of its first link i → v joined with what lies under the link at the next finer level.
  abbrev pub head : P → List P → ℕ → ℕ → ℕ → ℕ → P
  head price cells n k i v = K.join price (cond (nat_le k 1) K.neutral (slice_index_or cells (row n (k - 1) i + v) K.neutral))

  module _ (price : ℕ → ℕ → ℕ → P) (allowed : ℕ → ℕ → ℕ → Bool) where
    -- What it costs at least to go from i to j at level k when the first link is i → v.
    abbrev pub candidate : ℕ → ℕ → ℕ → ℕ → P
    candidate k i j v = K.join (K.join (price k i v) (L K price allowed (k - 1) i v)) (L K price allowed k v j)

    -- The row of level k from vertex i holds the least totals.
    abbrev pub RowHolds : List P → ℕ → ℕ → ℕ → Type 0
    RowHolds cells n k i = (j : ℕ) → j < n → slice_index_or cells (row n k i + j) K.neutral ≡ L K price allowed k i j

    -- The rows of level k from the vertices i, i + 1, .. hold the least totals, and so do all rows of the levels below.
    pub record RowsHold (cells : List P) (n k i : ℕ) : Type 0 where
      pub here : (v : ℕ) → i ≤ v → v < n → RowHolds cells n k v
      pub below : (h v : ℕ) → 1 ≤ h → h < k → v < n → RowHolds cells n h v

    -- The row of level k from vertex i once the candidates before v are taken in; the rows that it reads hold the least totals.
    pub record RowSoFar (cells : List P) (n k i v : ℕ) : Type 0 where
      pub further : (w : ℕ) → i < w → w < n → RowHolds cells n k w
      pub below : 1 < k → RowHolds cells n (k - 1) i
      pub best : (j : ℕ) → i < j → j < n →
          slice_index_or cells (row n k i + j) K.neutral ≡ cheapest K (allowed k i) (candidate k i j) (suc i) (min (v - 1) j - suc i)
      pub cleared : (j : ℕ) → j ≤ i → slice_index_or cells (row n k i + j) K.neutral ≡ K.neutral

    -- Every row of a table of m levels holds the least totals.
    abbrev pub TableHolds : List P → ℕ → ℕ → Type 0
    TableHolds cells n m = (k i : ℕ) → 1 ≤ k → k ≤ m → i < n → RowHolds cells n k i

-- `link vs i j w` is what the link i → j of a line costs at a weight.
module _ {P : Type 0} (K : Kind P) (link : LinkPrice P) (f : Filling) where
  -- The rows of level k from the vertices i, i + 1, .. are filled, and so are all rows of the levels below.
  abbrev pub Filled : List P → ℕ → ℕ → Type 0
  Filled cells k i = RowsHold K (costs link f.terms) (grants f.terms) cells f.n k i

  -- The row of level k from vertex i once the candidates before v are taken in.
  abbrev pub Begun : List P → ℕ → ℕ → ℕ → Type 0
  Begun cells k i v = RowSoFar K (costs link f.terms) (grants f.terms) cells f.n k i v

-- The cells outside the row of level k from vertex i are as they were.
abbrev pub OnlyRow : {P : Type 0} → Kind P → Filling → List P → List P → ℕ → ℕ → Type 0
OnlyRow K f before after k i = KeptOutside K before after (row f.n k i) (row f.n k i + f.n)
