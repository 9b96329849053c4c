-- The price table: for each level the least total between each two vertices. Assumes nothing.
use Rattle.std.specs.Prelude.{◌≡◌, ℕ, ◌+◌, ◌-◌, ◌*◌, ◌<◌, ◌≤◌, Bool, cond, ◌&&◌, T, List, length, Some, None, Option, nat_le, nat_lt, slice_index_or, slice_set}

-- Where the row of level k from vertex i begins, for n vertices.
abbrev pub row : ℕ → ℕ → ℕ → ℕ
row n k i = (k - 1) * n * n + i * n

-- There is a cell of level k from i to j: level 0 has none, and neither has a start or end that is no vertex.
abbrev pub has_cell : ℕ → ℕ → ℕ → ℕ → Bool
has_cell n k i j = nat_le 1 k && (nat_lt i n && nat_lt j n)

-- What a table of n vertices reads at level k from i to j: its cell, or `neutral` where there is none in the memory.
abbrev pub price_at : {P : Type 0} → P → List P → ℕ → ℕ → ℕ → ℕ → P
price_at neutral cells n k i j = cond (has_cell n k i j) (slice_index_or cells (row n k i + j) neutral) neutral

-- The memory once a price is put at level k from i to j: as before where there is no such cell in it.
abbrev pub price_put : {P : Type 0} → List P → ℕ → ℕ → ℕ → ℕ → P → List P
price_put cells n k i j p = cond (has_cell n k i j) (slice_set cells (row n k i + j) p) cells

-- The memory has room for the prices of n vertices at m levels, and neither is more than a job has.
abbrev pub PriceRoom : ℕ → ℕ → ℕ → Type 0
PriceRoom m n room = (n ≤ 256) × (m ≤ 8) × (m * (n * n) ≤ room)

-- A price was put at level k from i to j: there it is read back if the memory has that cell, and every other cell reads as before.
pub record ReadsBack {P : Type 0} (neutral : P) (before after : List P) (n k i j : ℕ) (p : P) : Type 0 where
  pub here : T (has_cell n k i j) → row n k i + j < length before → price_at neutral after n k i j ≡ p
  pub elsewhere : (h a b : ℕ) → ((h ≡ k) × (a ≡ i) × (b ≡ j) → ⊥) → price_at neutral after n h a b ≡ price_at neutral before n h a b

-- Where the cell of level k from i to j lies in a memory of so many cells, if it has it.
abbrev pub cell_place : ℕ → ℕ → ℕ → ℕ → ℕ → Option ℕ
cell_place n k i j room = cond (has_cell n k i j) (cond (nat_lt (row n k i + j) room) (Some (row n k i + j)) None) None
