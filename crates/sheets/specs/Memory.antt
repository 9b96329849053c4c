-- The memories that a draw is lent, and what it leaves in them. Assumes nothing.
use Rattle.std.specs.Prelude.{◌≡◌, ℕ, ◌+◌, ◌-◌, ◌*◌, ◌/◌, ◌%◌, cond, List, ◌++◌, drop, map, Err, Result, ◌==◌, nat_lt}
use Rattle.std.specs.List.{range_with_len}
use Rattle.families.specs.Price.{Kind}
use Rattle.families.specs.Least.{L, first, first_least}
use Rattle.families.specs.Stay.{stay}
use Rattle.lines.specs.Fault.{fault}
use Rattle.lines.specs.declared.fault.Fault.{Fault}
use Rattle.lines.specs.declared.fault.Cause.TheVariants.{OtherCount}
use Rattle.lines.specs.declared.fault.Layer.TheVariants.{Sheet}
use Rattle.lines.specs.declared.vertex.Vertex.{Vertex}
use Rattle.prices.specs.Price.{LinkPrice, price_by}
use Rattle.search.specs.Search.{judged_memory, judged_search, Searchable}
use Rattle.sheets.specs.Settings.{Settings}
use Rattle.sheets.specs.Promise.{level_count, unpinned}

-- The lent memories.
pub record Memory (P : Type 0) : Type 0 where
  pub grades : List ℕ
  pub prices : List P
  pub stays : List ℕ

-- The memory of these grades, prices and stays.
abbrev pub memory_of : {P : Type 0} → List ℕ → List P → List ℕ → Memory P
memory_of grades prices stays = record { grades = grades; prices = prices; stays = stays }

-- The first so many cells are written, each by its number, and the rest is as before.
abbrev pub written : {X : Type 0} → ℕ → (ℕ → X) → List X → List X
written count cell before = map cell (range_with_len 0 count) ++ drop count before

-- What is judged before a draw: the number of vertices of the line, then the memory.
abbrev pub draw_answer : Settings → ℕ → ℕ → ℕ → ℕ → Result (Unit {0}) Fault
draw_answer s count grades prices stays =
    cond (count == s.n) (judged_memory (level_count s) s.n grades prices stays) (Err (fault OtherCount Sheet count))

-- The same under any settings, where the levels are judged before the memory. By lawful settings they have no fault.
abbrev pub draw_judged : Settings → ℕ → ℕ → ℕ → ℕ → Result (Unit {0}) Fault
draw_judged s count grades prices stays =
    cond (count == s.n) (judged_search s.largest s.levels s.n grades prices stays) (Err (fault OtherCount Sheet count))

-- A draw is not refused: the line has as many vertices as it should, the levels are lawful, and the memory suffices.
pub record Drawable (s : Settings) (count grades prices stays : ℕ) : Type 0 where
  pub same_count : count ≡ s.n
  pub searchable : Searchable s.largest s.levels count grades prices stays

module _ {P : Type 0} (K : Kind P) (link : LinkPrice P) (s : Settings) (vs : List Vertex) where
  -- The least total of the levels 1 to k between i and j, under what is allowed and skips no pin.
  abbrev pub least : ℕ → ℕ → ℕ → P
  least k i j = L K (price_by link vs s.levels) (unpinned s vs) k i j

  -- Grade cell i × n + j holds, for i below j, the first level that allows the link and skips no pin, or one more than there are levels; any other 0.
  abbrev pub grade_cell : ℕ → ℕ
  grade_cell y =
      let i = y / s.n in
      let j = y % s.n in
      cond (nat_lt i j) (first (λ k. unpinned s vs k i j) 1 (level_count s)) 0

  -- Price cell (k - 1) × n × n + i × n + j holds the least total of the levels 1 to k from i to j, neutral where i is not below j.
  abbrev pub price_cell : ℕ → P
  price_cell y =
      let i = (y / s.n) % s.n in
      let j = y % s.n in
      cond (nat_lt i j) (least (y / s.n / s.n + 1) i j) K.neutral

  -- Stay byte v holds the largest level whose chain in the first least family has v, or 0.
  abbrev pub stay_cell : ℕ → ℕ
  stay_cell v = stay (first_least K (price_by link vs s.levels) (unpinned s vs) (level_count s) s.n) (level_count s) v

  -- The memories after a draw.
  abbrev pub drawn_over : Memory P → Memory P
  drawn_over before = record {
    grades = written (s.n * s.n) grade_cell before.grades;
    prices = written (level_count s * (s.n * s.n)) price_cell before.prices;
    stays = written s.n stay_cell before.stays;
  }

  -- The total that a draw answers.
  abbrev pub least_total : P
  least_total = least (level_count s) 0 (s.n - 1)
