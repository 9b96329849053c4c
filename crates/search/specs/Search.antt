-- The search: when it refuses, what it answers, and what it leaves in its memories. Assumes nothing.
use Rattle.std.specs.Prelude.{◌≡◌, ℕ, ◌+◌, ◌-◌, ◌*◌, ◌<◌, ◌≤◌, Bool, cond, List, length, drop, Ok, Err, Result, nat_le, nat_lt, slice_index, slice_index_or}
use Rattle.families.specs.Price.{Kind, NotDearer, Same}
use Rattle.families.specs.Family.{Family, total}
use Rattle.families.specs.Least.{first, L, first_least}
use Rattle.families.specs.Stay.{stay, read_off}
use Rattle.lines.specs.Fault.{fault, then}
use Rattle.lines.specs.Level.{LawfulLevels, judged_count, judged_levels}
use Rattle.lines.specs.declared.fault.Fault.{Fault}
use Rattle.lines.specs.declared.fault.Cause.TheVariants.{Memory}
use Rattle.lines.specs.declared.fault.Layer.TheVariants.{Sheet}
use Rattle.lines.specs.declared.level.Level.{Level}

-- What judging the lent memory answers for m levels and n vertices: n × n grades, then m × n × n prices, then n stays.
abbrev pub judged_memory : ℕ → ℕ → ℕ → ℕ → ℕ → Result (Unit {0}) Fault
judged_memory m n grades prices stays =
    cond (nat_le (n * n) grades)
    (cond (nat_le (m * (n * n)) prices) (cond (nat_le n stays) (Ok tt) (Err (fault Memory Sheet 2))) (Err (fault Memory Sheet 1)))
    (Err (fault Memory Sheet 0))

-- What is judged before a search: the number of levels, the levels one by one, the memory.
abbrev pub judged_search : ℕ → List Level → ℕ → ℕ → ℕ → ℕ → Result (Unit {0}) Fault
judged_search largest ls n grades prices stays =
    then (judged_count Sheet (length ls)) (λ _.
    then (judged_levels largest Sheet ls) (λ _. judged_memory (length ls) n grades prices stays))

-- There are 1 to 8 levels, they are lawful, and the memory suffices for n vertices.
pub record Searchable (largest : ℕ) (ls : List Level) (n grades prices stays : ℕ) : Type 0 where
  pub level_count : (1 ≤ length ls) × (length ls ≤ 8)
  pub levels_lawful : LawfulLevels largest ls
  pub grade_room : n * n ≤ grades
  pub price_room : length ls * (n * n) ≤ prices
  pub stay_room : n ≤ stays

-- `price k i j` is what the link i → j costs at level k, and `allowed k i j` says whether level k allows it.
module _ {P : Type 0} (K : Kind P) (price : ℕ → ℕ → ℕ → P) (allowed : ℕ → ℕ → ℕ → Bool) (m n : ℕ) where
  -- The cells after a search of m levels and n vertices.
  pub record Cells (grades : List ℕ) (prices : List P) (stays : List ℕ) : Type 0 where
    -- grade cell i × n + j is the first level that allows the link, or m + 1, and 0 where i is not below j
    pub graded : (i j : ℕ) → i < n → j < n → slice_index grades (i * n + j) ≡ cond (nat_lt i j) (first (λ k. allowed k i j) 1 m) 0
    -- price cell (k - 1) × n × n + i × n + j is the least total of the levels 1 to k from i to j, neutral where i is not below j
    pub priced : (k i j : ℕ) → 1 ≤ k → k ≤ m → i < n → j < n →
        slice_index_or prices ((k - 1) * n * n + i * n + j) K.neutral ≡ cond (nat_lt i j) (L K price allowed k i j) K.neutral
    -- stay byte v is the largest level whose chain in the first least family has v, or 0
    pub stayed : (v : ℕ) → v < n → slice_index stays v ≡ stay (first_least K price allowed m n) m v

  -- The chains that are read off stays are a least family, the first one, and `sum` is what it costs.
  pub record Least (stays : List ℕ) (sum : P) : Type 0 where
    -- they are a family
    pub family : Family allowed m n (read_off (λ v. slice_index stays v) n)
    -- it is the first least family
    pub first_of_all : (k : ℕ) → 1 ≤ k → k ≤ m → read_off (λ v. slice_index stays v) n k ≡ first_least K price allowed m n k
    -- the sum joins the prices of all its links
    pub totals : Same K sum (total K price m (read_off (λ v. slice_index stays v) n))
    -- no family is cheaper
    pub nothing_smaller : (chain : ℕ → List ℕ) → Family allowed m n chain → NotDearer K sum (total K price m chain)

-- What lies past the cells of m levels and n vertices is as it was.
pub record RestKept {P : Type 0} (m n : ℕ) (grades grades' : List ℕ) (prices prices' : List P) (stays stays' : List ℕ) : Type 0 where
  pub grades_kept : drop (n * n) grades' ≡ drop (n * n) grades
  pub prices_kept : drop (m * (n * n)) prices' ≡ drop (m * (n * n)) prices
  pub stays_kept : drop n stays' ≡ drop n stays

-- What a search answers: the first fault, or the least total of all levels from the first vertex to the last.
abbrev pub least_answer : {P : Type 0} → Kind P → (ℕ → ℕ → ℕ → P) → (ℕ → ℕ → ℕ → Bool) → ℕ → List Level → ℕ → ℕ → ℕ → ℕ → Result P Fault
least_answer K price allowed largest ls n grades prices stays =
    then (judged_search largest ls n grades prices stays) (λ _. Ok (L K price allowed (length ls) 0 (n - 1)))
