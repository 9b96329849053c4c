-- The layer of a reach over a measure. Assumes nothing.
use Rattle.std.specs.Prelude.{ℕ, ◌+◌, ◌-◌, ◌&&◌, ◌||◌, ◌==◌, nat_le}
use Rattle.lines.specs.Line.{is_link}
use Rattle.measures.specs.Measure.{Answer}

-- What the layer says: of a link at a tolerance up to the largest, yes if it goes to the next vertex, or if it goes at most r
-- vertices ahead and the measure below says yes.
abbrev pub over_reach : ℕ → ℕ → Answer → Answer
over_reach r largest below vs i j t =
    is_link vs i j && (nat_le t largest && (j == i + 1 || (nat_le (j - i) r && below vs i j t)))
