-- The price that counts links by their weights. Assumes nothing.
use Rattle.std.specs.Prelude.{ℕ, ◌+◌, min, cond, nat_le}
use Rattle.families.specs.Price.{Kind}
use Rattle.lines.specs.Line.{is_link}
use Rattle.prices.specs.declared.count.Count.{Count}
use Rattle.prices.specs.Price.{LinkPrice}

-- The ceiling of a count, at which joining stops.
abbrev pub count_ceiling : ℕ
count_ceiling = 4294967295

abbrev pub counted : ℕ → Count
counted n = record { count = n }

-- Joining adds and stops at the ceiling; the form is (count, 0).
abbrev pub count_kind : Kind Count
count_kind = record {
  neutral = counted 0;
  join = λ a b. counted (min (a.count + b.count) count_ceiling);
  not_dearer = λ a b. nat_le (min a.count count_ceiling) (min b.count count_ceiling);
  form = λ a. (min a.count count_ceiling, 0);
}

-- A link costs its weight.
abbrev pub count_link : LinkPrice Count
count_link vs i j w = cond (is_link vs i j) (counted w) (counted 0)
