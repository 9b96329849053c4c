-- The price that counts links and then adds up their areas. Assumes nothing.
use Rattle.std.specs.Prelude.{ℕ, ◌+◌, min, Bool, cond, ◌&&◌, ◌||◌, ◌==◌, nat_le, nat_lt}
use Rattle.families.specs.Price.{Kind}
use Rattle.lines.specs.Line.{is_link}
use Rattle.lines.specs.Area.{link_area}
use Rattle.prices.specs.declared.count_then_area.CountThenArea.{CountThenArea}
use Rattle.prices.specs.Price.{LinkPrice}
use Rattle.prices.specs.Count.{count_ceiling}

-- The ceiling of an area, at which joining stops.
abbrev pub area_ceiling : ℕ
area_ceiling = 18446744073709551615

abbrev pub measured : ℕ → ℕ → CountThenArea
measured n a = record { count = n; area = a }

-- The form: a price whose count is at its ceiling has the largest area, whatever its record holds.
abbrev pub form_of : CountThenArea → ℕ × ℕ
form_of p = (min p.count count_ceiling, cond (nat_le count_ceiling p.count) area_ceiling (min p.area area_ceiling))

-- The count is compared first, then the area.
abbrev pub not_above : ℕ × ℕ → ℕ × ℕ → Bool
not_above f g = nat_lt f.0 g.0 || (f.0 == g.0 && nat_le f.1 g.1)

-- Joining adds both and stops each at its ceiling.
abbrev pub count_then_area_kind : Kind CountThenArea
count_then_area_kind = record {
  neutral = measured 0 0;
  join = λ a b. measured (min (a.count + b.count) count_ceiling) (min (a.area + b.area) area_ceiling);
  not_dearer = λ a b. not_above (form_of a) (form_of b);
  form = form_of;
}

-- A link costs its weight and its area.
abbrev pub count_then_area_link : LinkPrice CountThenArea
count_then_area_link vs i j w = cond (is_link vs i j) (measured w (link_area vs i j)) (measured 0 0)
