-- The measures and prices that packs name by a number. Assumes nothing.
use Rattle.std.specs.Prelude.{ℕ, cond, List, ◌++◌, Some, None, Option, ◌==◌, codes, decimal}
use Rattle.measures.specs.Segment.{segment_largest}
use Rattle.measures.specs.Strip.{strip_largest}
use Rattle.measures.specs.Area.{area_largest}
use Rattle.packs.specs.declared.kind.MeasureKind.{MeasureKind}
use Rattle.packs.specs.declared.kind.MeasureKind.TheVariants.{Segment, Strip, Area}
use Rattle.packs.specs.declared.kind.PriceKind.{PriceKind}
use Rattle.packs.specs.declared.kind.PriceKind.TheVariants.{Count, CountThenArea}
use Rattle.packs.specs.declared.kind.UnknownNumber.{UnknownNumber}

-- The number of each measure.
abbrev pub measure_number : MeasureKind → ℕ
measure_number Segment = 1
measure_number Strip = 2
measure_number Area = 3

-- The number of each price.
abbrev pub price_number : PriceKind → ℕ
price_number Count = 1
price_number CountThenArea = 2

-- The measure with a number, if there is one.
abbrev pub measure_numbered : ℕ → Option MeasureKind
measure_numbered n = cond (n == 1) (Some Segment) (cond (n == 2) (Some Strip) (cond (n == 3) (Some Area) None))

-- The price with a number, if there is one.
abbrev pub price_numbered : ℕ → Option PriceKind
price_numbered n = cond (n == 1) (Some Count) (cond (n == 2) (Some CountThenArea) None)

-- A number that names nothing.
abbrev pub unknown : ℕ → UnknownNumber
unknown n = record { 0 = n }

-- The text of such a number.
abbrev pub unknown_text : UnknownNumber → List ℕ
unknown_text e = codes "nothing has the number " ++ decimal e.0

-- The largest tolerance of each measure.
abbrev pub measure_largest : MeasureKind → ℕ
measure_largest Segment = segment_largest
measure_largest Strip = strip_largest
measure_largest Area = area_largest
