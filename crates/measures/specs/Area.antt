-- The area measure: the area of the link is at most the tolerance. Assumes nothing.
use Rattle.std.specs.Prelude.{ℕ, ◌&&◌, nat_le}
use Rattle.lines.specs.Line.{is_link}
use Rattle.lines.specs.Area.{link_area}
use Rattle.measures.specs.Measure.{Answer}

-- The largest tolerance of the area measure.
abbrev pub area_largest : ℕ
area_largest = 2147483647

abbrev pub area : Answer
area vs i j t = is_link vs i j && (nat_le t area_largest && nat_le (link_area vs i j) t)
