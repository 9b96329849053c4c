-- Faults: why a call refuses, which layer found it, and where. Assumes nothing.
use Rattle.std.specs.Prelude.{ℕ, List, ◌++◌, Ok, Err, codes, decimal, Result}
use Rattle.lines.specs.declared.fault.Cause.{Cause}
use Rattle.lines.specs.declared.fault.Cause.TheVariants.{RunsOut, WrongKind, WrongLength, LeftOver, Coordinate, Tolerance, Weight, Unknown, Order, Nesting, Link, Total, Vertex, Pinned, NotPinned, Full, OtherCount, Memory, Level, Limits}
use Rattle.lines.specs.declared.fault.Layer.{Layer}
use Rattle.lines.specs.declared.fault.Layer.TheVariants.{Pack, Content, Marker, Sheet}
use Rattle.lines.specs.declared.fault.Fault.{Fault}

-- The number of each cause.
abbrev pub cause_number : Cause → ℕ
-- a record's header or body runs out
cause_number RunsOut = 1
-- the record's kind is not the one due
cause_number WrongKind = 2
-- the record's body has a wrong length
cause_number WrongLength = 3
-- bytes are left over
cause_number LeftOver = 4
-- a coordinate is out of range
cause_number Coordinate = 5
-- a tolerance does not rise, or is above the measure's largest
cause_number Tolerance = 6
-- a weight is out of range
cause_number Weight = 7
-- the measure or the price is unknown
cause_number Unknown = 8
-- a chain does not rise strictly from 0 to n - 1
cause_number Order = 9
-- a vertex is not in the finer chain
cause_number Nesting = 10
-- a link is not allowed
cause_number Link = 11
-- the claimed total differs
cause_number Total = 12
-- the vertex is no inner vertex
cause_number Vertex = 13
-- the vertex is pinned already
cause_number Pinned = 14
-- the vertex is not pinned
cause_number NotPinned = 15
-- all places for pins or approvals are taken
cause_number Full = 16
-- the line's count is not the sheet's
cause_number OtherCount = 17
-- the lent memory is short
cause_number Memory = 18
-- there is no such level
cause_number Level = 19
-- a count of vertices or levels, or a reach, is out of limits
cause_number Limits = 20

-- The number of each layer.
abbrev pub layer_number : Layer → ℕ
layer_number Pack = 1
layer_number Content = 2
layer_number Marker = 3
layer_number Sheet = 4

-- The fault at a place and a spot.
abbrev pub fault_at : Cause → Layer → ℕ → ℕ → Fault
fault_at c l p s = record { cause = c; layer = l; place = p; spot = s }

-- The fault at a place, with spot 0.
abbrev pub fault : Cause → Layer → ℕ → Fault
fault c l p = fault_at c l p 0

-- The line of a refusal: refused N layer Y place P spot Q.
abbrev pub numbered_text : ℕ → ℕ → ℕ → ℕ → List ℕ
numbered_text number layer place spot =
    codes "refused " ++ (decimal number ++ (codes " layer " ++ (decimal layer ++ (codes " place " ++ (decimal place ++ (codes " spot " ++ decimal spot))))))

-- The line of a fault, by the numbers of its cause and its layer.
abbrev pub refused_text : Fault → List ℕ
refused_text e = numbered_text (cause_number e.cause) (layer_number e.layer) e.place e.spot

-- What comes after a value; a fault goes on unchanged.
abbrev pub then : {X Y : Type 0} → Result X Fault → (X → Result Y Fault) → Result Y Fault
then (Ok x) f = f x
then (Err e) f = Err e
