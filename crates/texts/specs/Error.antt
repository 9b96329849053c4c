-- Why a text says no job. Assumes nothing.
use Rattle.std.specs.Prelude.{◌≡◌, ℕ, List, ◌++◌, Ok, Err, Result, codes, decimal}
use Rattle.texts.specs.declared.error.Expected.{Expected}
use Rattle.texts.specs.declared.error.Expected.TheVariants.{Form, MeasureName, OneMeasure, PriceName, OnePrice, LevelNumbers, WeightInRange, RisingTolerance, ToleranceUpTo, FewLevels, VertexNumbers, LineString, FewVertices, SomeMeasure, SomePrice, SomeLevel, TwoVertices}
use Rattle.texts.specs.declared.error.TextError.{TextError}
use Rattle.texts.specs.declared.error.TextError.TheVariants.{Line, OutOfMemory}

-- The text of each thing that is expected.
abbrev pub expected_text : Expected → List ℕ
-- no line of this form is known
expected_text Form = codes "measure NAME, price NAME, level TOLERANCE WEIGHT, vertex X Y or LINESTRING (X Y, X Y, ...)"
-- the line of a measure names none
expected_text MeasureName = codes "measure segment, measure strip or measure area"
-- a measure was named before
expected_text OneMeasure = codes "no second measure"
-- the line of a price names none
expected_text PriceName = codes "price count or price count-area"
-- a price was named before
expected_text OnePrice = codes "no second price"
-- the line of a level has other words than two whole numbers
expected_text LevelNumbers = codes "level TOLERANCE WEIGHT, two whole numbers up to 4294967295"
-- the weight is out of range
expected_text WeightInRange = codes "a weight from 1 to 1000"
-- the tolerance does not rise
expected_text RisingTolerance = codes "a tolerance above that of the level before"
-- the tolerance is above the measure's largest
expected_text (ToleranceUpTo largest) = codes "a tolerance of at most " ++ decimal largest
-- there are 8 levels already
expected_text FewLevels = codes "at most 8 levels"
-- the line of a vertex has other words than two whole numbers in range
expected_text VertexNumbers = codes "vertex X Y, two whole numbers from -16384 to 16383"
-- the line of vertices has another form, or numbers that are not whole or out of range
expected_text LineString = codes "LINESTRING (X Y, X Y, ...), all whole numbers from -16384 to 16383"
-- there are more than 256 vertices
expected_text FewVertices = codes "at most 256 vertices"
-- no line names a measure
expected_text SomeMeasure = codes "a measure: measure segment, measure strip or measure area"
-- no line names a price
expected_text SomePrice = codes "a price: price count or price count-area"
-- there is no level
expected_text SomeLevel = codes "a level: level TOLERANCE WEIGHT"
-- there are fewer than 2 vertices
expected_text TwoVertices = codes "at least 2 vertices: vertex X Y or LINESTRING (X Y, X Y, ...)"

-- The line of an error: the number of the line and what was expected of it, or that memory ran out.
abbrev pub error_text : TextError → List ℕ
error_text (Line n expected) = codes "line " ++ (decimal n ++ (codes ": expected " ++ expected_text expected))
error_text OutOfMemory = codes "out of memory"

-- What comes after a value; an error goes on unchanged.
abbrev pub onward : {X Y E : Type 0} → Result X E → (X → Result Y E) → Result Y E
onward (Ok x) f = f x
onward (Err e) f = Err e

-- What line n says, or what was expected of it.
abbrev pub at_line : {X : Type 0} → ℕ → Result X Expected → Result X TextError
at_line n (Ok x) = Ok x
at_line n (Err e) = Err (Line n e)

-- What is answered is the error that is due, or that memory ran out.
abbrev pub Blamed : {X : Type 0} → Result X TextError → TextError → Type 0
Blamed due (Line n e) = due ≡ Err (Line n e)
Blamed due OutOfMemory = Unit {0}
