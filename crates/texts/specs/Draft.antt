-- What the lines of a text say so far. Assumes nothing.
use Rattle.std.specs.Prelude.{ℕ, ◌+◌, ◌-◌, Bool, cond, ◌||◌, List, [], ◌∷◌, ◌++◌, length, map, Some, None, Ok, Err, Option, Result, ◌==◌, nat_lt, ok_or, slice_index_or, vec_items}
use Rattle.lines.specs.Level.{level}
use Rattle.lines.specs.declared.level.Level.{Level as JobLevel}
use Rattle.lines.specs.declared.vertex.Vertex.{Vertex as LineVertex}
use Rattle.packs.specs.Job.{Content}
use Rattle.packs.specs.Kind.{measure_largest}
use Rattle.packs.specs.declared.kind.MeasureKind.{MeasureKind}
use Rattle.packs.specs.declared.kind.PriceKind.{PriceKind}
use Rattle.words.specs.Lines.{lines_of}
use Rattle.writer.specs.Job.{content}
use Rattle.texts.specs.Error.{onward, at_line}
use Rattle.texts.specs.Statement.{statements_in}
use Rattle.texts.specs.declared.draft.Draft.{Draft}
use Rattle.texts.specs.declared.draft.LevelLine.{LevelLine}
use Rattle.texts.specs.declared.error.Expected.{Expected}
use Rattle.texts.specs.declared.error.Expected.TheVariants.{OneMeasure, OnePrice, RisingTolerance, ToleranceUpTo, FewLevels, FewVertices, SomeMeasure, SomePrice, SomeLevel, TwoVertices}
use Rattle.texts.specs.declared.error.TextError.{TextError}
use Rattle.texts.specs.declared.error.TextError.TheVariants.{Line}
use Rattle.texts.specs.declared.statement.Statement.{Statement}
use Rattle.texts.specs.declared.statement.Statement.TheVariants.{Measure, Price, Level, Vertex}

-- What lines say: a measure and a price, levels with the lines that say them, and vertices.
pub record Said : Type 0 where
  pub measure : Option MeasureKind
  pub price : Option PriceKind
  pub levels : List LevelLine
  pub vertices : List LineVertex

-- What a draft holds.
abbrev pub said_in : Draft → Said
said_in d = record { measure = d.measure; price = d.price; levels = vec_items d.levels; vertices = vec_items d.vertices }

-- Before the first line nothing is said.
abbrev pub nothing : Said
nothing = record { measure = None; price = None; levels = []; vertices = [] }

-- The level that line n says.
abbrev pub numbered : ℕ → JobLevel → LevelLine
numbered n l = record { number = n; level = l }

-- A first measure is taken; a second one is not.
abbrev pub with_measure : Said → MeasureKind → Option MeasureKind → Result Said Expected
with_measure d m None = Ok (record d { measure = Some m })
with_measure d m (Some other) = Err OneMeasure

-- A first price is taken; a second one is not.
abbrev pub with_price : Said → PriceKind → Option PriceKind → Result Said Expected
with_price d p None = Ok (record d { price = Some p })
with_price d p (Some other) = Err OnePrice

-- What stands for a level where there is none.
abbrev pub no_level : LevelLine
no_level = numbered 0 (level 0 0)

-- A level rises above the levels before: there are none, or its tolerance is above that of the last.
abbrev pub rises : List LevelLine → JobLevel → Bool
rises ls l = length ls == 0 || nat_lt (slice_index_or ls (length ls - 1) no_level).level.tolerance l.tolerance

-- One of up to 8 levels is taken if it rises above those before.
abbrev pub with_level : Said → ℕ → JobLevel → Result Said Expected
with_level d n l =
    cond (nat_lt (length d.levels) 8) (cond (rises d.levels l) (Ok (record d { levels = d.levels ++ (numbered n l ∷ []) })) (Err RisingTolerance)) (Err FewLevels)

-- One of up to 256 vertices is taken.
abbrev pub with_vertex : Said → LineVertex → Result Said Expected
with_vertex d v = cond (nat_lt (length d.vertices) 256) (Ok (record d { vertices = d.vertices ++ (v ∷ []) })) (Err FewVertices)

-- What is said with one thing more, of line n, or what was expected of it.
abbrev pub taken : ℕ → Statement → Said → Result Said Expected
taken n (Measure m) d = with_measure d m d.measure
taken n (Price p) d = with_price d p d.price
taken n (Level l) d = with_level d n l
taken n (Vertex v) d = with_vertex d v

-- The same with more things, in their order.
abbrev pub all_taken : ℕ → List Statement → Said → Result Said Expected
all_taken n [] d = Ok d
all_taken n (statement ∷ statements) d = onward (taken n statement d) (all_taken n statements)

-- The same with more lines, the first of which is line n: the first line that is at fault ends the reading.
abbrev pub all_said : ℕ → List (List ℕ) → Said → Result Said TextError
all_said n [] d = Ok d
all_said n (line ∷ lines) d = onward (at_line n (statements_in line)) (λ statements. onward (at_line n (all_taken n statements d)) (all_said (n + 1) lines))

-- The levels that are said, without their lines.
abbrev pub levels_of : Said → List JobLevel
levels_of d = map (λ l. l.level) d.levels

-- No level has a tolerance above a measure's largest; or the line of the first that has.
abbrev pub none_above : ℕ → List LevelLine → Result (Unit {0}) TextError
none_above largest [] = Ok tt
none_above largest (l ∷ ls) = cond (nat_lt largest l.level.tolerance) (Err (Line l.number (ToleranceUpTo largest))) (none_above largest ls)

-- The job that is said, under a measure and a price; `end` is the line after the last.
abbrev pub counted : ℕ → Said → MeasureKind → PriceKind → Result Content TextError
counted end d me pr =
    cond (length d.levels == 0) (Err (Line end SomeLevel))
    (cond (nat_lt (length d.vertices) 2) (Err (Line end TwoVertices)) (Ok (content me pr d.vertices (levels_of d))))

-- The job that is said in whole, or the first thing that it lacks: a measure, tolerances within its largest, a price, a level, 2 vertices.
abbrev pub whole : ℕ → Said → Result Content TextError
whole end d =
    onward (ok_or d.measure (Line end SomeMeasure)) (λ me.
    onward (none_above (measure_largest me) d.levels) (λ _.
    onward (ok_or d.price (Line end SomePrice)) (counted end d me)))

-- The job that a text says, or its first line that is at fault; what its lines lack in all is named at the line after the last.
abbrev pub job_said : List ℕ → Result Content TextError
job_said text = onward (all_said 1 (lines_of text) nothing) (whole (length (lines_of text) + 1))
