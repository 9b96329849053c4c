-- What one line of a text says. Assumes nothing.
use Rattle.std.specs.Prelude.{ℕ, Bool, false, cond, ◌&&◌, List, [], ◌∷◌, length, map, Some, None, Ok, Err, Option, Result, ℤ, pos, negsuc, ◌==◌, bytes_eq, codes, int_le, nat_le, ok_or, option_and_then, option_map, slice_index}
use Rattle.std.specs.List.{slice_split, starts_with}
use Rattle.lines.specs.Level.{level}
use Rattle.lines.specs.Vertex.{at}
use Rattle.lines.specs.declared.level.Level.{Level as JobLevel}
use Rattle.lines.specs.declared.vertex.Vertex.{Vertex as LineVertex}
use Rattle.packs.specs.declared.kind.MeasureKind.{MeasureKind}
use Rattle.packs.specs.declared.kind.MeasureKind.TheVariants.{Segment, Strip, Area}
use Rattle.packs.specs.declared.kind.PriceKind.{PriceKind}
use Rattle.packs.specs.declared.kind.PriceKind.TheVariants.{Count, CountThenArea}
use Rattle.words.specs.Numbers.{number_of}
use Rattle.words.specs.Signed.{signed_of}
use Rattle.words.specs.Words.{words_of}
use Rattle.texts.specs.Error.{onward}
use Rattle.texts.specs.declared.error.Expected.{Expected}
use Rattle.texts.specs.declared.error.Expected.TheVariants.{Form, MeasureName, PriceName, LevelNumbers, WeightInRange, VertexNumbers, LineString}
use Rattle.texts.specs.declared.statement.Statement.{Statement}
use Rattle.texts.specs.declared.statement.Statement.TheVariants.{Measure, Price, Level, Vertex}

-- The measure that a word names.
abbrev pub measure_of : List ℕ → Option MeasureKind
measure_of word =
    cond (bytes_eq word (codes "segment")) (Some Segment) (cond (bytes_eq word (codes "strip")) (Some Strip) (cond (bytes_eq word (codes "area")) (Some Area) None))

-- The price that a word names.
abbrev pub price_of : List ℕ → Option PriceKind
price_of word = cond (bytes_eq word (codes "count")) (Some Count) (cond (bytes_eq word (codes "count-area")) (Some CountThenArea) None)

-- What the only one of words says.
abbrev pub of_one : {X : Type 0} → (List ℕ → Option X) → List (List ℕ) → Option X
of_one f [] = None
of_one f (word ∷ []) = f word
of_one f (word ∷ next ∷ words) = None

-- The level that words write: a tolerance and a weight.
abbrev pub level_in : List (List ℕ) → Option JobLevel
level_in [] = None
level_in (t ∷ []) = None
level_in (t ∷ w ∷ []) = option_and_then (λ tolerance. option_map (level tolerance) (number_of w)) (number_of t)
level_in (t ∷ w ∷ more ∷ words) = None

-- The coordinate that a word writes, from -16384 to 16383.
abbrev pub coordinate_of : List ℕ → Option ℤ
coordinate_of word = option_and_then (λ z. cond (int_le (negsuc 16383) z && int_le z (pos 16383)) (Some z) None) (signed_of word)

-- The vertex that words write: x and y.
abbrev pub vertex_in : List (List ℕ) → Option LineVertex
vertex_in [] = None
vertex_in (x ∷ []) = None
vertex_in (x ∷ y ∷ []) = option_and_then (λ a. option_map (at a) (coordinate_of y)) (coordinate_of x)
vertex_in (x ∷ y ∷ more ∷ words) = None

-- A weight is from 1 to 1000.
abbrev pub weighted : JobLevel → Result Statement Expected
weighted l = cond (nat_le 1 l.weight && nat_le l.weight 1000) (Ok (Level l)) (Err WeightInRange)

-- A level with a weight in range, or what was expected of its line.
abbrev pub level_stated : Option JobLevel → Result Statement Expected
level_stated (Some l) = weighted l
level_stated None = Err LevelNumbers

-- What the words behind the first word of a line say by that word, or what was expected of them.
abbrev pub stated : List ℕ → List (List ℕ) → Result Statement Expected
stated word words =
    cond (bytes_eq word (codes "measure")) (ok_or (option_map Measure (of_one measure_of words)) MeasureName)
    (cond (bytes_eq word (codes "price")) (ok_or (option_map Price (of_one price_of words)) PriceName)
    (cond (bytes_eq word (codes "level")) (level_stated (level_in words))
    (cond (bytes_eq word (codes "vertex")) (ok_or (option_map Vertex (vertex_in words)) VertexNumbers)
    (Err Form))))

-- The parts of a text between marks.
abbrev pub parts : ℕ → List ℕ → List (List ℕ)
parts mark text = slice_split (λ c. c == mark) text

-- Words that are the one word LINESTRING.
abbrev pub are_line_string : List (List ℕ) → Bool
are_line_string [] = false
are_line_string (word ∷ []) = bytes_eq word (codes "LINESTRING")
are_line_string (word ∷ next ∷ words) = false

-- Of the two parts of a text around a closing parenthesis the first, if no word is in the second.
abbrev pub closed : List (List ℕ) → Option (List ℕ)
closed [] = None
closed (text ∷ []) = None
closed (text ∷ tail ∷ []) = cond (length (words_of tail) == 0) (Some text) None
closed (text ∷ tail ∷ more ∷ texts) = None

-- Of the two parts of a line around an opening parenthesis the second up to a closing one, if the only word in the first is LINESTRING.
abbrev pub opened : List (List ℕ) → Option (List ℕ)
opened [] = None
opened (head ∷ []) = None
opened (head ∷ rest ∷ []) = cond (are_line_string (words_of head)) (closed (parts 41 rest)) None
opened (head ∷ rest ∷ more ∷ texts) = None

-- What stands between the parentheses, of the codes 40 and 41, of a line that is LINESTRING, a text in parentheses, and nothing else.
abbrev pub inside : List ℕ → Option (List ℕ)
inside line = opened (parts 40 line)

-- The vertices that texts write, two words each.
abbrev pub vertices_in : List (List ℕ) → Option (List LineVertex)
vertices_in [] = Some []
vertices_in (text ∷ texts) = option_and_then (λ v. option_map (λ vs. v ∷ vs) (vertices_in texts)) (vertex_in (words_of text))

-- The vertices that a LINESTRING writes: between its parentheses they stand with commas, of the code 44, between them.
abbrev pub line_string_in : List ℕ → Option (List LineVertex)
line_string_in line = option_and_then (λ text. vertices_in (parts 44 text)) (inside line)

-- Vertices, each as a thing that is said.
abbrev pub vertices_said : Option (List LineVertex) → Option (List Statement)
vertices_said vs = option_map (map Vertex) vs

-- What a line says by its first word: nothing if there is none or it begins with #, which has the code 35; vertices if it begins with
-- LINESTRING; one thing if it is another known word.
abbrev pub said_by : List ℕ → List (List ℕ) → Result (List Statement) Expected
said_by line [] = Ok []
said_by line (word ∷ words) =
    cond (slice_index word 0 == 35) (Ok [])
    (cond (starts_with (λ c d. c == d) word (codes "LINESTRING")) (ok_or (vertices_said (line_string_in line)) LineString)
    (onward (stated word words) (λ statement. Ok (statement ∷ []))))

-- What a line says, or what was expected of it.
abbrev pub statements_in : List ℕ → Result (List Statement) Expected
statements_in line = said_by line (words_of line)
