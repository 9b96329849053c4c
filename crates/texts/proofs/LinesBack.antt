-- The lines of a job say what they were written for. Assumes nothing.
use Rattle.std.proofs.Common.{◌≡◌, ℕ, ◌≤◌, true, List, [], ◌∷◌, Some, Ok, ℤ, pos, negsuc, ◌≤ℤ◌, sym, refl, ap, subst, ◌∙◌, arith}
use Rattle.std.specs.Prelude.{codes, decimal, int_le, ok_or, option_map, option_and_then, unsigned_abs}
use Rattle.std.specs.Fmt.{signed_decimal}
use Rattle.std.specs.List.{AllByRecursion, join_with_byte}
use Rattle.std.proofs.lemmas.Bool.{and_from, le-leb, cond-true}
use Rattle.std.proofs.lemmas.Int.{ints}
use Rattle.lines.specs.Level.{level}
use Rattle.lines.specs.Vertex.{at, InRange}
use Rattle.lines.specs.declared.level.Level.{Level as JobLevel}
use Rattle.lines.specs.declared.vertex.Vertex.{Vertex as LineVertex}
use Rattle.packs.specs.declared.kind.MeasureKind.{MeasureKind}
use Rattle.packs.specs.declared.kind.MeasureKind.TheVariants.{Segment, Strip, Area}
use Rattle.packs.specs.declared.kind.PriceKind.{PriceKind}
use Rattle.packs.specs.declared.kind.PriceKind.TheVariants.{Count, CountThenArea}
use Rattle.words.specs.Lines.{IsLine}
use Rattle.words.specs.Numbers.{number_of}
use Rattle.words.specs.Words.{words_of}
use Rattle.words.proofs.NumberTrips.{decimal_read}
use Rattle.words.proofs.SignedTrips.{signed_read}
use Rattle.words.proofs.Solid.{Solid, printed_codes, solid_number, solid_signed, are_words, is_line}
use Rattle.words.proofs.WordTrips.{words_joined}
use Rattle.texts.specs.Error.{onward}
use Rattle.texts.specs.Statement.{coordinate_of, vertex_in, level_in, weighted, level_stated, said_by, statements_in}
use Rattle.texts.specs.Text.{measure_line, measure_name, price_line, price_name, level_line, vertex_text, vertex_line}
use Rattle.texts.specs.declared.error.Expected.TheVariants.{VertexNumbers}
use Rattle.texts.specs.declared.statement.Statement.{Statement}
use Rattle.texts.specs.declared.statement.Statement.TheVariants.{Measure, Price, Level, Vertex}

-- a line says one thing, and no line feed is in it
pub record Says (line : List ℕ) (s : Statement) : Type 0 where
  pub one_line : IsLine line
  pub says : statements_in line ≡ Ok (s ∷ [])

from_words : (line : List ℕ) (ws : List (List ℕ)) (s : Statement) → line ≡ join_with_byte 32 ws → AllByRecursion Solid ws → said_by line ws ≡ Ok (s ∷ []) → Says line s
from_words line ws s e solid said = record {
  one_line = subst IsLine (sym e) (is_line ws solid);
  says = ap (said_by line) (ap words_of e ∙ words_joined ws (are_words ws solid)) ∙ said;
}

solid_name : (m : MeasureKind) → Solid (measure_name m)
solid_name Segment = (omega arith, printed_codes (codes "segment") refl)
solid_name Strip = (omega arith, printed_codes (codes "strip") refl)
solid_name Area = (omega arith, printed_codes (codes "area") refl)

measure_said : (line : List ℕ) (m : MeasureKind) → said_by line (codes "measure" ∷ measure_name m ∷ []) ≡ Ok (Measure m ∷ [])
measure_said line Segment = refl
measure_said line Strip = refl
measure_said line Area = refl

pub measure_back : (m : MeasureKind) → Says (measure_line m) (Measure m)
measure_back m =
    from_words (measure_line m) (codes "measure" ∷ measure_name m ∷ []) (Measure m) refl ((omega arith, printed_codes (codes "measure") refl), (solid_name m, tt)) (measure_said (measure_line m) m)

solid_price : (p : PriceKind) → Solid (price_name p)
solid_price Count = (omega arith, printed_codes (codes "count") refl)
solid_price CountThenArea = (omega arith, printed_codes (codes "count-area") refl)

price_said : (line : List ℕ) (p : PriceKind) → said_by line (codes "price" ∷ price_name p ∷ []) ≡ Ok (Price p ∷ [])
price_said line Count = refl
price_said line CountThenArea = refl

pub price_back : (p : PriceKind) → Says (price_line p) (Price p)
price_back p =
    from_words (price_line p) (codes "price" ∷ price_name p ∷ []) (Price p) refl ((omega arith, printed_codes (codes "price") refl), (solid_price p, tt)) (price_said (price_line p) p)

-- a level
level_read : (l : JobLevel) → l.tolerance ≤ 4294967295 → l.weight ≤ 4294967295 → level_in (decimal l.tolerance ∷ decimal l.weight ∷ []) ≡ Some l
level_read l t w =
    ap (option_and_then (λ tolerance. option_map (level tolerance) (number_of (decimal l.weight)))) (decimal_read l.tolerance t) ∙
    ap (option_map (level l.tolerance)) (decimal_read l.weight w)

in_weight : (l : JobLevel) → (1 ≤ l.weight) × (l.weight ≤ 1000) → weighted l ≡ Ok (Level l)
in_weight l w = cond-true _ _ _ (and_from _ _ (le-leb 1 l.weight w.0) (le-leb l.weight 1000 w.1))

pub level_back : (l : JobLevel) → l.tolerance ≤ 4294967295 → (1 ≤ l.weight) × (l.weight ≤ 1000) → Says (level_line l) (Level l)
level_back l t w =
    from_words (level_line l) (codes "level" ∷ decimal l.tolerance ∷ decimal l.weight ∷ []) (Level l) refl
    ((omega arith, printed_codes (codes "level") refl), (solid_number l.tolerance t, (solid_number l.weight (omega arith), tt)))
    (ap (λ o. onward (level_stated o) (λ s. Ok (s ∷ []))) (level_read l t (omega arith)) ∙ ap (λ r. onward r (λ s. Ok (s ∷ []))) (in_weight l w))

-- a vertex
below : (a z : ℤ) → a ≤ℤ z → int_le a z ≡ true
below a z h = grind (arith, ints)

pub near : (z : ℤ) → negsuc 16383 ≤ℤ z → z ≤ℤ pos 16383 → unsigned_abs z ≤ 4294967295
near (pos n) a b = omega (arith, ints)
near (negsuc n) a b = omega (arith, ints)

coordinate_read : (z : ℤ) → negsuc 16383 ≤ℤ z → z ≤ℤ pos 16383 → coordinate_of (signed_decimal z) ≡ Some z
coordinate_read z a b = ap (option_and_then _) (signed_read z (near z a b)) ∙ cond-true _ _ _ (and_from _ _ (below (negsuc 16383) z a) (below z (pos 16383) b))

vertex_read : (v : LineVertex) → InRange v → vertex_in (signed_decimal v.x ∷ signed_decimal v.y ∷ []) ≡ Some v
vertex_read v r =
    ap (option_and_then (λ a. option_map (at a) (coordinate_of (signed_decimal v.y)))) (coordinate_read v.x r.0 r.1) ∙ ap (option_map (at v.x)) (coordinate_read v.y r.2 r.3)

-- the words of a vertex
solid_vertex : (v : LineVertex) → InRange v → AllByRecursion Solid (signed_decimal v.x ∷ signed_decimal v.y ∷ [])
solid_vertex v r = (solid_signed v.x (near v.x r.0 r.1), (solid_signed v.y (near v.y r.2 r.3), tt))

pub vertex_words : (v : LineVertex) → InRange v → vertex_in (words_of (vertex_text v)) ≡ Some v
vertex_words v r =
    ap vertex_in (words_joined (signed_decimal v.x ∷ signed_decimal v.y ∷ []) (are_words (signed_decimal v.x ∷ signed_decimal v.y ∷ []) (solid_vertex v r))) ∙ vertex_read v r

pub vertex_back : (v : LineVertex) → InRange v → Says (vertex_line v) (Vertex v)
vertex_back v r =
    from_words (vertex_line v) (codes "vertex" ∷ signed_decimal v.x ∷ signed_decimal v.y ∷ []) (Vertex v) refl
    ((omega arith, printed_codes (codes "vertex") refl), solid_vertex v r)
    (ap (λ o. onward (ok_or (option_map Vertex o) VertexNumbers) (λ s. Ok (s ∷ []))) (vertex_read v r))
