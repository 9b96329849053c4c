-- The area measure keeps the rules of measures. Assumes nothing.
-- Proofs of laws: they stand here since the code of an `impl` names them. No contract reads them.
use Rattle.std.specs.Prelude.{◌≡◌, ℕ, ◌+◌, ◌-◌, ◌<◌, Bool, true, ◌&&◌, List, length, ℤ, pos, ◌+ℤ◌, ◌-ℤ◌, ◌*ℤ◌, nat_le, nat_lt, slice_index_or, unsigned_abs}
use Rattle.std.proofs.Common.{sym, ap, ◌∙◌, arith, add-zero}
use Rattle.std.proofs.lemmas.Int.{ints}
use Rattle.std.proofs.lemmas.Bool.{and_parts, and_from}
use Rattle.std.proofs.lemmas.Bool.Decides.{nat_tests}
use Rattle.lines.specs.declared.vertex.Vertex.{Vertex}
use Rattle.lines.specs.Vertex.{origin}
use Rattle.lines.specs.Line.{is_link}
use Rattle.lines.specs.Area.{link_area}
use Rattle.measures.specs.Measure.{Rules}
use Rattle.measures.specs.Area.{area, area_largest}
use Rattle.measures.specs.Rising.{leb_rises}

-- a step and the step back
to_and_fro : (a b : ℤ) → unsigned_abs ((pos 0 +ℤ (a -ℤ b)) +ℤ (b -ℤ a)) ≡ 0
to_and_fro a b = omega (arith, ints)

next_area : (vs : List Vertex) (i : ℕ) → i + 1 < length vs → link_area vs i (i + 1) ≡ 0
next_area vs i h =
    let l : is_link vs i (i + 1) ≡ true = grind (arith, nat_tests) in
    let e : (i + 1) - i ≡ 1 = omega arith in
    let p = slice_index_or vs i origin in
    let q = slice_index_or vs (i + 1) origin in
    rw (l, e, add-zero) (to_and_fro (p.x *ℤ q.y) (q.x *ℤ p.y))

pub area_rules : Rules area_largest area
area_rules = record {
  next_allowed = λ vs i t lawful h b.
      let e = next_area vs i h in
      and_from (is_link vs i (i + 1)) _ (grind (arith, nat_tests)) (and_from (nat_le t area_largest) _ (grind (arith, nat_tests)) (rw e (grind (arith, nat_tests))));
  stays_allowed = λ vs i j s t lawful h b y.
      let y0 = and_parts (is_link vs i j) _ y in
      let y1 = and_parts (nat_le s area_largest) _ y0.1 in
      and_from (is_link vs i j) _ y0.0 (and_from (nat_le t area_largest) _ (grind (arith, nat_tests)) (leb_rises (link_area vs i j) s t h y1.1));
  links_only = λ vs i j t lawful y.
      let y0 = and_parts (is_link vs i j) _ y in
      let y1 = and_parts (nat_le t area_largest) _ y0.1 in
      let l = and_parts (nat_lt i j) _ y0.0 in
      (grind (arith, nat_tests), grind (arith, nat_tests), grind (arith, nat_tests));
}

-- the answer for a link whose area is a
pub area_is : (vs : List Vertex) (i j t a : ℕ) (b : Bool) → i < j → j < length vs → a ≡ link_area vs i j →
    b ≡ (nat_le t area_largest && nat_le a t) → b ≡ area vs i j t
area_is vs i j t a b h l e d =
    let y : is_link vs i j ≡ true = grind (arith, nat_tests) in
    d ∙ ap (λ z. nat_le t area_largest && nat_le z t) e ∙ sym (ap (λ z. z && (nat_le t area_largest && nat_le (link_area vs i j) t)) y)
