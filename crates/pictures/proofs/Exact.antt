-- The box of a line holds its vertices, and the frame around it takes them into the picture. Assumes nothing.
use Rattle.std.proofs.Common.{◌≡◌, ℕ, ◌+◌, ◌-◌, ◌*◌, ◌/◌, ◌≤◌, max, min, List, [], ◌∷◌, ℤ, pos, ◌+ℤ◌, ◌-ℤ◌, ◌*ℤ◌, nat_abs, ◌≤ℤ◌, sym, ap, subst, mul-le-mul_left, arith}
use Rattle.std.specs.Int.{int_min, int_max}
use Rattle.std.specs.List.{AllByRecursion}
use Rattle.std.proofs.lemmas.Int.{ints, clamps}
use Rattle.std.proofs.lemmas.List.Elements.{All-from_recursion}
use Rattle.lines.specs.declared.vertex.Vertex.{Vertex}
use Rattle.pictures.specs.declared.bounds.Bounds.{Bounds}
use Rattle.pictures.specs.declared.frame.Frame.{Frame}
use Rattle.pictures.specs.declared.picture.Mark.{Mark}
use Rattle.pictures.specs.declared.picture.Row.{Row}
use Rattle.pictures.specs.Bounds.{at_vertex, with_vertex, around, wide, high}
use Rattle.pictures.specs.Exact.{ExactAt, ExactMap}
use Rattle.pictures.specs.Frame.{frame_around, frame_of, widest}

min_below : (a b c : ℤ) → a ≤ℤ c → int_min a b ≤ℤ c
min_below a b c h = omega (arith, ints, clamps)

min_new : (a b : ℤ) → int_min a b ≤ℤ b
min_new a b = omega (arith, ints, clamps)

max_above : (a b c : ℤ) → c ≤ℤ a → c ≤ℤ int_max a b
max_above a b c h = omega (arith, ints, clamps)

max_new : (a b : ℤ) → b ≤ℤ int_max a b
max_new a b = omega (arith, ints, clamps)

same_below : (a : ℤ) → a ≤ℤ a
same_below a = omega (arith, ints)

-- the vertex lies in the box
record Holds (b : Bounds) (v : Vertex) : Type 0 where
  left : b.left ≤ℤ v.x
  right : v.x ≤ℤ b.right
  bottom : b.bottom ≤ℤ v.y
  top : v.y ≤ℤ b.top

holds_itself : (v : Vertex) → Holds (at_vertex v) v
holds_itself v = record { left = same_below v.x; right = same_below v.x; bottom = same_below v.y; top = same_below v.y }

holds_new : (b : Bounds) (v : Vertex) → Holds (with_vertex b v) v
holds_new b v = record { left = min_new b.left v.x; right = max_new b.right v.x; bottom = min_new b.bottom v.y; top = max_new b.top v.y }

holds_still : (b : Bounds) (v w : Vertex) → Holds b w → Holds (with_vertex b v) w
holds_still b v w h = record {
  left = min_below b.left v.x w.x h.left;
  right = max_above b.right v.x w.x h.right;
  bottom = min_below b.bottom v.y w.y h.bottom;
  top = max_above b.top v.y w.y h.top;
}

holds_around : (b : Bounds) (ms : List Mark) (w : Vertex) → Holds b w → Holds (around b ms) w
holds_around b [] w h = h
holds_around b (m ∷ ms) w h = holds_around (with_vertex b m.vertex) ms w (holds_still b m.vertex w h)

holds_all : (b : Bounds) (ms : List Mark) → AllByRecursion (λ m. Holds (around b ms) m.vertex) ms
holds_all b [] = tt
holds_all b (m ∷ ms) =
    (holds_around (with_vertex b m.vertex) ms m.vertex (holds_new b m.vertex), holds_all (with_vertex b m.vertex) ms)

onward : (a b : ℤ) → a ≤ℤ b → b -ℤ a ≡ pos (nat_abs (b -ℤ a))
onward a b h = omega (arith, ints)

back : (a b : ℤ) → a ≤ℤ b → b -ℤ a ≡ pos (nat_abs (a -ℤ b))
back a b h = omega (arith, ints)

nearer : (a b c : ℤ) → a ≤ℤ b → b ≤ℤ c → nat_abs (b -ℤ a) ≤ nat_abs (c -ℤ a)
nearer a b c h g = omega (arith, ints)

nearer_back : (a b c : ℤ) → a ≤ℤ b → b ≤ℤ c → nat_abs (b -ℤ c) ≤ nat_abs (c -ℤ a)
nearer_back a b c h g = omega (arith, ints)

-- so many times the factor from a start
scaled : (start factor k : ℕ) (way : ℤ) → way ≡ pos k → pos (start + factor * k) ≡ pos start +ℤ pos factor *ℤ way
scaled start factor k way e = ap (λ z. pos start +ℤ pos factor *ℤ z) (sym e)

inside_wide : (margin factor wide least k : ℕ) → k ≤ wide →
    margin + (max (factor * wide) least - factor * wide) / 2 + factor * k ≤ max (factor * wide) least + 2 * margin
inside_wide margin factor wide least k h = let l = mul-le-mul_left factor h in omega (arith, l)

inside_high : (margin factor high gap k : ℕ) → k ≤ high → margin + factor * k ≤ margin + factor * high + margin + gap
inside_high margin factor high gap k h = let l = mul-le-mul_left factor h in omega (arith, l)

-- what a box holds lies exactly
exact_at : (b : Bounds) (band rows : ℕ) (v : Vertex) → Holds b v → ExactAt (frame_around b band rows) v
exact_at b band rows v h =
    let f = frame_around b band rows in
    record {
      right = scaled f.across f.factor (nat_abs (v.x -ℤ b.left)) (v.x -ℤ b.left) (onward b.left v.x h.left);
      up = scaled f.down f.factor (nat_abs (v.y -ℤ b.top)) (b.top -ℤ v.y) (back v.y b.top h.top);
      inside = (
        inside_wide f.down f.factor (wide b) (720 * f.unit) (nat_abs (v.x -ℤ b.left)) (nearer b.left v.x b.right h.left h.right),
        inside_high f.down f.factor (high b) (8 * f.unit) (nat_abs (v.y -ℤ b.top)) (nearer_back b.bottom v.y b.top h.bottom h.top),
      );
    }

exact_all : (f : Frame) (b : Bounds) (band rows : ℕ) → f ≡ frame_around b band rows → (ms : List Mark) →
    AllByRecursion (λ m. Holds b m.vertex) ms → AllByRecursion (λ m. ExactAt f m.vertex) ms
exact_all f b band rows e [] h = tt
exact_all f b band rows e (m ∷ ms) h = (subst (λ g. ExactAt g m.vertex) (sym e) (exact_at b band rows m.vertex h.0), exact_all f b band rows e ms h.1)

large : (b : Bounds) (band rows : ℕ) → 1 ≤ (frame_around b band rows).factor
large b band rows = omega arith

-- the frame of a line takes it exactly
pub exact_map : (f : Frame) (ends : Vertex × Vertex) (marks : List Mark) (banded : List Row) (rows : ℕ) → f ≡ frame_of ends marks banded rows → ExactMap f ends marks
exact_map f ends marks banded rows e =
    let both = with_vertex (at_vertex ends.0) ends.1 in
    let b = around both marks in
    let band = widest 0 banded in
    let at = λ (v : Vertex) (h : Holds b v). subst (λ g. ExactAt g v) (sym e) (exact_at b band (min rows 8 + 2) v h) in
    record {
      factor = subst (λ (g : Frame). 1 ≤ g.factor) (sym e) (large b band (min rows 8 + 2));
      at_ends = (
        at ends.0 (holds_around both marks ends.0 (holds_still (at_vertex ends.0) ends.1 ends.0 (holds_itself ends.0))),
        at ends.1 (holds_around both marks ends.1 (holds_new (at_vertex ends.0) ends.1)),
      );
      at_marks = All-from_recursion (λ m. ExactAt f m.vertex) marks (exact_all f b band (min rows 8 + 2) e marks (holds_all both marks));
    }
