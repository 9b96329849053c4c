-- Tests that stay true when the tolerance rises. Assumes nothing.
-- Proofs of laws: they stand here since the code of an `impl` names them. No contract reads them.
use Rattle.std.specs.Prelude.{◌≡◌, ℕ, ◌+◌, ◌*◌, ◌≤◌, Bool, true, false, cond, ℤ, pos, negsuc, ◌+ℤ◌, ◌-ℤ◌, ◌*ℤ◌, ◌==◌, int_le, nat_le, unsigned_abs, refl}
use Rattle.std.proofs.Common.{arith, mul-le-mul, mul-le-mul_right}
use Rattle.std.proofs.lemmas.Bool.Decides.{nat_tests}
use Rattle.lines.specs.declared.vertex.Vertex.{Vertex}
use Rattle.measures.specs.Plane.{dot, cross, squared}
use Rattle.measures.specs.Segment.{near_segment}
use Rattle.measures.specs.Strip.{near_line}

-- a test of one skipped vertex that stays true when the tolerance rises
abbrev pub Rises : (Vertex → Vertex → Vertex → ℕ → Bool) → Type 0
Rises near = (p q v : Vertex) (s t : ℕ) → s ≤ t → near p q v s ≡ true → near p q v t ≡ true

pub leb_rises : (a m n : ℕ) → m ≤ n → nat_le a m ≡ true → nat_le a n ≡ true
leb_rises a m n h y = grind (arith, nat_tests)

le_z_rises : (z : ℤ) (m n : ℕ) → m ≤ n → int_le z (pos m) ≡ true → int_le z (pos n) ≡ true
le_z_rises (pos a) m n h y = leb_rises a m n h y
le_z_rises (negsuc a) m n h y = refl

cond_rises : (b x y v w : Bool) → (x ≡ true → v ≡ true) → (y ≡ true → w ≡ true) → cond b x y ≡ true → cond b v w ≡ true
cond_rises true x y v w f g h = f h
cond_rises false x y v w f g h = g h

pub squares : (a b : ℤ) → (a *ℤ a) +ℤ (b *ℤ b) ≡ pos (unsigned_abs a * unsigned_abs a + unsigned_abs b * unsigned_abs b)
squares (pos a) (pos b) = refl
squares (pos a) (negsuc b) = refl
squares (negsuc a) (pos b) = refl
squares (negsuc a) (negsuc b) = refl

-- the three tests that the measures are made of
place_rises : (p v : Vertex) (s t : ℕ) → s ≤ t → int_le (squared p v) (pos (s * s)) ≡ true → int_le (squared p v) (pos (t * t)) ≡ true
place_rises p v s t h = le_z_rises (squared p v) (s * s) (t * t) (mul-le-mul h h)

times_rises : (z w : ℤ) (m n k : ℕ) → w ≡ pos k → m ≤ n → int_le z (pos m *ℤ w) ≡ true → int_le z (pos n *ℤ w) ≡ true
times_rises z w m n k e h = rw e (le_z_rises z (m * k) (n * k) (mul-le-mul_right k h))

line_rises : (p q v : Vertex) (s t : ℕ) → s ≤ t →
    int_le (cross p q v *ℤ cross p q v) (pos (s * s) *ℤ squared p q) ≡ true → int_le (cross p q v *ℤ cross p q v) (pos (t * t) *ℤ squared p q) ≡ true
line_rises p q v s t h = times_rises (cross p q v *ℤ cross p q v) (squared p q) (s * s) (t * t) _ (squares (q.x -ℤ p.x) (q.y -ℤ p.y)) (mul-le-mul h h)

pub near_segment_rises : Rises near_segment
near_segment_rises p q v s t h =
    cond_rises (int_le (dot p q v) (pos 0)) _ _ _ _ (place_rises p v s t h)
    (cond_rises (int_le (squared p q) (dot p q v)) _ _ _ _ (place_rises q v s t h) (line_rises p q v s t h))

pub near_line_rises : Rises near_line
near_line_rises p q v s t h = cond_rises (unsigned_abs (squared p q) == 0) _ _ _ _ (place_rises p v s t h) (line_rises p q v s t h)
