-- How far a vertex lies apart from a link, and the tests that it passes. Assumes nothing.
use Rattle.std.proofs.Common.{◌≡◌, ℕ, ◌*◌, ◌≤◌, max, Bool, false, ◌&&◌, leb, pos, ◌-ℤ◌, nat_abs, sym, ap, ◌∙◌, ap₂, mul-le-mul_right, mul-le-mul, arith}
use lib.Signed.{le_z}
use Rattle.std.proofs.lemmas.Bool.Decides.{nat_tests}
use Rattle.lines.specs.declared.vertex.Vertex.{Vertex}
use Rattle.measures.specs.declared.apart.Apart.{Apart}
use Rattle.measures.specs.Plane.{squared}
use Rattle.measures.specs.Apart.{apart_within}
use Rattle.measures.specs.Rising.{squares}

squared_is : (p q : Vertex) → squared p q ≡ pos (nat_abs (squared p q))
squared_is p q =
    let e = squares (q.x -ℤ p.x) (q.y -ℤ p.y) in
    e ∙ ap pos (sym (ap nat_abs e))

-- what lies r apart from an end that counts
pub end_counts : (p v : Vertex) (r : ℕ) → r ≡ nat_abs (squared p v) → (a b : Vertex) (t : ℕ) →
    le_z (squared p v) (pos (t * t)) ≡ apart_within (record { far = r; off = 0 }) a b t
end_counts p v r e a b t =
    let d : leb r (t * t) ≡ (leb r (t * t) && leb 0 (t * t * nat_abs (squared a b))) = grind (arith, nat_tests) in
    ap (λ z. le_z z (pos (t * t))) (squared_is p v) ∙ ap (λ n. leb n (t * t)) (sym e) ∙ d

-- what is not within a tolerance is not within a smaller one
pub within_falls : (a : Apart) (p q : Vertex) (s t : ℕ) → s ≤ t → apart_within a p q t ≡ false → apart_within a p q s ≡ false
within_falls a p q s t h y =
    let r : s * s ≤ t * t = mul-le-mul h h in
    let l : s * s * nat_abs (squared p q) ≤ t * t * nat_abs (squared p q) = mul-le-mul_right (nat_abs (squared p q)) r in
    grind (arith, nat_tests)

larger : (a b m n : ℕ) → m ≡ max a b → leb m n ≡ (leb a n && leb b n)
larger a b m n e = grind (arith, nat_tests)

-- the larger of each number is within where both are
pub within_both : (a b m : Apart) (p q : Vertex) (t : ℕ) → m.far ≡ max a.far b.far → m.off ≡ max a.off b.off →
    apart_within m p q t ≡ (apart_within a p q t && apart_within b p q t)
within_both a b m p q t far off =
    ap₂ ◌&&◌ (larger a.far b.far m.far (t * t) far) (larger a.off b.off m.off (t * t * nat_abs (squared p q)) off) ∙
    grind (arith, nat_tests)

-- the test against what the tolerance t permits
pub limit_is : (a limit : Apart) (p q : Vertex) (t : ℕ) (b : Bool) → limit.far ≡ t * t → limit.off ≡ t * t * nat_abs (squared p q) →
    b ≡ (leb a.far limit.far && leb a.off limit.off) → apart_within a p q t ≡ b
limit_is a limit p q t b far off e = sym (e ∙ ap₂ (λ m n. leb a.far m && leb a.off n) far off)
