-- Places in memory that may lie past its end. Assumes nothing.
use Rattle.std.proofs.Common.{◌≡◌, ℕ, ◌+◌, ◌*◌, ◌<◌, ◌≤◌, min, ap, ◌∙◌, ⊎_elim, mul-le-mul_left, mul-zero, mul-one, arith}
use Rattle.std.proofs.lemmas.Bool.{cases_lt}

-- a product of a number with a ceiling, again under the ceiling
capped : (x n : ℕ) → min (min x 18446744073709551615 * n) 18446744073709551615 ≡ min (x * n) 18446744073709551615
capped x n =
    ⊎_elim
    (λ (p : 0 < n).
    ⊎_elim
    (λ (l : 18446744073709551615 < x).
    let e : min x 18446744073709551615 ≡ 18446744073709551615 = omega arith in
    let a : 18446744073709551615 * 1 ≤ 18446744073709551615 * n = mul-le-mul_left 18446744073709551615 p in
    let b : x * 1 ≤ x * n = mul-le-mul_left x p in
    rw e (omega (arith, mul-one x)))
    (λ (l : x ≤ 18446744073709551615). let e : min x 18446744073709551615 ≡ x = omega arith in rw e)
    (cases_lt 18446744073709551615 x))
    (λ (p : n ≤ 0). let e : n ≡ 0 = omega arith in rw (e, mul-zero (min x 18446744073709551615), mul-zero x))
    (cases_lt 0 n)

-- a row and a place in it, reckoned with ceilings
pub placed : (a n i j x y z w : ℕ) → x ≡ min (a * n) 18446744073709551615 → y ≡ min (x + i) 18446744073709551615 →
    z ≡ min (y * n) 18446744073709551615 → w ≡ min (z + j) 18446744073709551615 → w ≡ min ((a * n + i) * n + j) 18446744073709551615
placed a n i j x y z w p q r s =
    let e : y ≡ min (a * n + i) 18446744073709551615 = omega arith in
    let f : z ≡ min ((a * n + i) * n) 18446744073709551615 = r ∙ ap (λ u. min (u * n) 18446744073709551615) e ∙ capped (a * n + i) n in
    omega arith
