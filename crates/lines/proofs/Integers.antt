-- Integers by their absolute values, and their bits. Assumes nothing.
use Rattle.std.proofs.Common.{◌≡◌, ℕ, zero, suc, ◌+◌, ◌*◌, ◌≤◌, ℤ, pos, negsuc, ◌+ℤ◌, ◌-ℤ◌, ◌*ℤ◌, neg_ℤ, nat_abs, refl, mul-le-mul, arith, w16, w32, w64, SFits, to_z, of_z}
use lib.Signed.{mag}
use Rattle.std.proofs.lemmas.Int.{ints, to_z-of_z}

nat_abs_neg : (n : ℕ) → nat_abs (neg_ℤ (pos n)) ≡ n
nat_abs_neg zero = refl
nat_abs_neg (suc n) = refl

pub nat_abs_mul : (a b : ℤ) → nat_abs (a *ℤ b) ≡ nat_abs a * nat_abs b
nat_abs_mul (pos a) (pos b) = refl
nat_abs_mul (pos a) (negsuc b) = nat_abs_neg (a * suc b)
nat_abs_mul (negsuc a) (pos b) = nat_abs_neg (suc a * b)
nat_abs_mul (negsuc a) (negsuc b) = refl

mag_nat_abs : (z : ℤ) → mag z ≤ nat_abs z
mag_nat_abs (pos n) = omega arith
mag_nat_abs (negsuc n) = omega arith

nat_abs_mag : (z : ℤ) → nat_abs z ≤ mag z + 1
nat_abs_mag (pos n) = omega arith
nat_abs_mag (negsuc n) = omega arith

pub nat_abs_add : (a b : ℤ) → nat_abs (a +ℤ b) ≤ nat_abs a + nat_abs b
nat_abs_add a b = omega (arith, ints)

pub nat_abs_sub : (a b : ℤ) → nat_abs (a -ℤ b) ≤ nat_abs a + nat_abs b
nat_abs_sub a b = omega (arith, ints)

-- what is below 2 ^ 63 fits 64 bits
pub fits64 : (z : ℤ) → nat_abs z ≤ 9223372036854775807 → SFits w64 z
fits64 z h = record { sfits = omega (arith, mag_nat_abs z, h) }

-- and so comes back from its bits
pub back64 : (z : ℤ) → nat_abs z ≤ 9223372036854775807 → to_z w64 (of_z w64 z) ≡ z
back64 z h = to_z-of_z w64 z (fits64 z h)

pub small16 : (z : ℤ) → SFits w16 z → nat_abs z ≤ 32768
small16 z f = omega (arith, f.sfits, nat_abs_mag z)

pub product_small : (a b : ℤ) (m n : ℕ) → nat_abs a ≤ m → nat_abs b ≤ n → nat_abs (a *ℤ b) ≤ m * n
product_small a b m n h k = rw nat_abs_mul (mul-le-mul h k)

-- a coordinate, widened
pub wide32 : (x : ℤ) → SFits w16 x → to_z w32 (of_z w32 (to_z w16 (of_z w16 x))) ≡ x
wide32 x f = rw (to_z-of_z w16 x f) (to_z-of_z w32 x (record { sfits = omega (arith, f.sfits) }))

-- the product of two coordinates, from what `product` ensures
pub coordinates : (r x y : ℤ) → SFits w16 x → SFits w16 y →
    r ≡ to_z w32 (of_z w32 (to_z w16 (of_z w16 x))) *ℤ to_z w32 (of_z w32 (to_z w16 (of_z w16 y))) → (r ≡ x *ℤ y) × (nat_abs r ≤ 1073741824)
coordinates r x y f g e =
    let d : r ≡ x *ℤ y = rw (wide32 x f, wide32 y g) at e in
    (d, rw d (product_small x y 32768 32768 (small16 x f) (small16 y g)))

-- sums and differences at 64 bits
pub minus_back : (a b : ℤ) → nat_abs a + nat_abs b ≤ 9223372036854775807 → to_z w64 (of_z w64 (to_z w64 (of_z w64 a) -ℤ to_z w64 (of_z w64 b))) ≡ a -ℤ b
minus_back a b h =
    let ea = back64 a (omega arith) in
    let eb = back64 b (omega arith) in
    rw (ea, eb) (back64 (a -ℤ b) (omega (arith, nat_abs_sub a b)))

pub minus_fits : (a b : ℤ) → nat_abs a + nat_abs b ≤ 9223372036854775807 → SFits w64 (to_z w64 (of_z w64 a) -ℤ to_z w64 (of_z w64 b))
minus_fits a b h =
    let ea = back64 a (omega arith) in
    let eb = back64 b (omega arith) in
    rw (ea, eb) (fits64 (a -ℤ b) (omega (arith, nat_abs_sub a b)))

pub plus_back : (a b : ℤ) → nat_abs a + nat_abs b ≤ 9223372036854775807 → to_z w64 (of_z w64 (to_z w64 (of_z w64 a) +ℤ to_z w64 (of_z w64 b))) ≡ a +ℤ b
plus_back a b h =
    let ea = back64 a (omega arith) in
    let eb = back64 b (omega arith) in
    rw (ea, eb) (back64 (a +ℤ b) (omega (arith, nat_abs_add a b)))

pub plus_fits : (a b : ℤ) → nat_abs a + nat_abs b ≤ 9223372036854775807 → SFits w64 (to_z w64 (of_z w64 a) +ℤ to_z w64 (of_z w64 b))
plus_fits a b h =
    let ea = back64 a (omega arith) in
    let eb = back64 b (omega arith) in
    rw (ea, eb) (fits64 (a +ℤ b) (omega (arith, nat_abs_add a b)))
