-- Products of short ways, as the code takes them at 64 bits. Assumes nothing.
use Rattle.std.proofs.Common.{◌≡◌, ◌≤◌, Bool, ℤ, pos, ◌*ℤ◌, nat_abs, ◌∙◌, subst, lit<, w32, w64, SFits, to_z, of_z}
use lib.Signed.{le_z}
use Rattle.std.proofs.lemmas.Int.{to_z-of_z}
use Rattle.lines.proofs.Integers.{product_small}

-- the product of two sides of ways, from what `product` ensures
pub sides : (r a b : ℤ) → SFits w32 a → SFits w32 b → nat_abs a ≤ 32767 → nat_abs b ≤ 32767 →
    r ≡ to_z w32 (of_z w32 a) *ℤ to_z w32 (of_z w32 b) → (r ≡ a *ℤ b) × (nat_abs r ≤ 1073676289)
sides r a b f g h k e =
    let d : r ≡ a *ℤ b = rw (to_z-of_z w32 a f, to_z-of_z w32 b g) at e in
    (d, rw d (product_small a b 32767 32767 h k))

-- a test of two numbers of 64 bits, as a test of what they equal
pub order_back : (a b y z : ℤ) (r : Bool) → SFits w64 a → SFits w64 b → a ≡ y → b ≡ z → le_z (to_z w64 (of_z w64 a)) (to_z w64 (of_z w64 b)) ≡ r → le_z y z ≡ r
order_back a b y z r f g e d h = subst (λ (u : ℤ). le_z y u ≡ r) (to_z-of_z w64 b g ∙ d) (subst (λ (u : ℤ). le_z u (to_z w64 (of_z w64 b)) ≡ r) (to_z-of_z w64 a f ∙ e) h)

pub zero_fits : SFits w64 (pos 0)
zero_fits = record { sfits = lit< tt }
