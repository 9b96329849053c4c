-- Signed numbers as they are written. Assumes nothing.
use Rattle.std.proofs.Common.{◌≡◌, ℤ, pos, negsuc, refl, arith, of_z, w16}
use Rattle.packs.specs.Bytes.{unsigned}

pub written_signed : (z : ℤ) → of_z w16 z ≡ unsigned z
written_signed (pos n) = refl
written_signed (negsuc n) = omega arith
