-- Signed 16-bit numbers. Assumes nothing.
use Rattle.std.proofs.Common.{◌≡◌, ℕ, ◌-◌, ◌<◌, ◌≤◌, ◌⊎◌, ℤ, pos, negsuc, refl, ap, inl, inr, arith}
use lib.Signed.{mag}
use Rattle.std.proofs.lemmas.Bool.{cases_lt, lt-ltb, le-ltb}
use Rattle.packs.specs.Bytes.{signed, unsigned}

-- reading what was written
pub signed_unsigned : (z : ℤ) → mag z < 32768 → signed (unsigned z) ≡ z
signed_unsigned (pos n) h = rw (lt-ltb n 32768 h) refl
signed_unsigned (negsuc n) h = rw (le-ltb (65535 - n) 32768 (omega arith)) (ap negsuc (omega arith))

pub unsigned_small : (z : ℤ) → mag z < 32768 → unsigned z < 65536
unsigned_small (pos n) h = omega arith
unsigned_small (negsuc n) h = omega arith

-- writing what was read
pub unsigned_signed : (n : ℕ) → n < 65536 → unsigned (signed n) ≡ n
unsigned_signed n h = go (cases_lt n 32768)
  where
    go : (n < 32768) ⊎ (32768 ≤ n) → unsigned (signed n) ≡ n
    go (inl l) = rw (lt-ltb n 32768 l) refl
    go (inr l) = rw (le-ltb n 32768 l) (omega arith)
