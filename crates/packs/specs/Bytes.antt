-- Byte strings and little-endian numbers. Assumes nothing.
use Rattle.std.specs.Prelude.{ℕ, zero, suc, ◌+◌, ◌-◌, ◌*◌, ◌/◌, ◌%◌, ◌<◌, cond, List, [], ◌∷◌, take, drop, ℤ, pos, negsuc, nat_lt, slice_index}

-- A byte string: each of its numbers is below 256.
abbrev pub Octets : List ℕ → Type 0
Octets bs = (i : ℕ) → slice_index bs i < 256

-- The number that bytes write, the lowest byte first.
abbrev pub little : List ℕ → ℕ
little [] = 0
little (b ∷ bs) = b + 256 * little bs

-- The number n in w bytes, the lowest byte first.
abbrev pub le : ℕ → ℕ → List ℕ
le zero n = []
le (suc w) n = n % 256 ∷ le w (n / 256)

-- The number in the w bytes at place p.
abbrev pub field : ℕ → ℕ → List ℕ → ℕ
field w p bs = little (take w (drop p bs))

-- A 16-bit number, read as a signed one.
abbrev pub signed : ℕ → ℤ
signed n = cond (nat_lt n 32768) (pos n) (negsuc (65535 - n))

-- A signed number from -32,768 to 32,767, as a 16-bit one.
abbrev pub unsigned : ℤ → ℕ
unsigned (pos n) = n
unsigned (negsuc n) = 65535 - n
