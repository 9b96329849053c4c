-- Bytes written as hexadecimal digits, two to a byte. Assumes nothing.
use Rattle.std.specs.Prelude.{◌≡◌, ℕ, ◌+◌, ◌-◌, ◌*◌, ◌/◌, ◌%◌, ◌<◌, cond, ◌&&◌, ◌↔◌, List, [], ◌∷◌, map, Some, None, Option, nat_le, nat_lt}
use Rattle.std.specs.List.{AllByRecursion}
use Rattle.std.specs.Option.{option_map}

-- The value of the digit with the code c, '0' to '9', 'a' to 'f' or 'A' to 'F'; none of any other.
abbrev pub digit_value : ℕ → Option ℕ
digit_value c =
    cond (nat_le 48 c && nat_le c 57) (Some (c - 48))
    (cond (nat_le 97 c && nat_le c 102) (Some (c - 87))
    (cond (nat_le 65 c && nat_le c 70) (Some (c - 55)) None))

-- The byte of two digits with these values, the high one first; none if one of them is no digit.
abbrev pub byte_of : Option ℕ → Option ℕ → Option ℕ
byte_of None low = None
byte_of (Some high) None = None
byte_of (Some high) (Some low) = Some (high * 16 + low)

-- The byte that two codes write, the high digit first; none if one of them is no digit.
abbrev pub byte_value : ℕ → ℕ → Option ℕ
byte_value c d = byte_of (digit_value c) (digit_value d)

-- A byte in front of others; none where one of the two is none.
abbrev pub in_front : Option ℕ → Option (List ℕ) → Option (List ℕ)
in_front None bytes = None
in_front (Some byte) bytes = option_map (λ bs. byte ∷ bs) bytes

-- The bytes that a text writes; none for an odd number of digits, or if one of them is no digit.
abbrev pub unhexed : List ℕ → Option (List ℕ)
unhexed [] = Some []
unhexed (c ∷ []) = None
unhexed (c ∷ d ∷ text) = in_front (byte_value c d) (unhexed text)

-- The code of the digit with the value n, with a small letter from 10 on.
abbrev pub digit_of : ℕ → ℕ
digit_of n = cond (nat_lt n 10) (48 + n) (87 + n)

-- The text that writes the bytes, each by two digits, the high digit first.
abbrev pub hex_text : List ℕ → List ℕ
hex_text [] = []
hex_text (b ∷ bs) = digit_of (b / 16) ∷ digit_of (b % 16) ∷ hex_text bs

-- The code c with 'A' to 'F' made small, and any other code as it is.
abbrev pub small_letter : ℕ → ℕ
small_letter c = cond (nat_le 65 c && nat_le c 70) (c + 32) c

-- The text is read as bs exactly when bs are bytes and the text, with its letters made small, is the text that writes them.
abbrev pub ReadsHex : List ℕ → Option (List ℕ) → Type 0
ReadsHex text o = (bs : List ℕ) → (o ≡ Some bs) ↔ (AllByRecursion (λ b. b < 256) bs × (map small_letter text ≡ hex_text bs))
