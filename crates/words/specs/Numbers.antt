-- The whole number that a word writes in decimal digits. Assumes nothing.
use Rattle.std.specs.Prelude.{◌≡◌, ℕ, ◌+◌, ◌-◌, ◌*◌, ◌≤◌, Bool, cond, ◌&&◌, ◌↔◌, List, [], ◌∷◌, length, Some, None, Option, ◌==◌, nat_lt, nat_le, decimal}
use Rattle.std.specs.Str.{all_ascii_digits}

-- The number that digits write, behind digits that write n.
abbrev pub value_behind : ℕ → List ℕ → ℕ
value_behind n [] = n
value_behind n (c ∷ word) = value_behind (n * 10 + (c - 48)) word

-- A word writes a number if it is not empty and has digits only.
abbrev pub is_numeral : List ℕ → Bool
is_numeral word = nat_lt 0 (length word) && all_ascii_digits word

-- The number that a word writes, or none if it writes none or one above 4294967295.
abbrev pub number_of : List ℕ → Option ℕ
number_of word = cond (is_numeral word && nat_le (value_behind 0 word) 4294967295) (Some (value_behind 0 word)) None

-- The word without the zeros in front of its first other digit, or in front of its last digit.
abbrev pub without_zeros : List ℕ → List ℕ
without_zeros [] = []
without_zeros (c ∷ []) = c ∷ []
without_zeros (c ∷ d ∷ word) = cond (c == 48) (without_zeros (d ∷ word)) (c ∷ d ∷ word)

-- A word is read as n exactly when n is at most 4294967295 and the word, without the zeros in front, is n in decimal digits.
abbrev pub ReadsNumber : List ℕ → Option ℕ → Type 0
ReadsNumber word read = (n : ℕ) → (read ≡ Some n) ↔ ((n ≤ 4294967295) × (without_zeros word ≡ decimal n))
