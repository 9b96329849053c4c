-- The whole number that a word writes with or without a minus, which has the code 45, in front. Assumes nothing.
use Rattle.std.specs.Prelude.{◌≡◌, ℕ, ◌≤◌, Bool, true, false, cond, ◌↔◌, List, drop, Some, Option, ℤ, pos, neg_ℤ, ◌==◌, decimal, option_map, slice_index, unsigned_abs}
use Rattle.words.specs.Numbers.{number_of, without_zeros}

-- Whether a word begins with a minus.
abbrev pub is_negative : List ℕ → Bool
is_negative word = slice_index word 0 == 45

-- The word without the minus in front.
abbrev pub digits_in : List ℕ → List ℕ
digits_in word = cond (is_negative word) (drop 1 word) word

-- The number n with or without a minus.
abbrev pub with_sign : Bool → ℕ → ℤ
with_sign true n = neg_ℤ (pos n)
with_sign false n = pos n

-- The number that a word writes, or none if it writes none or one further from 0 than 4294967295.
abbrev pub signed_of : List ℕ → Option ℤ
signed_of word = option_map (with_sign (is_negative word)) (number_of (digits_in word))

-- A word is read as z exactly when z is no further from 0 than 4294967295, the sign of z is that in front of the word, and the rest of the word,
-- without the zeros in front, is in decimal digits how far from 0 z is.
abbrev pub ReadsSigned : List ℕ → Option ℤ → Type 0
ReadsSigned word read =
    (z : ℤ) →
    (read ≡ Some z) ↔ ((unsigned_abs z ≤ 4294967295) × (z ≡ with_sign (is_negative word) (unsigned_abs z)) × (without_zeros (digits_in word) ≡ decimal (unsigned_abs z)))
