-- A word is read as exactly the number that it writes with or without a minus. Assumes nothing.
use Rattle.std.proofs.Common.{◌≡◌, ℕ, suc, ◌^◌, ◌<◌, zero, ◌≤◌, Bool, eqb, true, false, List, [], ◌∷◌, Some, None, Option, ℤ, pos, negsuc, refl, ap, sym, ◌∙◌, arith}
use Rattle.std.specs.Prelude.{decimal, option_map, unsigned_abs}
use Rattle.std.specs.Char.{is_ascii_digit}
use Rattle.std.specs.Fmt.{signed_decimal}
use Rattle.std.specs.Str.{all_ascii_digits}
use Rattle.std.proofs.lemmas.Bool.{and_parts}
use Rattle.std.proofs.lemmas.Bool.Decides.{nat_tests}
use Rattle.std.proofs.lemmas.Fmt.{digits_decimal}
use Rattle.words.specs.Numbers.{number_of, without_zeros}
use Rattle.words.specs.Signed.{is_negative, digits_in, with_sign, signed_of, ReadsSigned}
use Rattle.words.proofs.NumberTrips.{own, decimal_read, read, written}

no_minus : (c : ℕ) → is_ascii_digit c ≡ true → eqb c 45 ≡ false
no_minus c h = grind (arith, nat_tests)

-- digits have no minus in front
unsigned : (word : List ℕ) → all_ascii_digits word ≡ true → is_negative word ≡ false
unsigned [] h = refl
unsigned (c ∷ word) h = no_minus c (and_parts (is_ascii_digit c) (all_ascii_digits word) h).0

as_it_is : (word : List ℕ) → is_negative word ≡ false → signed_of word ≡ option_map pos (number_of word)
as_it_is word h = rw h refl

pub signed_read : (z : ℤ) → unsigned_abs z ≤ 4294967295 → signed_of (signed_decimal z) ≡ Some z
signed_read (pos n) h =
    let small : n < 2 ^ 64 = omega arith in
    as_it_is (decimal n) (unsigned (decimal n) (digits_decimal own n small)) ∙ ap (option_map pos) (decimal_read n h)
signed_read (negsuc n) h = ap (option_map (with_sign true)) (decimal_read (suc n) h)

-- so is a word that is that number in digits
pub signed_back : (word : List ℕ) (read : Option ℤ) → read ≡ signed_of word → (z : ℤ) → unsigned_abs z ≤ 4294967295 → word ≡ signed_decimal z → read ≡ Some z
signed_back word read e z h w = e ∙ ap signed_of w ∙ signed_read z h

-- how far from 0 a number with or without a minus is
far : (b : Bool) (n : ℕ) → unsigned_abs (with_sign b n) ≡ n
far true zero = refl
far true (suc n) = refl
far false n = refl

mapped : (s : ℕ → ℤ) (o : Option ℕ) (z : ℤ) → option_map s o ≡ Some z → (n : ℕ) × (o ≡ Some n) × (s n ≡ z)
mapped s None z e = cc
mapped s (Some n) z e = (n, refl, (cc))

-- what equals the number of a word is exactly what the word writes
pub signed_reads : (word : List ℕ) (o : Option ℤ) → o ≡ signed_of word → ReadsSigned word o
signed_reads word o e z = (sound, back)
  where
    sound : o ≡ Some z → (unsigned_abs z ≤ 4294967295) × (z ≡ with_sign (is_negative word) (unsigned_abs z)) × (without_zeros (digits_in word) ≡ decimal (unsigned_abs z))
    sound f =
        let m = mapped (with_sign (is_negative word)) (number_of (digits_in word)) z (sym e ∙ f) in
        let r = read (digits_in word) m.0 m.1 in
        let u : unsigned_abs z ≡ m.0 = ap unsigned_abs (sym m.2) ∙ far (is_negative word) m.0 in
        (omega (arith, u, r.0), sym m.2 ∙ ap (with_sign (is_negative word)) (sym u), r.1 ∙ ap decimal (sym u))

    back : (unsigned_abs z ≤ 4294967295) × (z ≡ with_sign (is_negative word) (unsigned_abs z)) × (without_zeros (digits_in word) ≡ decimal (unsigned_abs z)) → o ≡ Some z
    back w = e ∙ ap (option_map (with_sign (is_negative word))) (written (digits_in word) (unsigned_abs z) w.0 w.2) ∙ ap Some (sym w.1)
