-- Words of printed bytes, joined by spaces, make a line of these words. Assumes nothing.
use Rattle.std.proofs.Common.{◌≡◌, ℕ, suc, ◌^◌, ◌<◌, ◌≤◌, leb, true, false, List, [], ◌∷◌, ◌++◌, length, ℤ, pos, negsuc, subst, arith, append-nil}
use Rattle.std.specs.Prelude.{IsFalse, decimal, unsigned_abs}
use Rattle.std.specs.Char.{is_ascii_digit}
use Rattle.std.specs.Fmt.{signed_decimal}
use Rattle.std.specs.List.{AllByRecursion, list_all, join_with_byte}
use Rattle.std.specs.Str.{all_ascii_digits}
use Rattle.std.proofs.lemmas.Bool.{and_parts}
use Rattle.std.proofs.lemmas.Bool.Decides.{nat_tests}
use Rattle.std.proofs.lemmas.Fmt.{digits_decimal, decimal_nonempty}
use Rattle.words.specs.Lines.{IsLine}
use Rattle.words.specs.Words.{is_blank, IsWord}
use Rattle.words.proofs.NumberTrips.{own}

-- bytes above the code of a space, in which no line and no word ends
abbrev pub Printed : List ℕ → Type 0
Printed word = AllByRecursion (λ c. 33 ≤ c) word

digit : (c : ℕ) → is_ascii_digit c ≡ true → 33 ≤ c
digit c h = grind (arith, nat_tests)

pub printed_digits : (word : List ℕ) → all_ascii_digits word ≡ true → Printed word
printed_digits [] h = tt
printed_digits (c ∷ word) h = let p = and_parts (is_ascii_digit c) (all_ascii_digits word) h in (digit c p.0, printed_digits word p.1)

above : (c : ℕ) → leb 33 c ≡ true → 33 ≤ c
above c h = grind (arith, nat_tests)

pub printed_codes : (word : List ℕ) → list_all (λ c. leb 33 c) word ≡ true → Printed word
printed_codes [] h = tt
printed_codes (c ∷ word) h = let p = and_parts (leb 33 c) (list_all (λ d. leb 33 d) word) h in (above c p.0, printed_codes word p.1)

no_blank : (c : ℕ) → 33 ≤ c → is_blank c ≡ false
no_blank c h = grind (arith, nat_tests)

pub printed_line : (word rest : List ℕ) → Printed word → IsLine rest → IsLine (word ++ rest)
printed_line [] rest h r = r
printed_line (c ∷ word) rest h r = ((λ e. omega (arith, h.0, e)), printed_line word rest h.1 r)

pub printed_word : (word : List ℕ) → Printed word → AllByRecursion (λ c. IsFalse (is_blank c)) word
printed_word [] h = tt
printed_word (c ∷ word) h = (no_blank c h.0, printed_word word h.1)

-- a word that can stand on a line
abbrev pub Solid : List ℕ → Type 0
Solid word = (0 < length word) × Printed word

pub solid_number : (n : ℕ) → n ≤ 4294967295 → Solid (decimal n)
solid_number n h =
    let small : n < 2 ^ 64 = omega arith in
    (decimal_nonempty n small, printed_digits (decimal n) (digits_decimal own n small))

pub are_words : (ws : List (List ℕ)) → AllByRecursion Solid ws → AllByRecursion IsWord ws
are_words [] h = tt
are_words (word ∷ ws) h = ((h.0.0, printed_word word h.0.1), are_words ws h.1)

pub is_line : (ws : List (List ℕ)) → AllByRecursion Solid ws → IsLine (join_with_byte 32 ws)
is_line [] h = tt
is_line (word ∷ []) h = subst IsLine (append-nil word) (printed_line word [] h.0.1 tt)
is_line (word ∷ next ∷ ws) h = printed_line word (32 ∷ join_with_byte 32 (next ∷ ws)) h.0.1 ((λ e. omega (arith, e)), is_line (next ∷ ws) h.1)

pub solid_signed : (z : ℤ) → unsigned_abs z ≤ 4294967295 → Solid (signed_decimal z)
solid_signed (pos n) h = solid_number n h
solid_signed (negsuc n) h = (omega arith, (omega arith, (solid_number (suc n) h).1))
