-- A word is read as exactly the number that it writes. Assumes nothing.
use Rattle.std.proofs.Common.{◌≡◌, ℕ, ◌^◌, ◌<◌, ◌≤◌, Bool, cond, ◌&&◌, eqb, leb, ltb, true, false, List, [], ◌∷◌, length, get_or, Some, None, Ok, Err, Option, Result, sym, refl, ap, ◌∙◌, subst, arith, rules, Bor}
use Rattle.std.specs.Prelude.{decimal}
use Rattle.std.specs.Char.{is_ascii_digit}
use Rattle.std.specs.List.{list_all}
use Rattle.std.specs.Result.{OkIff, MatchResult, result_ok}
use Rattle.std.specs.Str.{all_ascii_digits, IsUtf8}
use Rattle.std.specs.Str.Parse.{ParsesUnsigned}
use Rattle.std.proofs.lemmas.Bool.Decides.{nat_tests}
use Rattle.std.proofs.lemmas.Fmt.{digits_decimal, digits_value-decimal, decimal_nonempty, decimal-digits_value, IsAscii-from_digits}
use Rattle.std.proofs.lemmas.Str.{IsUtf8-from_ascii}
use Rattle.std.proofs.lemmas.Str.Parse.{IsNumeralModel, numerals_by_fold, parse_digits, tells_all_ascii_digits}
use Rattle.words.specs.Numbers.{value_behind, number_of, without_zeros, ReadsNumber}

-- the value of a word and its digits, in the words of `parse`
pub own : IsNumeralModel (λ ds. all_ascii_digits ds ≡ true) (value_behind 0)
own = numerals_by_fold _ tells_all_ascii_digits value_behind (search rules)

pub digits_are : (word : List ℕ) → list_all is_ascii_digit word ≡ all_ascii_digits word
digits_are [] = refl
digits_are (c ∷ word) = ap (λ b. is_ascii_digit c && b) (digits_are word)

-- when a word has a number, and when it has none
is_long : (word : List ℕ) → 0 < length word → ltb 0 (length word) ≡ true
is_long word h = grind (arith, nat_tests)

fits : (v : ℕ) → v ≤ 4294967295 → leb v 4294967295 ≡ true
fits v h = grind (arith, nat_tests)

pub some_number : (word : List ℕ) → all_ascii_digits word ≡ true → 0 < length word → value_behind 0 word ≤ 4294967295 → number_of word ≡ Some (value_behind 0 word)
some_number word h l f = rw (is_long word l, h, fits (value_behind 0 word) f) refl

-- the three tests of a word, in its number
abbrev tested : Bool → Bool → Bool → ℕ → Option ℕ
tested a b d v = cond ((a && b) && d) (Some v) None

split : (a b d : Bool) (v n : ℕ) → tested a b d v ≡ Some n → (a ≡ true) × (b ≡ true) × (d ≡ true) × (v ≡ n)
split true true true v n e = (refl, refl, refl, (cc))
split true true false v n e = cc
split true false d v n e = cc
split false b d v n e = cc

long : (word : List ℕ) → ltb 0 (length word) ≡ true → 0 < length word
long word h = grind (arith, nat_tests)

fitting : (v : ℕ) → leb v 4294967295 ≡ true → v ≤ 4294967295
fitting v h = grind (arith, nat_tests)

parts : (word : List ℕ) (n : ℕ) → number_of word ≡ Some n → (all_ascii_digits word ≡ true) × (0 < length word) × (value_behind 0 word ≤ 4294967295) × (value_behind 0 word ≡ n)
parts word n e =
    let s = split (ltb 0 (length word)) (all_ascii_digits word) (leb (value_behind 0 word) 4294967295) (value_behind 0 word) n e in
    (s.1, long word s.0, fitting (value_behind 0 word) s.2, s.3)

none_of : (o : Option ℕ) → ((n : ℕ) → o ≡ Some n → ⊥) → None ≡ o
none_of None h = refl
none_of (Some n) h = absurd (h n refl)

pub no_digits : (word : List ℕ) → all_ascii_digits word ≡ false → None ≡ number_of word
no_digits word h = none_of (number_of word) (λ n e. let p = parts word n e in let q = p.0 in cc)

pub no_number : (word : List ℕ) → ((0 < length word) × (value_behind 0 word < 2 ^ 32) → ⊥) → None ≡ number_of word
no_number word h = none_of (number_of word) (λ n e. let p = parts word n e in h (p.1, omega arith))

-- what zeros in front leave as it is
abbrev Same : List ℕ → List ℕ → Type 0
Same word rest = (value_behind 0 rest ≡ value_behind 0 word) × (all_ascii_digits rest ≡ all_ascii_digits word)

zero : (c : ℕ) → eqb c 48 ≡ true → c ≡ 48
zero c h = grind (arith, nat_tests)

zero_first : (c : ℕ) (word : List ℕ) → c ≡ 48 → Same (c ∷ word) word
zero_first c word e = subst (λ d. Same (d ∷ word) word) (sym e) (refl, refl)

same_more : (c d : ℕ) (word : List ℕ) → Same (d ∷ word) (without_zeros (d ∷ word)) → (b : Bool) → eqb c 48 ≡ b →
    Same (c ∷ d ∷ word) (cond b (without_zeros (d ∷ word)) (c ∷ d ∷ word))
same_more c d word s true e = let z = zero_first c (d ∷ word) (zero c e) in (s.0 ∙ z.0, s.1 ∙ z.1)
same_more c d word s false e = (refl, refl)

same : (word : List ℕ) → Same word (without_zeros word)
same [] = (refl, refl)
same (c ∷ []) = (refl, refl)
same (c ∷ d ∷ word) = same_more c d word (same (d ∷ word)) (eqb c 48) refl

-- what is left has no zero in front, unless it is that zero
abbrev Plain : List ℕ → Type 0
Plain word = (0 < length word) × (get_or word 0 0 ≡ 48 → length word ≡ 1)

other : (c : ℕ) → eqb c 48 ≡ false → c ≡ 48 → ⊥
other c h e = grind (arith, nat_tests)

plain_more : (c d : ℕ) (word : List ℕ) → Plain (without_zeros (d ∷ word)) → (b : Bool) → eqb c 48 ≡ b → Plain (cond b (without_zeros (d ∷ word)) (c ∷ d ∷ word))
plain_more c d word p true e = p
plain_more c d word p false e = (omega arith, λ f. absurd (other c e f))

plain : (c : ℕ) (word : List ℕ) → Plain (without_zeros (c ∷ word))
plain c [] = (omega arith, λ f. refl)
plain c (d ∷ word) = plain_more c d word (plain d word) (eqb c 48) refl

-- a word that has a number, without the zeros in front, is that number in digits
pub read : (word : List ℕ) (n : ℕ) → number_of word ≡ Some n → (n ≤ 4294967295) × (without_zeros word ≡ decimal n)
read [] n e = cc
read (c ∷ word) n e =
    let p = parts (c ∷ word) n e in
    let s = same (c ∷ word) in
    let q = plain c word in
    let v : value_behind 0 (without_zeros (c ∷ word)) ≡ n = s.0 ∙ p.3 in
    (omega (arith, p), sym (decimal-digits_value own (without_zeros (c ∷ word)) (s.1 ∙ p.0) q.0 q.1 (omega (arith, p, v))) ∙ ap decimal v)

-- and a word that is a number in digits, with zeros in front or without, has that number
nonempty : (word : List ℕ) → 0 < length (without_zeros word) → 0 < length word
nonempty [] h = h
nonempty (c ∷ word) h = omega arith

pub written : (word : List ℕ) (n : ℕ) → n ≤ 4294967295 → without_zeros word ≡ decimal n → number_of word ≡ Some n
written word n h e =
    let s = same word in
    let small : n < 2 ^ 64 = omega arith in
    let v : value_behind 0 word ≡ n = sym s.0 ∙ ap (value_behind 0) e ∙ digits_value-decimal own n small in
    let digits : all_ascii_digits word ≡ true = sym s.1 ∙ ap all_ascii_digits e ∙ digits_decimal own n small in
    let some : 0 < length (without_zeros word) = subst (λ ds. 0 < length ds) (sym e) (decimal_nonempty n small) in
    some_number word digits (nonempty word some) (omega arith) ∙ ap Some v

-- a number in digits is read as that number
pub decimal_read : (n : ℕ) → n ≤ 4294967295 → number_of (decimal n) ≡ Some n
decimal_read n h =
    let small : n < 2 ^ 64 = omega arith in
    let v = digits_value-decimal own n small in
    some_number (decimal n) (digits_decimal own n small) (decimal_nonempty n small) (omega (arith, v)) ∙ ap Some v

-- what equals the number of a word is exactly what the word writes
pub reads : (word : List ℕ) (o : Option ℕ) → o ≡ number_of word → ReadsNumber word o
reads word o e n = (λ f. read word n (sym e ∙ f), λ w. e ∙ written word n w.0 w.1)

-- a word of digits is a text, so that reading it as one gives it
not_text : {T E : Type 0} (r : Result T E) (U : Type 0) (P : T → Type 0) (Q : E → Type 0) → MatchResult r P (λ e. (U → ⊥) × Q e) → U → None ≡ result_ok r → ⊥
not_text (Ok x) U P Q m u e = cc
not_text (Err x) U P Q m u e = m.0 u

pub text : (word : List ℕ) → all_ascii_digits word ≡ true → IsUtf8 word
text word h = IsUtf8-from_ascii word (IsAscii-from_digits word (own.to word h))

pub is_text : {T E : Type 0} (r : Result T E) (word : List ℕ) (P : T → Type 0) (Q : E → Type 0) → all_ascii_digits word ≡ true → MatchResult r P (λ e. (IsUtf8 word → ⊥) × Q e) →
    None ≡ result_ok r → ⊥
is_text r word P Q h m e = not_text r (IsUtf8 word) P Q m (text word h) e

pub same_text : {E : Type 0} (r : Result (Bor (List ℕ)) E) (word : List ℕ) (s : Bor (List ℕ)) (Q : E → Type 0) → MatchResult r (λ t. (t.now ≡ word) × IsUtf8 word) Q → Some s ≡ result_ok r →
    s.now ≡ word
same_text (Ok t) word s Q m e = let f = m.0 in cc
same_text (Err x) word s Q m e = cc

-- what `parse` makes of a word of digits is its number
chosen : {E : Type 0} (word : List ℕ) (r : Result ℕ E) → all_ascii_digits word ≡ true → OkIff r ((0 < length word) × (value_behind 0 word < 2 ^ 32)) (value_behind 0 word) →
    result_ok r ≡ number_of word
chosen word (Ok x) h k = ap Some k.1 ∙ sym (some_number word h k.0.0 (let f = k.0.1 in omega arith))
chosen word (Err x) h k = no_number word k

pub parsed : {E : Type 0} (word bs : List ℕ) (r : Result ℕ E) → all_ascii_digits word ≡ true → bs ≡ word → ParsesUnsigned 32 10 bs r → result_ok r ≡ number_of word
parsed word bs r h e p = chosen word r h (parse_digits own 32 word r (subst (λ t. ParsesUnsigned 32 10 t r) e p) h)
