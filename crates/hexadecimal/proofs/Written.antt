-- What a text is read as is exactly what it writes. Assumes nothing.
use Rattle.std.proofs.Common.{◌≡◌, ℕ, ◌+◌, ◌*◌, ◌/◌, ◌%◌, ◌<◌, ◌↔◌, List, [], ◌∷◌, Some, None, Option, sym, refl, ap, ◌∙◌, subst, arith}
use Rattle.std.specs.Prelude.{map}
use Rattle.std.specs.List.{AllByRecursion}
use Rattle.std.proofs.lemmas.Bool.Decides.{nat_tests}
use Rattle.hexadecimal.specs.Hex.{digit_value, byte_of, byte_value, in_front, unhexed, digit_of, hex_text, small_letter, ReadsHex}

-- the value of a digit; a digit, made small, is the digit of its value
below : (c n : ℕ) → digit_value c ≡ Some n → n < 16
below c n e = grind (arith, nat_tests)

valued : (c n : ℕ) → digit_value c ≡ Some n → small_letter c ≡ digit_of n
valued c n e = grind (arith, nat_tests)

-- and what is the digit of n, made small, has the value n
value_of : (c n : ℕ) → n < 16 → small_letter c ≡ digit_of n → digit_value c ≡ Some n
value_of c n h e = grind (arith, nat_tests)

-- what a byte and bytes are made of
halves : (v w : Option ℕ) (b : ℕ) → byte_of v w ≡ Some b → (m : ℕ) × (n : ℕ) × (v ≡ Some m) × (w ≡ Some n) × (m * 16 + n ≡ b)
halves None w b e = cc
halves (Some m) None b e = cc
halves (Some m) (Some n) b e = (m, n, refl, refl, cc)

parts : (o : Option ℕ) (r : Option (List ℕ)) (bs : List ℕ) → in_front o r ≡ Some bs → (b : ℕ) × (rest : List ℕ) × (o ≡ Some b) × (r ≡ Some rest) × (bs ≡ b ∷ rest)
parts None r bs e = cc
parts (Some b) None bs e = cc
parts (Some b) (Some rest) bs e = (b, rest, refl, refl, cc)

-- two codes write a byte exactly when, made small, they are its two digits
byte_read : (c d b : ℕ) → byte_value c d ≡ Some b → (b < 256) × (small_letter c ≡ digit_of (b / 16)) × (small_letter d ≡ digit_of (b % 16))
byte_read c d b e =
    let h = halves (digit_value c) (digit_value d) b e in
    let high = below c h.0 h.2 in
    let low = below d h.1 h.3 in
    let p : h.0 ≡ b / 16 = omega (arith, h.4) in
    let q : h.1 ≡ b % 16 = omega (arith, h.4) in
    (omega (arith, h.4), valued c h.0 h.2 ∙ ap digit_of p, valued d h.1 h.3 ∙ ap digit_of q)

byte_written : (c d b : ℕ) → b < 256 → small_letter c ≡ digit_of (b / 16) → small_letter d ≡ digit_of (b % 16) → byte_value c d ≡ Some b
byte_written c d b h p q =
    let high = value_of c (b / 16) (omega arith) p in
    let low = value_of d (b % 16) (omega arith) q in
    let whole : b / 16 * 16 + b % 16 ≡ b = omega arith in
    rw (high, low) (ap Some whole)

-- the text writes the bytes
abbrev Writes : List ℕ → List ℕ → Type 0
Writes text bs = AllByRecursion (λ b. b < 256) bs × (map small_letter text ≡ hex_text bs)

-- equal texts behind two equal digits
alike : {x y v w : ℕ} {xs ys : List ℕ} → x ≡ v → y ≡ w → xs ≡ ys → ◌≡◌ {A = List ℕ} (x ∷ y ∷ xs) (v ∷ w ∷ ys)
alike p q r = cc

-- one byte more: two codes in front of a text that is read as what it writes
read : (c d : ℕ) (text : List ℕ) → ((bs : List ℕ) → unhexed text ≡ Some bs → Writes text bs) → (bs : List ℕ) → unhexed (c ∷ d ∷ text) ≡ Some bs → Writes (c ∷ d ∷ text) bs
read c d text more bs e =
    let f = parts (byte_value c d) (unhexed text) bs e in
    let b = byte_read c d f.0 f.2 in
    let w = more f.1 f.3 in
    let whole : Writes (c ∷ d ∷ text) (f.0 ∷ f.1) = ((b.0, w.0), alike b.1 b.2 w.1) in
    subst (Writes (c ∷ d ∷ text)) (sym f.4) whole

written : (c d : ℕ) (text : List ℕ) → ((bs : List ℕ) → Writes text bs → unhexed text ≡ Some bs) → (bs : List ℕ) → Writes (c ∷ d ∷ text) bs → unhexed (c ∷ d ∷ text) ≡ Some bs
written c d text more [] w = let e = w.1 in cc
written c d text more (b ∷ bs) w =
    let e = w.1 in
    let byte = byte_written c d b w.0.0 (cc) (cc) in
    let rest = more bs (w.0.1, (cc)) in
    rw (byte, rest) refl

-- a text is read as exactly what it writes
exactly : (text bs : List ℕ) → (unhexed text ≡ Some bs) ↔ Writes text bs
exactly [] [] = (λ e. (tt, refl), λ w. refl)
exactly [] (b ∷ bs) = (λ e. cc, λ w. cc w.1)
exactly (c ∷ []) [] = (λ e. cc, λ w. cc w.1)
exactly (c ∷ []) (b ∷ bs) = (λ e. cc, λ w. cc w.1)
exactly (c ∷ d ∷ text) bs = (read c d text (λ ys. (exactly text ys).0) bs, written c d text (λ ys. (exactly text ys).1) bs)

-- what equals what the text is read as is exactly what it writes
pub reads : (text : List ℕ) (o : Option (List ℕ)) → o ≡ unhexed text → ReadsHex text o
reads text o e bs = let known = exactly text bs in (λ f. known.0 (sym e ∙ f), λ w. e ∙ known.1 w)
