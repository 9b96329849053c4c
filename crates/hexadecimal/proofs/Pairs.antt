-- A text is read pair by pair. Assumes nothing.
use Rattle.std.proofs.Common.{◌≡◌, ℕ, ◌%◌, ◌<◌, List, [], ◌∷◌, ◌++◌, length, get_or, Some, None, Option, sym, refl, ap, ◌∙◌, append_assoc, length-append, arith}
use Rattle.std.proofs.lemmas.List.{append-nil}
use Rattle.std.specs.Option.{option_map}
use Rattle.hexadecimal.specs.Hex.{byte_value, in_front, unhexed}

-- what is still to come, behind what was read
abbrev pub behind : List ℕ → Option (List ℕ) → Option (List ℕ)
behind before rest = option_map (λ bs. before ++ bs) rest

-- an odd number of codes writes nothing
nothing : (b : Option ℕ) → None ≡ in_front b None
nothing None = refl
nothing (Some b) = refl

pub odd_none : (text : List ℕ) → (length text % 2 ≡ 0 → ⊥) → None ≡ unhexed text
odd_none [] h = absurd (h refl)
odd_none (c ∷ []) h = refl
odd_none (c ∷ d ∷ text) h = nothing (byte_value c d) ∙ ap (in_front (byte_value c d)) (odd_none text (λ e. h (omega (arith, e))))

joined : (before : List ℕ) (b : ℕ) (rest : Option (List ℕ)) → behind before (option_map (λ bs. b ∷ bs) rest) ≡ behind (before ++ (b ∷ [])) rest
joined before b None = refl
joined before b (Some bs) = ap Some (sym (append_assoc before (b ∷ []) bs))

-- the next pair of codes: no byte, or one byte more
pub no_byte : (before pair rest : List ℕ) → length pair ≡ 2 → byte_value (get_or pair 0 0) (get_or pair 1 0) ≡ None → behind before (unhexed (pair ++ rest)) ≡ None
no_byte before [] rest l e = absurd (omega arith)
no_byte before (c ∷ []) rest l e = absurd (omega arith)
no_byte before (c ∷ d ∷ []) rest l e = ap (λ b. behind before (in_front b (unhexed rest))) e
no_byte before (c ∷ d ∷ x ∷ xs) rest l e = absurd (omega arith)

pub one_byte : (before pair rest : List ℕ) (b : ℕ) → length pair ≡ 2 → byte_value (get_or pair 0 0) (get_or pair 1 0) ≡ Some b →
    behind before (unhexed (pair ++ rest)) ≡ behind (before ++ (b ∷ [])) (unhexed rest)
one_byte before [] rest b l e = absurd (omega arith)
one_byte before (c ∷ []) rest b l e = absurd (omega arith)
one_byte before (c ∷ d ∷ []) rest b l e = ap (λ o. behind before (in_front o (unhexed rest))) e ∙ joined before b (unhexed rest)
one_byte before (c ∷ d ∷ x ∷ xs) rest b l e = absurd (omega arith)

-- an even number of codes is left
pub still_even : (all pair rest : List ℕ) → all ≡ pair ++ rest → length pair ≡ 2 → length all % 2 ≡ 0 → length rest % 2 ≡ 0
still_even all pair rest e l even = omega (arith, simp length-append at (ap length e))

-- all pairs are read
pub all_read : (before rest : List ℕ) → length rest < 2 → length rest % 2 ≡ 0 → behind before (unhexed rest) ≡ Some before
all_read before [] l e = ap Some (append-nil before)
all_read before (c ∷ rest) l e = absurd (omega arith)
