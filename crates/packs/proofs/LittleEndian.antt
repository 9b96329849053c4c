-- Numbers written in bytes and read back. Assumes nothing.
use Rattle.std.proofs.Common.{◌≡◌, ℕ, zero, suc, ◌+◌, ◌*◌, ◌/◌, ◌%◌, ◌^◌, ◌<◌, ◌≤◌, List, [], ◌∷◌, ◌++◌, length, take, drop, sym, refl, ap, ◌∙◌, pow-suc, arith, length-drop, take-add}
use Rattle.std.proofs.lemmas.Nat.{div_below}
use Rattle.std.proofs.lemmas.List.{take_at, get_or-drop}
use Rattle.packs.specs.Bytes.{Octets, little, le, field}

pub length_le : (w n : ℕ) → length (le w n) ≡ w
length_le zero n = refl
length_le (suc w) n = ap suc (length_le w (n / 256))

-- reading what was written
pub little_le : (w n : ℕ) → n < 256 ^ w → little (le w n) ≡ n
little_le zero n h = omega arith
little_le (suc w) n h =
    let s = pow-suc 256 w in
    let e = little_le w (n / 256) (div_below n 256 (256 ^ w) (omega arith) (omega arith)) in
    omega arith

-- parts of byte strings are byte strings
pub octets_drop : (p : ℕ) (bs : List ℕ) → Octets bs → Octets (drop p bs)
octets_drop p bs o = λ i. rw (get_or-drop p bs i 0) (o (p + i))

pub octets_take : (w : ℕ) (bs : List ℕ) → Octets bs → Octets (take w bs)
octets_take zero bs o i = omega arith
octets_take (suc w) [] o i = omega arith
octets_take (suc w) (b ∷ bs) o zero = o 0
octets_take (suc w) (b ∷ bs) o (suc i) = octets_take w bs (λ k. o (suc k)) i

-- writing what was read
pub le_take : (w : ℕ) (bs : List ℕ) → Octets bs → w ≤ length bs → le w (little (take w bs)) ≡ take w bs
le_take zero bs o h = refl
le_take (suc w) [] o h = absurd (omega arith)
le_take (suc w) (b ∷ bs) o h =
    let s : b < 256 = o 0 in
    let m : (b + 256 * little (take w bs)) % 256 ≡ b = omega arith in
    let d : (b + 256 * little (take w bs)) / 256 ≡ little (take w bs) = omega arith in
    rw (m, d, le_take w bs (λ i. o (suc i)) (omega arith)) refl

pub take_small : (w : ℕ) (bs : List ℕ) → Octets bs → little (take w bs) < 256 ^ w
take_small zero bs o = omega arith
take_small (suc w) [] o = let a = take_small w [] o in let s = pow-suc 256 w in omega arith
take_small (suc w) (b ∷ bs) o =
    let a : b < 256 = o 0 in
    let r = take_small w bs (λ i. o (suc i)) in
    let s = pow-suc 256 w in
    omega arith

pub field_small : (w p : ℕ) (bs : List ℕ) → Octets bs → field w p bs < 256 ^ w
field_small w p bs o = take_small w (drop p bs) (octets_drop p bs o)

pub le_field : (w p : ℕ) (bs : List ℕ) → Octets bs → p + w ≤ length bs → le w (field w p bs) ≡ take w (drop p bs)
le_field w p bs o h = le_take w (drop p bs) (octets_drop p bs o) (rw (length-drop p bs) (omega arith))

-- two numbers in a row
pub le_fields : (v w : ℕ) (bs : List ℕ) → Octets bs → v + w ≤ length bs → le v (field v 0 bs) ++ le w (field w v bs) ≡ take (v + w) bs
le_fields v w bs o h =
    ap (λ xs. xs ++ le w (field w v bs)) (le_field v 0 bs o (omega arith)) ∙ ap (λ xs. take v bs ++ xs) (le_field w v bs o h) ∙ sym (take-add v w bs)

-- a number that stands in front
pub field_front : (w n : ℕ) (xs : List ℕ) → n < 256 ^ w → field w 0 (le w n ++ xs) ≡ n
field_front w n xs h = ap little (take_at (le w n) xs w (length_le w n)) ∙ little_le w n h
