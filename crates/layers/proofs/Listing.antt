-- The list of pins, as the library's calls see it. Assumes nothing.
use Rattle.std.proofs.Common.{◌≡◌, ℕ, suc, ◌+◌, true, false, not, ◌&&◌, eqb, ltb, List, [], ◌∷◌, length, Some, None, refl, arith}
use Rattle.std.specs.List.{list_any, position, position_or_len, remove}
use Rattle.std.proofs.lemmas.Bool.Decides.{nat_tests}
use Rattle.families.specs.Chain.{has}
use Rattle.families.specs.Pin.{clear}
use Rattle.layers.specs.Pins.{without}

-- no pin lies between
pub clear_is : (pins : List ℕ) (i j : ℕ) → clear pins i j ≡ not (list_any (λ p. ltb i p && ltb p j) pins)
clear_is [] i j = refl
clear_is (p ∷ ps) i j = let more = clear_is ps i j in grind (arith, nat_tests)

-- what `contains` answers
pub has_is : (pins : List ℕ) (v : ℕ) → has pins v ≡ list_any (λ p. eqb p v) pins
has_is [] v = refl
has_is (p ∷ ps) v = let more = has_is ps v in grind (arith, nat_tests)

abbrev first : ℕ → List ℕ → ℕ
first v pins = position_or_len (λ p. eqb p v) pins

-- v is among the pins where its first place is
has_first_place : (pins : List ℕ) (v : ℕ) → has pins v ≡ ltb (first v pins) (length pins)
has_first_place [] v = refl
has_first_place (p ∷ ps) v = let more = has_first_place ps v in grind (arith, nat_tests)

-- and without what stands there they are those without v
without_first : (pins : List ℕ) (v : ℕ) → remove pins (first v pins) ≡ without v pins
without_first [] v = refl
without_first (p ∷ ps) v =
    let one : 1 + first v ps ≡ suc (first v ps) = omega arith in
    let more = without_first ps v in
    grind (arith, nat_tests)

-- what `position` answers
pub found : (pins : List ℕ) (v i : ℕ) → position (λ p. eqb p v) pins ≡ Some i → (has pins v ≡ true) × (remove pins i ≡ without v pins)
found pins v i e =
    let there = has_first_place pins v in
    let others = without_first pins v in
    (grind (arith, nat_tests), grind (arith, nat_tests))

pub missing : (pins : List ℕ) (v : ℕ) → position (λ p. eqb p v) pins ≡ None → has pins v ≡ false
missing pins v e = let there = has_first_place pins v in grind (arith, nat_tests)
