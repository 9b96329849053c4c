-- The links of a chain, one by one. Assumes nothing.
use Rattle.std.proofs.Common.{◌≡◌, ℕ, zero, suc, ◌+◌, ◌-◌, ◌<◌, List, [], ◌∷◌, length, get_or, refl, ap, add-one, arith}
use Rattle.families.specs.Chain.{links_from, links}

length_from : (v : ℕ) (ws : List ℕ) → length (links_from v ws) ≡ length ws
length_from v [] = refl
length_from v (w ∷ ws) = ap suc (length_from w ws)

pub length_links : (xs : List ℕ) → length (links xs) ≡ length xs - 1
length_links [] = refl
length_links (x ∷ xs) = omega (arith, length_from x xs)

get_or_from : (v : ℕ) (ws : List ℕ) (i : ℕ) → i < length ws → get_or (links_from v ws) i (0, 0) ≡ (get_or (v ∷ ws) i 0, get_or ws i 0)
get_or_from v [] i h = absurd (omega arith)
get_or_from v (w ∷ ws) zero h = refl
get_or_from v (w ∷ ws) (suc i) h = get_or_from w ws i (omega arith)

pub get_or_links : (xs : List ℕ) (i : ℕ) → i + 1 < length xs → get_or (links xs) i (0, 0) ≡ (get_or xs i 0, get_or xs (i + 1) 0)
get_or_links [] i h = absurd (omega arith)
get_or_links (x ∷ xs) i h = rw (add-one i) (get_or_from x xs i (omega arith))
