-- Pins: vertices that every chain must have. Assumes nothing.
use Rattle.std.specs.Prelude.{ℕ, ◌-◌, ◌<◌, Bool, true, not, ◌&&◌, List, [], ◌∷◌, nat_lt}
use Rattle.std.specs.List.{AllByRecursion}
use Rattle.families.specs.Chain.{Has, links}

-- A link skips the vertices strictly between its ends.
abbrev pub Skips : ℕ × ℕ → ℕ → Type 0
Skips l p = (l.0 < p) × (p < l.1)

-- No pin lies strictly between i and j.
abbrev pub clear : List ℕ → ℕ → ℕ → Bool
clear [] i j = true
clear (p ∷ ps) i j = not (nat_lt i p && nat_lt p j) && clear ps i j

-- What is allowed under pins: what is allowed without them and skips none.
abbrev pub pinned : List ℕ → (ℕ → ℕ → ℕ → Bool) → ℕ → ℕ → ℕ → Bool
pinned pins allowed k i j = allowed k i j && clear pins i j

-- Pins are inner vertices of a line of n vertices.
abbrev pub Inner : ℕ → List ℕ → Type 0
Inner n pins = (p : ℕ) → Has pins p → (0 < p) × (p < n - 1)

-- The chain has every pin.
abbrev pub HasPins : List ℕ → List ℕ → Type 0
HasPins pins chain = (p : ℕ) → Has pins p → Has chain p

-- No link of the chain skips a pin.
abbrev pub SkipsNone : List ℕ → List ℕ → Type 0
SkipsNone pins chain = AllByRecursion (λ l. (p : ℕ) → Has pins p → ¬ Skips l p) (links chain)
