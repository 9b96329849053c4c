-- Chains of vertex numbers and their links. Assumes nothing.
use Rattle.std.specs.Prelude.{◌≡◌, ℕ, ◌-◌, ◌<◌, Bool, false, ◌||◌, ◌⊎◌, List, [], ◌∷◌, ◌==◌}

-- The numbers vs continue a rise from i to j: each is above the one before it, and the last is j.
abbrev pub Rises : ℕ → ℕ → List ℕ → Type 0
Rises i j [] = i ≡ j
Rises i j (v ∷ vs) = (i < v) × Rises v j vs

-- A chain of a line of n vertices rises strictly from 0 to n - 1.
abbrev pub Chain : ℕ → List ℕ → Type 0
Chain n [] = ⊥
Chain n (v ∷ vs) = (v ≡ 0) × Rises v (n - 1) vs

-- The chain has the vertex v.
abbrev pub Has : List ℕ → ℕ → Type 0
Has [] v = ⊥
Has (x ∷ xs) v = (v ≡ x) ⊎ Has xs v

-- The links from v onwards.
abbrev pub links_from : ℕ → List ℕ → List (ℕ × ℕ)
links_from v [] = []
links_from v (w ∷ ws) = (v, w) ∷ links_from w ws

-- The links of a chain: every two numbers that follow one another.
abbrev pub links : List ℕ → List (ℕ × ℕ)
links [] = []
links (v ∷ vs) = links_from v vs

-- Whether the chain has the vertex v.
abbrev pub has : List ℕ → ℕ → Bool
has [] v = false
has (x ∷ xs) v = v == x || has xs v
