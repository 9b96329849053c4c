-- The least total, and the first family that costs it. Assumes nothing.
use Rattle.std.specs.Prelude.{ℕ, zero, suc, ◌+◌, ◌-◌, Bool, cond, ◌&&◌, List, [], ◌∷◌, ◌++◌, ◌==◌, nat_lt}
use Rattle.families.specs.Price.{Kind, cheaper}

-- A value at i made from the values further on: `end` when i has reached j, else one step from i, in at most d steps.
abbrev pub onward : {X : Type 0} → ℕ → X → (ℕ → (ℕ → X) → X) → ℕ → ℕ → X
onward j end step zero i = end
onward j end step (suc d) i = cond (nat_lt i j) (step i (onward j end step d)) end

-- The first of v, v + 1, .., v + more that passes the test, or the last of them when none before it passes.
abbrev pub first : (ℕ → Bool) → ℕ → ℕ → ℕ
first test v zero = v
first test v (suc more) = cond (test v) v (first test (suc v) more)

module _ {P : Type 0} (K : Kind P) where
  -- The cheapest of f v and of those of f (v + 1), .., f (v + more) that are allowed.
  abbrev pub cheapest : (ℕ → Bool) → (ℕ → P) → ℕ → ℕ → P
  cheapest ok f v zero = f v
  cheapest ok f v (suc more) =
      let before = cheapest ok f v more in
      cond (ok (v + suc more)) (cheaper K before (f (v + suc more))) before

-- `price k i j` is what the link i → j costs at level k, and `allowed k i j` says whether level k allows it.
module _ {P : Type 0} (K : Kind P) (price : ℕ → ℕ → ℕ → P) (allowed : ℕ → ℕ → ℕ → Bool) where
  -- The cheapest way from i to j at level k: one allowed link i → v, the finer levels below it, and what is further on.
  abbrev pub cheapest_link : ℕ → (ℕ → ℕ → P) → ℕ → ℕ → (ℕ → P) → P
  cheapest_link k below j i further =
      cheapest K (allowed k i) (λ v. K.join (K.join (price k i v) (below i v)) (further v)) (suc i) (j - suc i)

  -- The least total of levels 1 to k between the vertices i and j.
  unfoldable pub L : ℕ → ℕ → ℕ → P
  L zero i j = K.neutral
  L (suc k) i j = onward j K.neutral (cheapest_link (suc k) (λ a b. L k a b) j) (j - i) i

  -- The least total of levels 1 to k + 1 between i and j when the first link of level k + 1 is i → v.
  abbrev pub via : ℕ → ℕ → ℕ → ℕ → P
  via k i j v = K.join (K.join (price (suc k) i v) (L k i v)) (L (suc k) v j)

  -- The vertex after i on the way to j at level k + 1: the first by an allowed link over which the least total is paid.
  abbrev pub next : ℕ → ℕ → ℕ → ℕ
  next k i j = first (λ v. allowed (suc k) i v && K.not_dearer (via k i j v) (L (suc k) i j)) (suc i) (j - suc i)

  -- One link of level k + 1 as level l has it, and then on: its end alone at level k + 1, else its vertices of level l.
  abbrev pub fill : ℕ → ℕ → (ℕ → ℕ → List ℕ) → ℕ → ℕ → (ℕ → List ℕ) → List ℕ
  fill k l below j i further = cond (l == suc k) (next k i j ∷ []) (below i (next k i j)) ++ further (next k i j)

  -- The vertices of level l after i and up to j, in the first least family of levels 1 to k between i and j.
  unfoldable pub walk : ℕ → ℕ → ℕ → ℕ → List ℕ
  walk zero l i j = []
  walk (suc k) l i j = onward j [] (fill k l (λ a b. walk k l a b) j) (j - i) i

  -- The chain of level l of the first least family of m levels on a line of n vertices.
  abbrev pub first_least : ℕ → ℕ → ℕ → List ℕ
  first_least m n l = 0 ∷ walk m l 0 (n - 1)
