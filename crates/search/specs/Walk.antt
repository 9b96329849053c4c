-- The vertices between two others in the first least family. Assumes nothing.
use Rattle.std.specs.Prelude.{ℕ, Bool, ◌∷◌}
use Rattle.families.specs.Price.{Kind}
use Rattle.families.specs.Least.{walk}
use Rattle.families.specs.Stay.{stay}

-- The stay of v in the first least family of the levels 1 to k between i and j.
abbrev pub stay_between : {P : Type 0} → Kind P → (ℕ → ℕ → ℕ → P) → (ℕ → ℕ → ℕ → Bool) → ℕ → ℕ → ℕ → ℕ → ℕ
stay_between K price allowed k i j v = stay (λ l. i ∷ walk K price allowed k l i j) k v
