-- That a table holds the least totals is told in one way only. Assumes nothing.
use Rattle.std.specs.Prelude.{ℕ, Bool, List}
use Rattle.std.specs.Coded.{Coded, Coded-set, Π_prop}
use Rattle.families.specs.Price.{Kind}
use Rattle.tables.specs.Row.{TableHolds}

pub holds_prop : {P : Type 0} → Coded P → (K : Kind P) (price : ℕ → ℕ → ℕ → P) (allowed : ℕ → ℕ → ℕ → Bool) (cells : List P) (n m : ℕ) →
    IsProp (TableHolds K price allowed cells n m)
holds_prop code K price allowed cells n m =
    Π_prop (λ k. Π_prop (λ i. Π_prop (λ a. Π_prop (λ b. Π_prop (λ c. Π_prop (λ j. Π_prop (λ h. Coded-set code _ _)))))))
