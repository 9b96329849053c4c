-- From the memory of a search to a drawing. Assumes nothing.
use Rattle.std.proofs.Common.{◌≡◌, ℕ, ◌<◌, ◌≤◌, Bool, List, get_or, sym, ap, ◌∙◌, arith}
use Rattle.families.specs.Price.{Kind}
use Rattle.families.specs.Stay.{read_off}
use Rattle.families.proofs.Stays.{staying_same, family_same, total_same}
use Rattle.search.specs.Search.{Least}

-- stays that agree on the vertices of the line say the same family
module _ {P : Type 0} (K : Kind P) (price : ℕ → ℕ → ℕ → P) (allowed : ℕ → ℕ → ℕ → Bool) (m n : ℕ) (stays front : List ℕ) (sum : P)
    (same : (v : ℕ) → v < n → get_or front v 0 ≡ get_or stays v 0) where
  abbrev all_chains : ℕ → List ℕ
  all_chains = read_off (λ v. get_or stays v 0) n

  abbrev front_chains : ℕ → List ℕ
  front_chains = read_off (λ v. get_or front v 0) n

  same_chains : (k : ℕ) → 1 ≤ k → k ≤ m → front_chains k ≡ all_chains k
  same_chains k a b = staying_same n (λ v. get_or front v 0) (λ v. get_or stays v 0) same k n 0 (omega arith)

  pub least_front : Least K price allowed m n stays sum → Least K price allowed m n front sum
  least_front least = record {
    family = family_same allowed m n all_chains front_chains same_chains least.family;
    first_of_all = λ k a b. same_chains k a b ∙ least.first_of_all k a b;
    totals = least.totals ∙ ap K.form (sym (total_same allowed m n all_chains front_chains same_chains K price m (omega arith)));
    nothing_smaller = least.nothing_smaller;
  }
