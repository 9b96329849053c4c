-- The lines of a report, one more at a time. Assumes nothing.
use Rattle.std.proofs.Common.{◌≡◌, ℕ, ◌+◌, ◌<◌, ◌≤◌, List, ◌++◌, length, get_or, take, sym, ap, ◌∙◌}
use Rattle.std.specs.List.{flat_map}
use Rattle.std.proofs.lemmas.List.{append_assoc, take_more, take_all, flat_map_more}
use Rattle.reports.specs.declared.row.Row.{Row}

-- a row of zeros
abbrev pub blank : Row
blank = record { level = 0; tolerance = 0; weight = 0; links = 0; kept = 0; share = 0; longest = 0; enough = 0; price = (0, 0); alone = (0, 0) }

module _ {X : Type 0} (f : X → List ℕ) (xs : List X) (head : List ℕ) where
  -- one line more
  pub one_line : (i : ℕ) (d : X) (before after : List ℕ) → i < length xs → before ≡ head ++ flat_map f (take i xs) → after ≡ before ++ f (get_or xs i d) →
      after ≡ head ++ flat_map f (take (i + 1) xs)
  one_line i d before after h b a =
      a ∙ ap (λ ys. ys ++ f (get_or xs i d)) b ∙ flat_map_more f head (take i xs) (get_or xs i d) ∙ ap (λ ys. head ++ flat_map f ys) (sym (take_more xs i d h))

  -- all lines, and what follows them
  pub all_lines : (i : ℕ) (before more after first second : List ℕ) → length xs ≤ i → before ≡ head ++ flat_map f (take i xs) → more ≡ before ++ first → after ≡ more ++ second →
      after ≡ head ++ (flat_map f xs ++ (first ++ second))
  all_lines i before more after first second h b m a =
      let all : before ≡ head ++ flat_map f xs = b ∙ ap (λ ys. head ++ flat_map f ys) (take_all i xs h) in
      a ∙ ap (λ ys. ys ++ second) (m ∙ ap (λ ys. ys ++ first) all) ∙ append_assoc (head ++ flat_map f xs) first second ∙ append_assoc head (flat_map f xs) (first ++ second)
