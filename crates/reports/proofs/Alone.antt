-- A level alone is never dearer than within a family. Assumes nothing.
use Rattle.std.proofs.Common.{◌≡◌, ℕ, ◌≤◌, T, List, [], ◌∷◌, length, refl, ap, subst, arith}
use Rattle.std.specs.List.{AllByRecursion}
use Rattle.families.specs.Price.{Kind, Rules, NotDearer}
use Rattle.families.specs.Chain.{links}
use Rattle.families.specs.Family.{Family, cost}
use Rattle.families.proofs.Algebra.{unit_r}
use Rattle.families.proofs.NothingSmaller.{nothing_smaller}
use Rattle.lines.specs.Level.{level_of}
use Rattle.lines.specs.declared.level.Level.{Level}
use Rattle.lines.specs.declared.vertex.Vertex.{Vertex}
use Rattle.measures.specs.Measure.{Answer, allowed_by}
use Rattle.prices.specs.Price.{LinkPrice, price_by}
use Rattle.reports.specs.Row.{least_alone}

module _ {P : Type 0} {K : Kind P} (rules : Rules K) (link : LinkPrice P) (says : Answer) (vs : List Vertex) (ls : List Level) (chain : ℕ → List ℕ)
    (family : Family (allowed_by says vs ls) (length ls) (length vs) chain) (k : ℕ) (one : 1 ≤ k) (few : k ≤ length ls) where
  abbrev alone : List Level
  alone = level_of ls k ∷ []

  -- the chain of the level is a family of this level alone
  family_alone : Family (allowed_by says vs alone) 1 (length vs) (λ _. chain k)
  family_alone = record {
    chains = λ j p q. family.chains k one few;
    nested = λ j p q v h. absurd (omega arith);
    links_allowed = λ j p q.
        let first : 1 ≡ j = omega arith in
        subst (λ i. AllByRecursion (λ l. T (allowed_by says vs alone i l.0 l.1)) (links (chain k))) first (family.links_allowed k one few);
  }

  -- its links cost the same
  cost_alone : (xs : List (ℕ × ℕ)) → cost K (price_by link vs alone) 1 xs ≡ cost K (λ _ i j. link vs i j (level_of ls k).weight) 0 xs
  cost_alone [] = refl
  cost_alone (x ∷ xs) = ap (K.join (link vs x.0 x.1 (level_of ls k).weight)) (cost_alone xs)

  pub alone_no_dearer : NotDearer K (least_alone K link says vs (level_of ls k)) (cost K (λ _ i j. link vs i j (level_of ls k).weight) 0 (links (chain k)))
  alone_no_dearer =
      let price = price_by link vs alone in
      let smaller = nothing_smaller rules price (allowed_by says vs alone) 1 (length vs) (λ _. chain k) family_alone in
      let joined = (unit_r rules (cost K price 1 (links (chain k)))).to.le in
      subst (NotDearer K (least_alone K link says vs (level_of ls k))) (cost_alone (links (chain k)))
      (rules.transitive _ _ _ smaller joined)
