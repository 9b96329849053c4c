-- What a search found, by the measure's own answers. Assumes nothing.
use Rattle.std.proofs.Common.{◌≡◌, ℕ, ◌+◌, ◌-◌, ◌<◌, ◌≤◌, Bool, cond, List, length, get_or, drop, sym, refl, ap, ◌∙◌, subst, ap₂, ⊎_elim, arith}
use Rattle.std.proofs.lemmas.List.{get_or-drop, get_or_default, length-drop, same_lists}
use Rattle.std.proofs.lemmas.Bool.{cases_lt, le-ltb, lt-ltb}
use Rattle.families.specs.Price as prices
use Rattle.families.specs.Family.{total}
use Rattle.families.specs.Least.{L, first_least}
use Rattle.families.specs.Stay.{stay}
use Rattle.families.proofs.LeastTotal.{L_end}
use Rattle.families.proofs.FirstLeast.{stands}
use Rattle.families.proofs.NothingSmaller.{nothing_smaller}
use Rattle.families.proofs.Stays.{say_all, staying_same, stays_least}
use Rattle.lines.specs.Line.{Lawful}
use Rattle.lines.specs.Level.{LawfulLevels}
use Rattle.lines.specs.declared.level.Level.{Level}
use Rattle.lines.specs.declared.vertex.Vertex.{Vertex}
use Rattle.measures.specs.Measure.{Answer, Rules, allowed_by}
use Rattle.tables.specs.Grade.{Graded, first_level, by_grade}
use Rattle.tables.specs.Row.{TableHolds}
use Rattle.tables.proofs.Grades.{tells, reaches_allowed}
use Rattle.search.specs.Search.{Cells, Least}
use Rattle.search.proofs.Agreeing.{least_same, stays_same}
use Rattle.search.proofs.Lawful.{rising_allowed, next_allowed}

-- the cells from a place on are as they were
pub kept_from : {X : Type 0} (d : X) (before after : List X) (start : ℕ) → length after ≡ length before →
    ((y : ℕ) → start ≤ y → get_or after y d ≡ get_or before y d) → drop start after ≡ drop start before
kept_from d before after start e kept =
    same_lists (drop start after) (drop start before) (length-drop start after ∙ ap (λ z. z - start) e ∙ sym (length-drop start before))
    (λ k x h.
    let in_after : start + k < length after = omega (arith, length-drop start after) in
    get_or-drop start after k x ∙ get_or_default after (start + k) x d in_after ∙ kept (start + k) (omega arith) ∙
    get_or_default before (start + k) d x (omega arith) ∙ sym (get_or-drop start before k x))

module _ {P : Type 0} (K : prices.Kind P) (price : ℕ → ℕ → ℕ → P) (largest : ℕ) (says : Answer) (rules : Rules largest says) (vs : List Vertex) (line : Lawful vs)
    (ls : List Level) (levels : LawfulLevels largest ls) where
  abbrev n : ℕ
  n = length vs

  abbrev m : ℕ
  m = length ls

  abbrev allowed : ℕ → ℕ → ℕ → Bool
  allowed = allowed_by says vs ls

  -- the grade table as the code has it
  module _ (grades table : List ℕ) (tn tm : ℕ) (a : table ≡ grades) (b : tn ≡ n) (c : tm ≡ m) (graded : Graded says vs ls grades) where
    agree : (k i j : ℕ) → 1 ≤ k → k ≤ m → i < j → j < n → by_grade table tn tm k i j ≡ allowed k i j
    agree k i j p q r s =
        ap₂ (λ x y. by_grade x y tm k i j) a b ∙ ap (λ z. by_grade grades n z k i j) c ∙
        reaches_allowed allowed m n i j (first_level grades n m i j) (tells grades n m i j says vs ls refl refl graded) r s
        (λ x y. rising_allowed largest ls levels says rules vs line i j x y) k p q

    pub total_so : (sum : P) → sum ≡ L K price (by_grade table tn tm) m 0 (n - 1) → sum ≡ L K price allowed m 0 (n - 1)
    total_so sum e = e ∙ least_same K price (by_grade table tn tm) allowed m n agree m (omega arith) 0 (n - 1) (omega arith) (omega (arith, line.0.0))

    pub cells_so : (prices' : List P) (stays : List ℕ) → TableHolds K price (by_grade table tn tm) prices' n m →
        ((v : ℕ) → v < n → get_or stays v 0 ≡ stay (first_least K price (by_grade table tn tm) m n) m v) → Cells K price allowed m n grades prices' stays
    cells_so prices' stays whole stayed = record {
      graded = graded;
      priced = λ k i j p q r s. whole k i p q r j s ∙ ⊎_elim
          (λ (l : i < j).
          least_same K price (by_grade table tn tm) allowed m n agree k q i j (omega arith) s ∙
          sym (ap (λ x. cond x (L K price allowed k i j) K.neutral) (lt-ltb i j l)))
          (λ (l : j ≤ i).
          L_end K price (by_grade table tn tm) k i j l ∙ sym (ap (λ x. cond x (L K price allowed k i j) K.neutral) (le-ltb i j l)))
          (cases_lt i j);
      stayed = λ v h. stayed v h ∙ stays_same K price (by_grade table tn tm) allowed m n agree line.0.0 v;
    }

  -- the family that is read off the stays
  pub least_so : prices.Rules K → (stays : List ℕ) (sum : P) → ((v : ℕ) → v < n → get_or stays v 0 ≡ stay (first_least K price allowed m n) m v) →
      sum ≡ L K price allowed m 0 (n - 1) → Least K price allowed m n stays sum
  least_so law stays sum stayed e =
      let near = next_allowed largest ls levels says rules vs line in
      let family = first_least K price allowed m n in
      let read = λ (v : ℕ). get_or stays v 0 in
      let some : 1 ≤ n = omega (arith, line.0.0) in
      let r = stays_least law price allowed m n some near read stayed in
      let first = stands law price allowed m n near in
      record {
        family = r.0;
        first_of_all = λ k p q. staying_same n read (stay family m) stayed k n 0 (omega arith) ∙ say_all allowed m n family some first.0 k p q;
        totals = ap K.form e ∙ sym r.1;
        nothing_smaller = λ chain fam. subst (λ z. prices.NotDearer K z (total K price m chain)) (sym e) (nothing_smaller law price allowed m n chain fam);
      }
