-- Under lawful levels, what a measure allows at a level it allows at the levels after it. Assumes nothing.
use Rattle.std.proofs.Common.{◌≡◌, ℕ, zero, suc, ◌+◌, ◌-◌, ◌<◌, ◌≤◌, true, T, List, length, get_or, sym, subst, add-one, arith}
use Rattle.families.specs.Theorems.{NextAllowed}
use Rattle.lines.specs.Line.{Lawful}
use Rattle.lines.specs.Level.{level, level_of, LawfulLevels}
use Rattle.lines.specs.declared.level.Level.{Level}
use Rattle.lines.specs.declared.vertex.Vertex.{Vertex}
use Rattle.measures.specs.Measure.{Answer, Rules, allowed_by}
use Rattle.tables.proofs.Grades.{yes_is}

module _ (largest : ℕ) (ls : List Level) (lawful : LawfulLevels largest ls) where
  abbrev tolerance : ℕ → ℕ
  tolerance i = (get_or ls i (level 0 0)).tolerance

  rising_by : (i d : ℕ) → i + d < length ls → tolerance i ≤ tolerance (i + d)
  rising_by i zero h = let e : i ≡ i + 0 = omega arith in subst (λ z. tolerance i ≤ tolerance z) e (omega arith)
  rising_by i (suc d) h =
      let e : suc (i + d) ≡ i + suc d = omega arith in
      let below = rising_by i d (omega arith) in
      let step = lawful.rising (i + d) (omega arith) in
      subst (λ z. tolerance i ≤ tolerance z) e (omega (arith, below, step))

  pub rising_levels : (k l : ℕ) → 1 ≤ k → k ≤ l → l ≤ length ls → (level_of ls k).tolerance ≤ (level_of ls l).tolerance
  rising_levels k l a b c =
      let e : k - 1 + (l - k) ≡ l - 1 = omega arith in
      subst (λ z. tolerance (k - 1) ≤ tolerance z) e (rising_by (k - 1) (l - k) (omega arith))

  module _ (says : Answer) (rules : Rules largest says) (vs : List Vertex) (line : Lawful vs) where
    pub rising_allowed : (i j k l : ℕ) → 1 ≤ k → k ≤ l → l ≤ length ls → T (allowed_by says vs ls k i j) → T (allowed_by says vs ls l i j)
    rising_allowed i j k l a b c t =
        subst T (sym (rules.stays_allowed vs i j (level_of ls k).tolerance (level_of ls l).tolerance line (rising_levels k l a b c)
        (lawful.bounded (l - 1) (omega arith)) (yes_is (allowed_by says vs ls k i j) t))) tt

    pub next_allowed : NextAllowed (allowed_by says vs ls) (length ls) (length vs)
    next_allowed k i a b c =
        let q : says vs i (i + 1) (level_of ls k).tolerance ≡ true =
        rules.next_allowed vs i (level_of ls k).tolerance line (omega arith) (lawful.bounded (k - 1) (omega arith)) in
        subst (λ z. T (says vs i z (level_of ls k).tolerance)) (add-one i) (subst T (sym q) tt)
