-- First levels under a layer. Assumes nothing.
use Rattle.std.proofs.Common.{◌≡◌, ℕ, ◌-◌, ◌<◌, ◌≤◌, false, ◌⊎◌, List, length, None, Option, sym, ap, ◌∙◌, arith}
use Rattle.std.proofs.lemmas.Bool.{and_right}
use Rattle.std.proofs.lemmas.Bool.Decides.{nat_tests}
use Rattle.families.specs.Pin.{clear}
use Rattle.lines.specs.declared.vertex.Vertex.{Vertex}
use Rattle.lines.specs.declared.level.Level.{Level}
use Rattle.lines.specs.Line.{Lawful}
use Rattle.measures.specs.Measure.{Answer, Rules, level_in, first_allowing}
use Rattle.measures.proofs.Grades.{none_is, same_level}
use Rattle.layers.specs.Pins.{over_pins}
use Rattle.layers.specs.Reach.{over_reach}

-- two measures that say the same of a link allow it from one level on
same_first : (a b : Answer) (vs : List Vertex) (ls : List Level) (i j : ℕ) → ((t : ℕ) → a vs i j t ≡ b vs i j t) → first_allowing a vs ls i j ≡ first_allowing b vs ls i j
same_first a b vs ls i j same = ap (level_in (length ls)) (same_level (a vs i j) (b vs i j) ls same)

-- a link that is allowed at no tolerance has no first level
no_first : (says : Answer) (vs : List Vertex) (ls : List Level) (i j : ℕ) → ((t : ℕ) → says vs i j t ≡ false) → None ≡ first_allowing says vs ls i j
no_first says vs ls i j refuses = none_is (says vs i j) ls (λ k h. refuses _)

module _ (pins : List ℕ) (below : Answer) (vs : List Vertex) (ls : List Level) (i j : ℕ) where
  -- the link skips a pin
  pub first_skips : false ≡ clear pins i j → None ≡ first_allowing (over_pins pins below) vs ls i j
  first_skips e = no_first (over_pins pins below) vs ls i j (λ t. and_right (below vs i j t) (clear pins i j) (sym e))

module _ (r largest : ℕ) (below : Answer) (vs : List Vertex) (ls : List Level) (i j : ℕ) where
  -- the link goes too far
  pub first_far : 1 < j - i → r < j - i → None ≡ first_allowing (over_reach r largest below) vs ls i j
  first_far h k = no_first (over_reach r largest below) vs ls i j (λ t. grind (arith, nat_tests))

  -- it does not: the rules of the measure below say the rest
  pub first_near : (x : Option ℕ) → x ≡ first_allowing below vs ls i j → Rules largest below → Lawful vs → (j - i ≤ 1) ⊎ (j - i ≤ r) → x ≡ first_allowing (over_reach r largest below) vs ls i j
  first_near x is rules lawful near = is ∙ same_first below (over_reach r largest below) vs ls i j same
    where
      same : (t : ℕ) → below vs i j t ≡ over_reach r largest below vs i j t
      same t =
          let links = rules.links_only vs i j t lawful in
          let next = rules.next_allowed vs i t lawful in
          grind (arith, nat_tests)
