-- Families under the layer of pins. Assumes nothing.
use Rattle.std.proofs.Common.{◌≡◌, ℕ, ◌+◌, ◌-◌, true, T, List, length, sym, subst, add-one, arith}
use Rattle.families.specs.Theorems.{NextAllowed}
use Rattle.families.proofs.Pinning.{pins_on_family}
use Rattle.families.proofs.MorePins.{more_pins}
use Rattle.lines.specs.Line.{Lawful}
use Rattle.lines.specs.Level.{level_of, LawfulLevels}
use Rattle.lines.specs.declared.vertex.Vertex.{Vertex}
use Rattle.lines.specs.declared.level.Level.{Level}
use Rattle.measures.specs.Measure.{Answer, Rules, allowed_by}
use Rattle.layers.specs.Theorems.{PinsInLayer, MorePinsInLayer}

-- under lawful levels every level allows the link to the next vertex
next_allowed : (largest : ℕ) (says : Answer) → Rules largest says → (vs : List Vertex) (ls : List Level) → Lawful vs → LawfulLevels largest ls →
    NextAllowed (allowed_by says vs ls) (length ls) (length vs)
next_allowed largest says rules vs ls line lawful k i a b c =
    let q : says vs i (i + 1) (level_of ls k).tolerance ≡ true =
    rules.next_allowed vs i (level_of ls k).tolerance line (omega arith) (lawful.bounded (k - 1) (omega arith)) in
    subst (λ z. T (says vs i z (level_of ls k).tolerance)) (add-one i) (subst T (sym q) tt)

pub pins_in_layer : PinsInLayer
pins_in_layer says vs ls chain pins inner = pins_on_family (allowed_by says vs ls) (length ls) (length vs) chain pins inner

pub more_pins_in_layer : {P : Type 0} → MorePinsInLayer P
more_pins_in_layer K prices price largest says rules vs ls line lawful fewer more sub =
    more_pins prices price (allowed_by says vs ls) (length ls) (length vs) (next_allowed largest says rules vs ls line lawful) fewer more sub
