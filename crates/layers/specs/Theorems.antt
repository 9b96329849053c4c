-- What is proved of families under the layer of pins. Assumes nothing.
use Rattle.std.specs.Prelude.{ℕ, ◌-◌, ◌≤◌, ◌↔◌, List, length}
use Rattle.families.specs.Price.{Kind, Rules as PriceRules, NotDearer}
use Rattle.families.specs.Chain.{Has}
use Rattle.families.specs.Family.{Family}
use Rattle.families.specs.Pin.{Inner, HasPins}
use Rattle.families.specs.Least.{L}
use Rattle.lines.specs.Line.{Lawful}
use Rattle.lines.specs.Level.{LawfulLevels}
use Rattle.lines.specs.declared.vertex.Vertex.{Vertex}
use Rattle.lines.specs.declared.level.Level.{Level}
use Rattle.measures.specs.Measure.{Answer, Rules, allowed_by}
use Rattle.layers.specs.Pins.{over_pins}

-- The families under the layer of pins are exactly the families, under the measure below, each of whose chains has every pin.
abbrev pub PinsInLayer : Type 0
PinsInLayer =
    (says : Answer) (vs : List Vertex) (ls : List Level) (chain : ℕ → List ℕ) (pins : List ℕ) → Inner (length vs) pins →
    Family (allowed_by (over_pins pins says) vs ls) (length ls) (length vs) chain ↔
    (Family (allowed_by says vs ls) (length ls) (length vs) chain × ((k : ℕ) → 1 ≤ k → k ≤ length ls → HasPins pins (chain k)))

-- With more pins in the layer the least total of a lawful line under lawful levels is no cheaper.
abbrev pub MorePinsInLayer : Type 0 → Type 0
MorePinsInLayer P =
    (K : Kind P) → PriceRules K → (price : ℕ → ℕ → ℕ → P) (largest : ℕ) (says : Answer) → Rules largest says →
    (vs : List Vertex) (ls : List Level) → Lawful vs → LawfulLevels largest ls →
    (fewer more : List ℕ) → ((p : ℕ) → Has fewer p → Has more p) →
    NotDearer K (L K price (allowed_by (over_pins fewer says) vs ls) (length ls) 0 (length vs - 1))
    (L K price (allowed_by (over_pins more says) vs ls) (length ls) 0 (length vs - 1))
