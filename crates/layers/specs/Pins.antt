-- The layer of pins over a measure. Assumes nothing.
use Rattle.std.specs.Prelude.{◌≡◌, ℕ, ◌-◌, ◌≤◌, Bool, cond, ◌&&◌, ◌⊎◌, ◌↔◌, List, [], ◌∷◌, length, Ok, Err, Result, ◌==◌, nat_le, nat_lt}
use Rattle.std.specs.Set.{remove_key}
use Rattle.std.specs.Coded.{×_prop, Π_prop, →_prop, Unit-prop, le_prop}
use Rattle.families.specs.Chain.{Has, has}
use Rattle.families.specs.Pin.{clear, Inner}
use Rattle.lines.specs.declared.fault.Fault.{Fault}
use Rattle.lines.specs.declared.fault.Cause.TheVariants.{Vertex, Pinned, NotPinned, Full}
use Rattle.lines.specs.declared.fault.Layer.{Layer}
use Rattle.lines.specs.Fault.{fault}
use Rattle.measures.specs.Measure.{Answer}

-- What the layer says: what the measure below says, but no to a link that skips a pin.
abbrev pub over_pins : List ℕ → Answer → Answer
over_pins pins below vs i j t = below vs i j t && clear pins i j

-- v is an inner vertex of a line of n vertices: 1 to n - 2.
abbrev pub is_inner : ℕ → ℕ → Bool
is_inner n v = nat_lt 0 v && nat_lt v (n - 1)

-- What pinning v answers, for the layer that asks: v must be an inner vertex, then not pinned yet, then find one of 32 places.
abbrev pub pin_answer : Layer → ℕ → List ℕ → ℕ → Result (Unit {0}) Fault
pin_answer layer n pins v =
    cond (is_inner n v)
    (cond (has pins v) (Err (fault Pinned layer v)) (cond (nat_le 32 (length pins)) (Err (fault Full layer 0)) (Ok tt)))
    (Err (fault Vertex layer v))

-- What releasing v answers, for the layer that asks: v must be an inner vertex, then pinned.
abbrev pub release_answer : Layer → ℕ → List ℕ → ℕ → Result (Unit {0}) Fault
release_answer layer n pins v =
    cond (is_inner n v) (cond (has pins v) (Ok tt) (Err (fault NotPinned layer v))) (Err (fault Vertex layer v))

-- The pins without the first v.
abbrev pub without : ℕ → List ℕ → List ℕ
without v pins = remove_key (λ p. v == p) pins

-- No number stands in the list twice.
abbrev pub Distinct : List ℕ → Type 0
Distinct [] = Unit {0}
Distinct (p ∷ ps) = (¬ Has ps p) × Distinct ps

-- Lawful pins of a line of n vertices: inner vertices, all distinct, at most 32.
pub record LawfulPins (n : ℕ) (pins : List ℕ) : Type 0 where
  pub inner : Inner n pins
  pub distinct : Distinct pins
  pub few : length pins ≤ 32

-- The pins of a line are lawful in one way only, so that a layer can hold the fact.
Distinct-prop : (pins : List ℕ) → IsProp (Distinct pins)
Distinct-prop [] = Unit-prop
Distinct-prop (p ∷ ps) = ×_prop (→_prop (λ (a b : ⊥). absurd a)) (Distinct-prop ps)

Inner-prop : (n : ℕ) (pins : List ℕ) → IsProp (Inner n pins)
Inner-prop n pins = Π_prop (λ p. →_prop (×_prop le_prop le_prop))

pub LawfulPins-prop : (n : ℕ) (pins : List ℕ) → IsProp (LawfulPins n pins)
LawfulPins-prop n pins a b = λ i. record {
  inner = Inner-prop n pins a.inner b.inner i;
  distinct = Distinct-prop pins a.distinct b.distinct i;
  few = le_prop a.few b.few i;
}

-- The pins after are v and the pins before.
pub record Adds (v : ℕ) (before after : List ℕ) : Type 0 where
  pub pinned : (p : ℕ) → Has after p ↔ ((p ≡ v) ⊎ Has before p)

-- The pins after are the pins before other than v.
pub record TakesOut (v : ℕ) (before after : List ℕ) : Type 0 where
  pub pinned : (p : ℕ) → Has after p ↔ (Has before p × ¬ (p ≡ v))
