-- The layer of pins after a call that changes them. Assumes nothing.
use Rattle.std.specs.Prelude.{◌≡◌, List, ℕ, is_ok, Result, if◌then◌else◌, OnErr}
use Rattle.lines.specs.declared.fault.Fault.{Fault}
use Rattle.layers.specs.declared.pins.Pins.{Pins}

-- The layer after has the pins `pins` once the call is accepted, and is the layer before once it is refused.
pub record LayerAfter {M : Type 0} (answer : Result (Unit {0}) Fault) (pins : List ℕ) (before after : Pins M) : Type 0 where
  pub pins_after : after.pins.items ≡ (if is_ok answer then pins else before.pins.items)
  pub refusal_leaves_layer : OnErr answer (after ≡ before)
  pub same_measure : after.below ≡ before.below
  pub same_count : after.count ≡ before.count
