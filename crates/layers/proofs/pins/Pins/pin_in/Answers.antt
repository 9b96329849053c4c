use Rattle.std.proofs.Common.{◌≡◌, ◌<◌, true, false, length, rules, arith}
use Rattle.std.proofs.lemmas.Grind.{common_steps}
use Rattle.families.specs.Chain.{has}
use Rattle.layers.specs.Pins.{is_inner}
use Rattle.layers.proofs.Listing.{has_is}
use Rattle.layers.proofs.Pinning.{adds, lawful_more}
use Rattle.layers.proofs.pins.Pins.pin_in.Goals as goal

pub invariant_of-self : goal.invariant_of-self
invariant_of-self g c =
    let layer = c.args.self.now in
    let inner : is_inner layer.count c.args.v ≡ true = search rules in
    let new : has layer.pins.items c.args.v ≡ false = grind (arith, common_steps, has_is) in
    let room : length layer.pins.items < 32 = grind (arith, common_steps) in
    record { lawful = rw c.push.ensures.items (lawful_more layer.count c.args.v layer.pins.items layer.lawful inner new room) }

pub returns-clause-pins_more : goal.returns-clause-pins_more
returns-clause-pins_more g c = rw c.push.ensures.items (adds c.args.v c.args.self.now.pins.items)
