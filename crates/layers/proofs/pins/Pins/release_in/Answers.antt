use Rattle.std.proofs.Common.{sym, ◌∙◌, rules}
use Rattle.layers.proofs.Listing.{found}
use Rattle.layers.proofs.Pinning.{takes_out, lawful_less}
use Rattle.layers.proofs.pins.Pins.release_in.Goals as goal

pub invariant_of-self : goal.invariant_of-self
invariant_of-self g c =
    let layer = c.args.self.now in
    let there = found layer.pins.items c.args.v c.in-Some.place (sym c.place.ensures ∙ c.in-Some.is) in
    record { lawful = rw (c.remove.ensures.items, there.1) (lawful_less layer.count c.args.v layer.pins.items layer.lawful) }

pub returns-clause-layer_after : goal.returns-clause-layer_after
returns-clause-layer_after g c =
    let there = found c.args.self.now.pins.items c.args.v c.in-Some.place (sym c.place.ensures ∙ c.in-Some.is) in
    search rules

pub returns-clause-pins_less : goal.returns-clause-pins_less
returns-clause-pins_less g c =
    let layer = c.args.self.now in
    let there = found layer.pins.items c.args.v c.in-Some.place (sym c.place.ensures ∙ c.in-Some.is) in
    rw (c.remove.ensures.items, there.1) (takes_out c.args.v layer.pins.items layer.lawful.distinct)
