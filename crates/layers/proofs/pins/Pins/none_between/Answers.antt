use Rattle.std.proofs.Common.{◌&&◌, not, ltb, sym, ap, ◌∙◌, rules, tests}
use Rattle.std.proofs.lemmas.Iterator.{YieldsList-from_slice}
use Rattle.std.proofs.lemmas.Iterator.Search.{any_from_yields_List}
use Rattle.layers.proofs.Listing.{clear_is}
use Rattle.layers.proofs.pins.Pins.none_between.Goals as goal

pub returns : goal.returns
returns g c =
    let pins = c.args.self.now.pins.items in
    ap not (any_from_yields_List (λ p. ltb c.args.i p && ltb p c.args.j) _ _ _ c.any.ensures.ran (YieldsList-from_slice pins cc) (λ x b q k. search (rules, tests))) ∙
    sym (clear_is pins c.args.i c.args.j)
