use Rattle.std.proofs.Common.{eqb, ◌∙◌, rules, tests}
use Rattle.std.proofs.lemmas.Iterator.{YieldsList-from_slice, YieldsList-from_map}
use Rattle.std.proofs.lemmas.Iterator.Search.{any_from_yields_List}
use Rattle.std.proofs.lemmas.Bool.Decides.{Decides-at}
use Rattle.families.proofs.Rising.{has_means}
use Rattle.packs.specs.Bytes.{little}
use Rattle.marker.specs.Chain.{numbers_of}
use Rattle.marker.proofs.Numbers.{any_has}
use Rattle.marker.proofs.chain.Chain.has_vertex.Goals as goal

pub returns : goal.returns
returns c =
    let xs = numbers_of c.args.self.now in
    let v = c.args.v in
    let e = any_from_yields_List (eqb v) _ _ c.any.result c.any.ensures.ran
    (YieldsList-from_map _ little (YieldsList-from_slice c.args.self.now.numbers.now cc) c.map.ensures.closure (λ x r q k. search rules)) (λ x b q k. search (rules, tests)) ∙ any_has xs v in
    record { value = e; found_exactly = Decides-at _ _ e (has_means xs v) }
