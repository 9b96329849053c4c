use Rattle.std.proofs.Common.{ℕ, Bool, not, ap, ◌∙◌, rules, tests}
use Rattle.std.specs.List.{position_from}
use Rattle.std.proofs.lemmas.Iterator.{YieldsList-from_slice, YieldsList-from_map, YieldsList-from_zip}
use Rattle.std.proofs.lemmas.Iterator.Adapters.{position_from-zero, YieldsList-from_skip}
use Rattle.std.proofs.lemmas.Iterator.Consumers.{YieldsList-at}
use Rattle.std.proofs.lemmas.Iterator.Search.{position_from_yields_List}
use Rattle.packs.specs.Bytes.{little}
use Rattle.marker.proofs.Numbers.{zip_links}
use Rattle.marker.proofs.level.first_forbidden.Goals as goal

pub returns : goal.returns
returns g c =
    let ps = c.args.chain.numbers.now in
    let forbids : ℕ × ℕ → Bool = λ l. not (g.M.Measure.says c.args.measure.now c.args.line.now.vertices.now l.0 l.1 c.args.t) in
    position_from_yields_List forbids c.position.new.self _ c.position.result c.position.ensures.ran
    (YieldsList-from_zip (YieldsList-at c.zip.ensures.first (YieldsList-from_map _ little (YieldsList-from_slice ps cc) c.map-from.ensures.closure (λ x r q k. search rules)))
    (YieldsList-at c.zip.ensures.second (YieldsList-from_map _ little (YieldsList-at c.map-to.ensures.source (YieldsList-from_skip 1 (YieldsList-from_slice ps (cc)) c.skip.ensures.count)) c.map-to.ensures.closure (λ x r q k. search rules))))
    (λ x b q k. search (rules, tests))
    ∙ position_from-zero forbids _ ∙ ap (position_from forbids 0) (zip_links ps)
