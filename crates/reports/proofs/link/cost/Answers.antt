use Rattle.std.proofs.Common.{rules, ◌≡◌, ℕ, reverse, ap, ◌∙◌}
use Rattle.std.specs.List.{fold}
use Rattle.std.proofs.lemmas.Iterator.Adapters.{YieldsList-from_rev_slice}
use Rattle.std.proofs.lemmas.Iterator.Consumers.{fold_from_yields_List}
use Rattle.reports.proofs.Links.{joined, cost_back}
use Rattle.reports.proofs.link.cost.Goals as goal

pub returns : goal.returns
returns g c =
    let K = g.P.Price.kind in
    let links = c.args.links.now in
    let price = λ (_ i j : ℕ). g.P.Price.link c.args.line.now.vertices.now i j c.args.weight in
    let folded : c.fold.result ≡ fold (joined K price 0) c.neutral.result (reverse links) =
    fold_from_yields_List _ (joined K price 0) c.neutral.result c.fold.result c.fold.ensures.ran (YieldsList-from_rev_slice links (cc)) (λ a x b q k. search rules) in
    folded ∙ ap (λ z. fold (joined K price 0) z (reverse links)) c.neutral.ensures ∙ cost_back K price 0 links
