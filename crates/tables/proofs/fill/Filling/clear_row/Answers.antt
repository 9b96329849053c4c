use Rattle.std.proofs.Common.{◌≡◌, ◌+◌, ◌-◌, length, get_or, sym, ap, ◌∙◌, arith, rules}
use Rattle.std.proofs.lemmas.List.{places}
use borrow.Rule.Slice.PartMut.{put_mid}
use Rattle.tables.proofs.Parts.{part_in, filled_by}
use Rattle.tables.proofs.fill.Filling.clear_row.Given.{Over}
use Rattle.tables.proofs.fill.Filling.clear_row.Goals as goal

long : (g : Over) (c : goal.After-cells-1 g) → length c.fill_with.new.self ≡ c.start-own.result + c.args.i + 1 - c.start-own.result
long g c = c.fill_with.ensures.len ∙ grind (arith, places)

pub returns-clause-cleared : goal.returns-clause-cleared
returns-clause-cleared g c = λ j h.
    let none = g.P.Price.kind.neutral in
    let own = c.start-own.result in
    let w = own + c.args.i + 1 - own in
    ap (λ o. get_or (put_mid own w c.args.cells.now c.fill_with.new.self) (o + j) none) (sym c.start-own.ensures.value) ∙
    part_in own w c.args.cells.now c.fill_with.new.self none (long g c) (omega (arith, c.start-own.ensures.inside)) j (omega arith) ∙
    filled_by none (λ q. q.0.now ≡ none) (λ q y v i r. (search rules, search rules)) _ c.fill_with.new.self _ c.neutral-none.ensures c.fill_with.ensures.ran.1 j
    (omega (arith, long g c))
