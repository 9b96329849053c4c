use Rattle.std.proofs.Common.{◌≡◌, ◌+◌, ◌-◌, ◌<◌, ◌≤◌, ◌++◌, length, get_or, ap, ap₂, sym, ◌∙◌, arith, inl, inr, ⊎_elim}
use Rattle.std.proofs.lemmas.List.{places}
use borrow.Rule.Slice.PartMut.{put_mid}
use Rattle.tables.specs.Price.{row}
use Rattle.tables.proofs.Parts.{both_in, both_out, own_read, other_read}
use Rattle.tables.proofs.Places.{row_after}
use Rattle.tables.proofs.fill.Filling.update_row.Given.{Over}
use Rattle.tables.proofs.fill.Filling.update_row.Goals as goal

fits : (g : Over) (c : goal.After-cells-2-1 g) →
    c.start-own.result + c.args.v + (c.start-own.result + c.args.self.now.n - (c.start-own.result + c.args.v)) ≤ length c.split_at_mut-front.result.0.now
fits g c =
    let f = c.args.self.now in
    omega (arith, row_after f.n c.args.k c.args.i c.args.v c.requires.ends.0, c.start-own.ensures.value, c.start-from.ensures.value, c.split_at_mut-front.ensures.front_len)

long : (g : Over) (c : goal.After-cells-2-1 g) → length c.update.new.row ≡ c.start-own.result + c.args.self.now.n - (c.start-own.result + c.args.v)
long g c = c.update.auto.row ∙ grind (arith, places, fits g c)

pub returns-clause-inside : goal.returns-clause-inside
returns-clause-inside g c = λ f told j low high.
    let none = g.P.Price.kind.neutral in
    let own = c.start-own.result in
    let a = own + c.args.v in
    let w = own + c.args.self.now.n - a in
    let parts = c.split_at_mut-front.result in
    let front = parts.0.now in
    let back = parts.1.now in
    let cells = c.args.cells.now in
    let is = c.split_at_mut-front.ensures.value in
    let new = c.update.new.row in
    let x = j - c.args.v in
    let in_row : x < w = omega arith in
    let here : a + x ≡ row c.args.self.now.n c.args.k c.args.i + j = omega (arith, c.start-own.ensures.value) in
    let there : length front + x ≡ row c.args.self.now.n c.args.k c.args.v + j = omega (arith, c.start-from.ensures.value, c.split_at_mut-front.ensures.front_len) in
    ap (λ y. get_or (put_mid a w front new ++ back) y none) (sym here) ∙
    both_in a w front new none (long g c) (fits g c) back cells is x in_row ∙
    c.update.ensures f told x (grind (arith, places, fits g c)) ∙
    ap₂ f (own_read a w front new none (long g c) (fits g c) back cells is x in_row ∙ ap (λ y. get_or cells y none) here)
    (other_read a w front new none (long g c) (fits g c) back cells is x ∙ ap (λ y. get_or cells y none) there)

pub returns-clause-outside : goal.returns-clause-outside
returns-clause-outside g c = λ y o.
    let own = c.start-own.result in
    let a = own + c.args.v in
    let w = own + c.args.self.now.n - a in
    let e = c.start-own.ensures.value in
    both_out a w c.split_at_mut-front.result.0.now c.update.new.row g.P.Price.kind.neutral (long g c) (fits g c) c.split_at_mut-front.result.1.now c.args.cells.now
    c.split_at_mut-front.ensures.value y (⊎_elim (λ p. inl (omega (arith, e))) (λ p. inr (omega (arith, e))) o)
