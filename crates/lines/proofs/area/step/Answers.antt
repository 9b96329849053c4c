use Rattle.std.proofs.Common.{◌≡◌, ◌≤◌, ◌-ℤ◌, ◌*ℤ◌, nat_abs, ◌∙◌, ap₂, arith, w16, SFits, rules}
use Rattle.lines.proofs.Integers.{coordinates, minus_back, minus_fits, nat_abs_sub}
use Rattle.lines.proofs.area.step.Goals as goal

-- the two products
first : (c : goal.After-product-2) → (c.product.result ≡ c.args.p.x *ℤ c.args.q.y) × (nat_abs c.product.result ≤ 1073741824)
first c =
    let f : SFits w16 c.args.p.x = search rules in
    let g : SFits w16 c.args.q.y = search rules in
    coordinates c.product.result c.args.p.x c.args.q.y f g c.product.ensures

second : (c : goal.After-product-2) → (c.product-2.result ≡ c.args.q.x *ℤ c.args.p.y) × (nat_abs c.product-2.result ≤ 1073741824)
second c =
    let f : SFits w16 c.args.q.x = search rules in
    let g : SFits w16 c.args.p.y = search rules in
    coordinates c.product-2.result c.args.q.x c.args.p.y f g c.product-2.ensures

pub overflow_sub-result : goal.overflow_sub-result
overflow_sub-result c = minus_fits c.product.result c.product-2.result (omega (arith, (first c).1, (second c).1))

pub returns : goal.returns
returns c =
    let a = first c in
    let b = second c in
    let e = minus_back c.product.result c.product-2.result (omega (arith, a.1, b.1)) in
    record {
      value = e ∙ ap₂ ◌-ℤ◌ a.0 b.0;
      bound = rw e (omega (arith, nat_abs_sub c.product.result c.product-2.result, a.1, b.1));
    }
