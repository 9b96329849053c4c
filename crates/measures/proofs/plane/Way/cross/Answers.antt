use Rattle.std.proofs.Common.{◌≡◌, ◌≤◌, ◌-ℤ◌, ◌*ℤ◌, nat_abs, ◌∙◌, ap₂, arith, w32, SFits, rules}
use Rattle.lines.proofs.Integers.{minus_back, minus_fits, nat_abs_sub}
use Rattle.measures.proofs.Products.{sides}
use Rattle.measures.proofs.plane.Way.cross.Goals as goal

-- the two products
first : (c : goal.After-product-2) → (c.product.result ≡ c.args.self.x *ℤ c.args.other.y) × (nat_abs c.product.result ≤ 1073676289)
first c =
    let f : SFits w32 c.args.self.x = search rules in
    let g : SFits w32 c.args.other.y = search rules in
    sides c.product.result c.args.self.x c.args.other.y f g c.args.self.short.0 c.args.other.short.1 c.product.ensures

second : (c : goal.After-product-2) → (c.product-2.result ≡ c.args.self.y *ℤ c.args.other.x) × (nat_abs c.product-2.result ≤ 1073676289)
second c =
    let f : SFits w32 c.args.self.y = search rules in
    let g : SFits w32 c.args.other.x = search rules in
    sides c.product-2.result c.args.self.y c.args.other.x f g c.args.self.short.1 c.args.other.short.0 c.product-2.ensures

pub overflow_sub-result : goal.overflow_sub-result
overflow_sub-result c = minus_fits c.product.result c.product-2.result (omega (arith, (first c).1, (second c).1))

pub returns : goal.returns
returns c =
    let a = first c in
    let b = second c in
    let e = minus_back c.product.result c.product-2.result (omega (arith, a.1, b.1)) in
    record {
      value = e ∙ ap₂ ◌-ℤ◌ a.0 b.0;
      bound = rw e (omega (arith, nat_abs_sub c.product.result c.product-2.result, a.1, b.1));
    }
