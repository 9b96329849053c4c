use Rattle.std.proofs.Common.{subst, rules, arith}
use Rattle.marker.specs.Wrote.{Wrote}
use Rattle.marker.proofs.Writing.{one_more}
use Rattle.writer.proofs.put.put_items.Goals as goal

pub loop-item-preserved : goal.loop-item-preserved
loop-item-preserved g c =
    let inv = c.loop-item.invariant in
    let end = c.put-end.ensures.end in
    let item = c.item-item.result in
    let wrote = subst (λ x. Wrote c.loop-item.end c.loop-item.bytes c.put-end.new.bytes (g.T.Item.to_bytes x) c.put-end.result) c.item-item.is c.put-end.ensures.wrote in (
      one_more g.T.Item.to_bytes c.args.items.now c.loop-item.item-index item c.args.at c.loop-item.end c.put-end.result c.args.bytes.now c.loop-item.bytes c.put-end.new.bytes (search rules) (search rules)
          inv.0 wrote,
      omega arith,
    )
