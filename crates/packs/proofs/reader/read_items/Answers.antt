use Rattle.std.proofs.Common.{drop, ap, ◌∙◌, arith}
use Rattle.std.proofs.lemmas.List.{take_rest}
use Rattle.packs.proofs.Items.{items_written, items_left}
use Rattle.packs.proofs.reader.read_items.Goals as goal

pub loop-item-preserved : goal.loop-item-preserved
loop-item-preserved g c =
    let inv = c.loop-item.invariant in
    let w = g.T.Item.WIDTH in
    let from = g.T.Item.from_bytes in
    let i = c.loop-item.item-index in
    let bs = c.args.bytes.now in
    let rest = c.loop-item.rest.now in (
      take_rest rest c.WIDTH.result ∙ ap (λ n. drop n rest) c.WIDTH.ensures ∙ items_left w from i bs rest inv.0,
      items_written w from i bs c.loop-item.out c.read.result (omega arith) inv.1 (c.read.ensures ∙ ap from inv.0),
    )
