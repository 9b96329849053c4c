use Rattle.std.proofs.Common.{◌≡◌, ◌*◌, take, drop}
use Rattle.packs.specs.Job.{items}
use Rattle.packs.proofs.reader.read_items.Given as goal

abbrev pub invariant-loop-item : goal.invariant-loop-item
invariant-loop-item g l =
    let w = g.T.Item.WIDTH in
    (l.rest ≡ drop (w * l.item-index) l.bytes) × (take l.item-index l.out ≡ items w g.T.Item.from_bytes l.item-index l.bytes)
