use Rattle.std.proofs.Common.{◌≡◌, ◌+◌, ◌*◌, take}
use Rattle.std.specs.List.{flat_map}
use Rattle.marker.specs.Wrote.{Wrote}
use Rattle.writer.proofs.put.put_items.Given as goal

abbrev pub invariant-loop-item : goal.invariant-loop-item
invariant-loop-item g l = Wrote l.fn.at l.fn.bytes l.bytes (flat_map g.T.Item.to_bytes (take l.item-index l.items)) l.end × (l.end ≡ l.fn.at + g.T.Item.WIDTH * l.item-index)
