use Rattle.std.proofs.Common.{rules}
use Rattle.std.specs.List.{flat_map}
use Rattle.writer.proofs.Putting.{wrote_record}
use Rattle.writer.proofs.put.put_record.Goals as goal

pub returns-clause-wrote : goal.returns-clause-wrote
returns-clause-wrote g c =
    let wrote = c.put_items.ensures.wrote in
    let long = wrote.ends in
    let end = c.put_items.ensures.end in
    let width = c.WIDTH.ensures in
    wrote_record c.args.at c.put_header-at.result c.put_items.result _ c.args.kind c.args.bytes.now c.put_header-at.new.bytes c.put_items.new.bytes (flat_map g.T.Item.to_bytes c.args.items.now)
    (search rules) c.put_header-at.ensures wrote (search rules)
