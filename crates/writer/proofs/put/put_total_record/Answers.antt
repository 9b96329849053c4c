use Rattle.std.proofs.Common.{◌++◌, refl, rules}
use Rattle.packs.specs.Bytes.{le}
use Rattle.marker.proofs.Writing.{wrote_both}
use Rattle.writer.proofs.Putting.{wrote_record}
use Rattle.writer.proofs.put.put_total_record.Goals as goal

pub returns-clause-wrote : goal.returns-clause-wrote
returns-clause-wrote c =
    let body = wrote_both c.put_header-at.result c.put_u32-at.result c.put_u64.result c.put_header-at.new.bytes c.put_u32-at.new.bytes c.put_u64.new.bytes (le 4 c.args.total.0) (le 8 c.args.total.1)
    (search rules) c.put_u32-at.ensures c.put_u64.ensures in
    wrote_record c.args.at c.put_header-at.result c.put_u64.result 12 5 c.args.bytes.now c.put_header-at.new.bytes c.put_u64.new.bytes (le 4 c.args.total.0 ++ le 8 c.args.total.1)
    (search rules) c.put_header-at.ensures body refl
