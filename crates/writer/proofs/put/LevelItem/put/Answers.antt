use Rattle.std.proofs.Common.{rules}
use Rattle.packs.specs.Bytes.{le}
use Rattle.marker.proofs.Writing.{wrote_both}
use Rattle.writer.proofs.put.LevelItem.put.Goals as goal

pub returns-clause-wrote : goal.returns-clause-wrote
returns-clause-wrote c =
    wrote_both c.args.at c.put_u32-at.result c.put_u32.result c.args.bytes.now c.put_u32-at.new.bytes c.put_u32.new.bytes (le 4 c.args.self.tolerance) (le 4 c.args.self.weight) (search rules)
    c.put_u32-at.ensures c.put_u32.ensures
