use Rattle.std.proofs.Common.{◌/◌, length, map, ap, ◌∙◌}
use Rattle.packs.specs.Bytes.{little}
use Rattle.marker.proofs.Numbers.{pairs_read}
use Rattle.marker.proofs.chain.Chain.of.Goals as goal

pub returns : goal.returns
returns c = ap (map little) c.as_chunks.ensures.front ∙ pairs_read (length c.args.body.now / 2) c.args.body.now
