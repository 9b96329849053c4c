use Rattle.std.proofs.Common.{refl, sym, rules}
use Rattle.marker.proofs.Reading.{few_vertices}
use Rattle.marker.proofs.reader.read_chains.Goals as goal

pub put-vertices-requires : goal.put-vertices-requires
put-vertices-requires c = (
  search rules,
  few_vertices c.args.n c.args.m c.args.records.now (search rules) c.in_ok-stop.stop (c.in_ok-check_size.ensures.lawful.0 refl).1 (sym c.in_ok-stop.ensures.answer),
)
