use Rattle.std.proofs.Common.{sym}
use Rattle.marker.proofs.Walking.{whole_from}
use Rattle.marker.proofs.records.structure.Goals as goal

pub returns-clause-whole : goal.returns-clause-whole
returns-clause-whole c = whole_from c.args.n c.args.m 0 c.in_ok-stop.stop c.args.records.now (sym c.in_ok-stop.ensures.answer)
