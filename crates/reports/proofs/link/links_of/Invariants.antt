use Rattle.std.proofs.Common.{◌≡◌, ◌++◌, drop}
use Rattle.families.specs.Chain.{links, links_from}
use Rattle.reports.proofs.link.links_of.Given as goal

abbrev pub invariant-loop-v : goal.invariant-loop-v
invariant-loop-v l = l.found.items ++ links_from l.start (drop l.v-index l.rest) ≡ links l.fn.chain
