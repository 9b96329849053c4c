use Rattle.std.proofs.Common.{rules}
use Rattle.layers.proofs.Grading.{first_skips}
use Rattle.layers.proofs.pins.PinsMeasure.first_level.Goals as goal

pub returns-then-not-none_between : goal.returns-then-not-none_between
returns-then-not-none_between g c = let skips = c.if-not-none_between.ensures in search (rules, first_skips)
