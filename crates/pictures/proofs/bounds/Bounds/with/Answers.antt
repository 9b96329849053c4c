use Rattle.std.proofs.Common.{rules}
use Rattle.pictures.proofs.bounds.Bounds.with.Goals as goal

pub returns : goal.returns
returns c = simp (c.min.ensures.value, c.max.ensures.value, c.min-2.ensures.value, c.max-2.ensures.value) (search rules)
