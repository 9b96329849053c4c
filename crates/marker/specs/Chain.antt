-- The numbers of a chain. Assumes nothing.
use Rattle.std.specs.Prelude.{ℕ, List, map}
use Rattle.packs.specs.Bytes.{little}
use Rattle.marker.specs.declared.chain.Chain.{Chain}

-- The numbers that a chain's bytes write.
abbrev pub numbers_of : Chain → List ℕ
numbers_of chain = map little chain.numbers.now
