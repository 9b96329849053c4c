use Rattle.std.proofs.Common.{◌≡◌, ◌%◌, length, vec_items}
use Rattle.std.specs.Slice.Iter.{chunks_exact_rest, chunks_exact_size}
use Rattle.hexadecimal.specs.Hex.{unhexed}
use Rattle.hexadecimal.proofs.Pairs.{behind}
use Rattle.hexadecimal.proofs.unhex.Given as goal

abbrev pub invariant-loop-pair : goal.invariant-loop-pair
invariant-loop-pair l = record {
  size : chunks_exact_size l.pair-iterator ≡ 2;
  even : length (chunks_exact_rest l.pair-iterator) % 2 ≡ 0;
  read : behind (vec_items l.bytes) (unhexed (chunks_exact_rest l.pair-iterator)) ≡ unhexed l.text;
}
