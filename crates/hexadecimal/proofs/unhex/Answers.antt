use Rattle.std.proofs.Common.{◌≡◌, ◌<◌, length, Some, None, sym, ap, ◌∙◌, vec_items, arith}
use Rattle.std.specs.Slice.Iter.{chunks_exact_rest}
use Rattle.hexadecimal.specs.Hex.{unhexed}
use Rattle.hexadecimal.proofs.Pairs.{behind, odd_none, no_byte, one_byte, still_even, all_read}
use Rattle.hexadecimal.proofs.Written.{reads}
use Rattle.hexadecimal.proofs.unhex.Goals as goal

pub returns-then-text-ne0-clause-answer : goal.returns-then-text-ne0-clause-answer
returns-then-text-ne0-clause-answer c = odd_none c.args.text.now c.if-text-ne0.true

pub returns-then-text-ne0-clause-reads_exactly_what_is_written : goal.returns-then-text-ne0-clause-reads_exactly_what_is_written
returns-then-text-ne0-clause-reads_exactly_what_is_written c = reads c.args.text.now None (returns-then-text-ne0-clause-answer c)

pub returns-in_default-clause-reads_exactly_what_is_written : goal.returns-in_default-clause-reads_exactly_what_is_written
returns-in_default-clause-reads_exactly_what_is_written c =
    let step = c.in-Some.ensures.steps in
    let before = vec_items c.loop-pair.bytes in
    reads c.args.text.now None
    (sym (no_byte before c.in-Some.pair.now (chunks_exact_rest c.next.new.self) (step.1.1 ∙ c.loop-pair.invariant.size) (sym c.byte.ensures ∙ c.in_default.is)) ∙
    ap (λ r. behind before (unhexed r)) (sym step.1.0) ∙ c.loop-pair.invariant.read)

pub loop-pair-preserved : goal.loop-pair-preserved
loop-pair-preserved c =
    let step = c.in-Some.ensures.steps in
    let before = vec_items c.loop-pair.bytes in
    let rest = chunks_exact_rest c.next.new.self in
    let two : length c.in-Some.pair.now ≡ 2 = step.1.1 ∙ c.loop-pair.invariant.size in
    record {
      size = step.0 ∙ c.loop-pair.invariant.size;
      even = still_even (chunks_exact_rest c.loop-pair.pair-iterator) c.in-Some.pair.now rest step.1.0 two c.loop-pair.invariant.even;
      read =
          ap (λ bs. behind bs (unhexed rest)) c.in_ok-push.ensures.items ∙
          sym (one_byte before c.in-Some.pair.now rest c.in-Some-byte.byte two (sym c.byte.ensures ∙ c.in-Some-byte.is)) ∙
          ap (λ r. behind before (unhexed r)) (sym step.1.0) ∙ c.loop-pair.invariant.read;
    }

pub returns-clause-reads_exactly_what_is_written : goal.returns-clause-reads_exactly_what_is_written
returns-clause-reads_exactly_what_is_written c =
    let bytes = vec_items c.loop-pair.bytes in
    let short : length (chunks_exact_rest c.loop-pair.pair-iterator) < 2 = omega (arith, c.in-None.ensures.steps.1.0, c.loop-pair.invariant.size) in
    reads c.args.text.now (Some bytes) (sym (all_read bytes _ short c.loop-pair.invariant.even) ∙ c.loop-pair.invariant.read)
