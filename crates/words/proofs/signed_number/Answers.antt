use Rattle.std.proofs.Common.{rules, arith, ◌≡◌}
use Rattle.std.proofs.lemmas.Grind.{common_steps}
use Rattle.words.specs.Signed.{signed_of}
use Rattle.words.proofs.SignedTrips.{signed_back}
use Rattle.words.proofs.signed_number.Goals as goal

pub returns-then-eq-clause-gives_number_back : goal.returns-then-eq-clause-gives_number_back
returns-then-eq-clause-gives_number_back c =
    let answer : c.map.result ≡ signed_of c.args.word.now = first_of (search rules, grind (arith, common_steps)) in
    signed_back c.args.word.now c.map.result answer
