use Rattle.std.proofs.Common.{◌≡◌, ◌+◌, true, ◌&&◌, eqb, length, sum, Ok, sym, ◌∙◌, rules, arith}
use Rattle.std.proofs.lemmas.List.{at_drop_all}
use Rattle.std.proofs.lemmas.Bool.{cond-true}
use Rattle.std.proofs.lemmas.Bool.Decides.{nat_tests}
use Rattle.writer.specs.Family.{counts_from}
use Rattle.writer.proofs.Counts.{counts_fit}
use Rattle.writer.proofs.family.Family.check.Goals as goal

pub returns-clause-answer : goal.returns-clause-answer
returns-clause-answer c =
    let counts = c.args.self.now.counts.now in
    let i = c.loop-i.i in
    let both : (eqb (length counts) c.args.m && eqb (sum counts) (length c.args.self.now.chains.now)) ≡ true = grind (arith, nat_tests) in
    sym (cond-true _ _ _ both ∙ sym c.loop-i.invariant ∙ at_drop_all (counts_from c.args.n (i + 1)) counts i (search rules))

pub returns-clause-fit : goal.returns-clause-fit
returns-clause-fit c =
    let f = c.args.self.now in
    counts_fit c.args.n c.args.m f.counts.now (length f.chains.now) (Ok tt) (returns-clause-answer c)
