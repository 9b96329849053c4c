use Rattle.std.proofs.Common.{◌≡◌, drop}
use Rattle.texts.specs.Draft.{said_in, all_taken}
use Rattle.texts.proofs.draft.Draft.take_all.Given as goal

abbrev pub invariant-loop-statement : goal.invariant-loop-statement
invariant-loop-statement l =
    all_taken l.n l.statements (said_in l.initial.self) ≡ all_taken l.n (drop l.statement-index l.statements) (said_in l.self)
