use Rattle.std.proofs.Common.{rules, tests, ◌≡◌, map, ◌∙◌, ap, eqb, Ok}
use Rattle.std.specs.List.{slice_split}
use Rattle.std.proofs.lemmas.Iterator.Consumers.{map_from_collect}
use Rattle.std.proofs.lemmas.Iterator.Splits.{YieldsList-from_slice_split}
use Rattle.words.specs.Lines.{lines_of}
use Rattle.words.proofs.LineTrips.{reads, popped, lines_written}
use Rattle.words.proofs.lines.Goals as goal

pub returns-clause-answer : goal.returns-clause-answer
returns-clause-answer c =
    let parts : map (λ l. l.now) c.in_ok-lines.lines.items ≡ slice_split (λ b. eqb b 10) c.args.text.now =
    map_from_collect {E = Unit {0}} (Ok c.in_ok-lines.lines) c.in_ok-lines.ensures.ran
    (YieldsList-from_slice_split _ _ c.args.text.now c.split.ensures.rest c.split.ensures.done c.split.ensures.closure (λ x r q k. search (rules, tests))) in
    popped _ c.args.text.now _ _ _ _ parts c.pop_if.ensures.cases (λ x y b k. search (rules, tests))

pub returns-clause-reads_exactly_what_is_written : goal.returns-clause-reads_exactly_what_is_written
returns-clause-reads_exactly_what_is_written c = reads c.args.text.now _ (returns-clause-answer c)

pub returns-clause-gives_lines_back : goal.returns-clause-gives_lines_back
returns-clause-gives_lines_back c = λ ls h e. returns-clause-answer c ∙ ap lines_of e ∙ lines_written ls h
