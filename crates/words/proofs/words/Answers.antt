use Rattle.std.proofs.Common.{rules, tests, ◌≡◌, map, not, eqb, length, ℕ, List, ◌∙◌, ap}
use Rattle.std.specs.List.{AllByRecursion, join_with_byte}
use Rattle.std.proofs.lemmas.Iterator.Consumers.{map_from_collect, YieldsList-from_filter, YieldsList-at}
use Rattle.std.proofs.lemmas.Iterator.Splits.{YieldsList-from_slice_split}
use Rattle.words.specs.Words.{is_blank, words_of, IsWord, ReadsWords}
use Rattle.std.proofs.lemmas.Result.{IfOk-weaker}
use Rattle.words.proofs.WordTrips.{reads, words_joined}
use Rattle.words.proofs.words.Goals as goal

pub returns-clause-answer : goal.returns-clause-answer
returns-clause-answer c =
    map_from_collect _ c.collect.ensures.ran
    (YieldsList-from_filter _ (λ part. not (eqb (length part) 0))
    (YieldsList-at c.filter.ensures.source (YieldsList-from_slice_split _ is_blank c.args.line.now c.split.ensures.rest c.split.ensures.done c.split.ensures.closure (λ x r q k. search (rules, tests))))
    c.filter.ensures.closure (λ x r q k. search (rules, tests)))

pub returns-clause-reads_exactly_what_is_written : goal.returns-clause-reads_exactly_what_is_written
returns-clause-reads_exactly_what_is_written c =
    IfOk-weaker c.collect.result _ (λ v. ReadsWords c.args.line.now (map (λ w. w.now) v.items)) (λ v e. reads c.args.line.now (map (λ w. w.now) v.items) e) (returns-clause-answer c)

pub returns-clause-gives_words_back : goal.returns-clause-gives_words_back
returns-clause-gives_words_back c =
    IfOk-weaker c.collect.result _ (λ v. (ws : List (List ℕ)) → AllByRecursion IsWord ws → c.args.line.now ≡ join_with_byte 32 ws → map (λ w. w.now) v.items ≡ ws)
    (λ v e ws h f. e ∙ ap words_of f ∙ words_joined ws h) (returns-clause-answer c)
