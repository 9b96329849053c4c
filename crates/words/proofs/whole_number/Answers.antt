use Rattle.std.proofs.Common.{rules, tests, ◌≡◌, ◌∙◌, true, None, sym, ap}
use Rattle.std.specs.Char.{is_ascii_digit}
use Rattle.std.specs.Str.{all_ascii_digits}
use Rattle.std.proofs.lemmas.Iterator.{YieldsList-from_slice}
use Rattle.std.proofs.lemmas.Iterator.Search.{all_from_yields_List}
use Rattle.words.specs.Numbers.{number_of}
use Rattle.words.proofs.NumberTrips.{digits_are, no_digits, is_text, same_text, parsed, decimal_read, reads}
use Rattle.words.proofs.whole_number.Goals as goal

pub returns-then-not-all-clause-answer : goal.returns-then-not-all-clause-answer
returns-then-not-all-clause-answer c =
    let all = all_from_yields_List is_ascii_digit _ _ _ c.all.ensures.ran (YieldsList-from_slice c.args.word.now cc) (λ x b q k. search (rules, tests)) in
    no_digits c.args.word.now (sym (digits_are c.args.word.now) ∙ sym all ∙ c.if-not-all.true)

pub returns-then-not-all-clause-gives_number_back : goal.returns-then-not-all-clause-gives_number_back
returns-then-not-all-clause-gives_number_back c = λ n h e. returns-then-not-all-clause-answer c ∙ ap number_of e ∙ decimal_read n h

pub returns-then-not-all-clause-reads_exactly_what_is_written : goal.returns-then-not-all-clause-reads_exactly_what_is_written
returns-then-not-all-clause-reads_exactly_what_is_written c = reads c.args.word.now None (returns-then-not-all-clause-answer c)

pub returns-in_err-ok-clause-answer : goal.returns-in_err-ok-clause-answer
returns-in_err-ok-clause-answer c =
    let all = all_from_yields_List is_ascii_digit _ _ _ c.all.ensures.ran (YieldsList-from_slice c.args.word.now cc) (λ x b q k. search (rules, tests)) in
    let digits : all_ascii_digits c.args.word.now ≡ true = sym (digits_are c.args.word.now) ∙ sym all ∙ c.if-not-all.false in
    absurd (is_text c.from_utf8.result c.args.word.now _ _ digits c.from_utf8.ensures.cases c.in_err-ok.ensures.value)

pub returns-in_err-ok-clause-gives_number_back : goal.returns-in_err-ok-clause-gives_number_back
returns-in_err-ok-clause-gives_number_back c = λ n h e. returns-in_err-ok-clause-answer c ∙ ap number_of e ∙ decimal_read n h

pub returns-in_err-ok-clause-reads_exactly_what_is_written : goal.returns-in_err-ok-clause-reads_exactly_what_is_written
returns-in_err-ok-clause-reads_exactly_what_is_written c = reads c.args.word.now _ (returns-in_err-ok-clause-answer c)

pub returns-clause-answer : goal.returns-clause-answer
returns-clause-answer c =
    let all = all_from_yields_List is_ascii_digit _ _ _ c.all.ensures.ran (YieldsList-from_slice c.args.word.now cc) (λ x b q k. search (rules, tests)) in
    let digits : all_ascii_digits c.args.word.now ≡ true = sym (digits_are c.args.word.now) ∙ sym all ∙ c.if-not-all.false in
    let same = same_text c.from_utf8.result c.args.word.now c.in_ok-ok.field-0 _ c.from_utf8.ensures.cases c.in_ok-ok.ensures.value in
    c.ok-2.ensures.value ∙ parsed c.args.word.now c.in_ok-ok.field-0.now c.parse.result digits same c.parse.ensures.value.0

pub returns-clause-gives_number_back : goal.returns-clause-gives_number_back
returns-clause-gives_number_back c = λ n h e. returns-clause-answer c ∙ ap number_of e ∙ decimal_read n h

pub returns-clause-reads_exactly_what_is_written : goal.returns-clause-reads_exactly_what_is_written
returns-clause-reads_exactly_what_is_written c = reads c.args.word.now _ (returns-clause-answer c)
