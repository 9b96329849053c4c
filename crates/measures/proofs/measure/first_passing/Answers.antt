use Rattle.std.proofs.Common.{◌+◌, ◌≡◌, true, false, sym, ap, ◌∙◌, rules}
use Rattle.std.specs.Option.{option_map}
use Rattle.std.proofs.lemmas.Iterator.{YieldsList-from_slice, IsFirst-from_position}
use Rattle.measures.proofs.Grades.{found_first}
use Rattle.measures.proofs.measure.first_passing.Goals as goal

pub returns-in_err-place : goal.returns-in_err-place
returns-in_err-place g c = λ test told.
    let f = IsFirst-from_position _ _ c.position.result (λ l. test l.tolerance ≡ true) (λ l. test l.tolerance ≡ false) c.position.ensures.ran (YieldsList-from_slice c.args.levels.now cc) (λ x q k. search (rules, told)) (λ x q k. (search rules, search (rules, told))) in
    let none : c.from_residual.result ≡ option_map (λ k. k + 1) c.position.result = search rules in
    none ∙ found_first test c.args.levels.now c.position.result f

pub returns : goal.returns
returns g c = λ test told.
    let f = IsFirst-from_position _ _ c.position.result (λ l. test l.tolerance ≡ true) (λ l. test l.tolerance ≡ false) c.position.ensures.ran (YieldsList-from_slice c.args.levels.now cc) (λ x q k. search (rules, told)) (λ x q k. (search rules, search (rules, told))) in
    ap (option_map (λ k. k + 1)) (sym c.in_ok-place.was) ∙ found_first test c.args.levels.now c.position.result f
