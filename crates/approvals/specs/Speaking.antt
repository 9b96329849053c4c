-- Lists of approvals, looked through one by one, and the rules of measures. Assumes nothing.
-- Proofs of laws: they stand here since the code of an `impl` names them. No contract reads them.
use Rattle.std.specs.Prelude.{◌≡◌, ℕ, ◌+◌, ◌<◌, ◌≤◌, Bool, true, ◌||◌, List, [], ◌∷◌, length, drop, slice_index_or}
use Rattle.std.proofs.Common.{sym, ap, ◌∙◌, arith}
use Rattle.std.proofs.lemmas.List.{drop_more}
use Rattle.std.proofs.lemmas.Bool.Decides.{nat_tests}
use Rattle.approvals.specs.declared.approval.Approval.{Approval}
use Rattle.measures.specs.Measure.{Rules}
use Rattle.approvals.specs.Approvals.{approval, speaks, any_speaks, approved, approvals_largest}

-- none of the approvals before k speaks
abbrev pub Silent : ℕ → ℕ → ℕ → List Approval → ℕ → Type 0
Silent i j t xs k = any_speaks i j t xs ≡ any_speaks i j t (drop k xs)

-- whether one speaks, told by number k and those after it
pub next_speaks : (i j t : ℕ) (xs : List Approval) (k : ℕ) (b : Bool) → k < length xs → Silent i j t xs k → b ≡ speaks i j t (slice_index_or xs k (approval 0 0 0)) →
    any_speaks i j t xs ≡ (b || any_speaks i j t (drop (k + 1) xs))
next_speaks i j t xs k b h before e =
    before ∙ ap (any_speaks i j t) (drop_more xs k (approval 0 0 0) h) ∙ ap (λ z. z || any_speaks i j t (drop (k + 1) xs)) (sym e)

speaks_rises : (i j s t : ℕ) (a : Approval) → s ≤ t → speaks i j s a ≡ true → speaks i j t a ≡ true
speaks_rises i j s t a h y = grind (arith, nat_tests)

any_rises : (i j s t : ℕ) (xs : List Approval) → s ≤ t → any_speaks i j s xs ≡ true → any_speaks i j t xs ≡ true
any_rises i j s t [] h y = y
any_rises i j s t (a ∷ xs) h y = let first = speaks_rises i j s t a h in let more = any_rises i j s t xs h in grind (arith, nat_tests)

pub approved_rules : (xs : List Approval) → Rules approvals_largest (approved xs)
approved_rules xs = record {
  next_allowed = λ vs i t lawful h b. grind (arith, nat_tests);
  stays_allowed = λ vs i j s t lawful h b y. let rises = any_rises i j s t xs h in grind (arith, nat_tests);
  links_only = λ vs i j t lawful y. (grind (arith, nat_tests), grind (arith, nat_tests), grind (arith, nat_tests));
}
