-- Counts that are accepted fit, and those that fit are accepted. Assumes nothing.
use Rattle.std.proofs.Common.{◌≡◌, ℕ, zero, suc, ◌+◌, ◌<◌, ◌≤◌, true, List, [], ◌∷◌, length, get_or, is_ok, Ok, Err, Result, OnOk, sym, ap, refl, ◌∙◌, arith}
use Rattle.std.proofs.lemmas.Bool.{cond-true, and_parts, and_from, leb-true, le-leb, eqb-true, eq-eqb}
use Rattle.lines.specs.declared.fault.Fault.{Fault}
use Rattle.lines.proofs.Levels.{passed}
use Rattle.writer.specs.Family.{counts_from, judged_counts, CountsFit}

each_fits : (n k : ℕ) (counts : List ℕ) → is_ok (counts_from n k counts) ≡ true → (i : ℕ) → i < length counts → (2 ≤ get_or counts i 0) × (get_or counts i 0 ≤ n)
each_fits n k [] h i l = absurd (omega arith)
each_fits n k (c ∷ cs) h zero l = let p = and_parts _ _ (passed _ _ _ h).0 in (leb-true _ _ p.0, leb-true _ _ p.1)
each_fits n k (c ∷ cs) h (suc i) l = each_fits n (k + 1) cs (passed _ _ _ h).1 i (omega arith)

pub accepted_fit : (n m : ℕ) (counts : List ℕ) (given : ℕ) → is_ok (judged_counts n m counts given) ≡ true → CountsFit n m counts given
accepted_fit n m counts given h =
    let p = passed _ _ _ h in
    let q = and_parts _ _ p.0 in
    record { number = eqb-true _ _ q.0; adds_up = eqb-true _ _ q.1; each = each_fits n 1 counts p.1 }

-- from the answer of the code
pub counts_fit : (n m : ℕ) (counts : List ℕ) (given : ℕ) (r : Result (Unit {0}) Fault) → r ≡ judged_counts n m counts given → OnOk r (CountsFit n m counts given)
counts_fit n m counts given (Ok _) e = accepted_fit n m counts given (sym (ap is_ok e))
counts_fit n m counts given (Err f) e = tt

fit_each : (n k : ℕ) (counts : List ℕ) → ((i : ℕ) → i < length counts → (2 ≤ get_or counts i 0) × (get_or counts i 0 ≤ n)) → counts_from n k counts ≡ Ok tt
fit_each n k [] each = refl
fit_each n k (c ∷ cs) each =
    let first = each 0 (omega arith) in
    cond-true _ _ _ (and_from _ _ (le-leb 2 c first.0) (le-leb c n first.1)) ∙ fit_each n (k + 1) cs (λ i h. each (suc i) (omega arith))

pub fit_accepted : (n m : ℕ) (counts : List ℕ) (given : ℕ) → CountsFit n m counts given → judged_counts n m counts given ≡ Ok tt
fit_accepted n m counts given f = cond-true _ _ _ (and_from _ _ (eq-eqb _ _ f.number) (eq-eqb _ _ f.adds_up)) ∙ fit_each n 1 counts f.each
