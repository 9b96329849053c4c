-- Judging chains level by level. Assumes nothing.
use Rattle.std.specs.Prelude.{ℕ, ◌+◌, Bool, cond, not, ◌&&◌, ◌||◌, List, [], ◌∷◌, length, Some, None, Ok, Err, Option, Result, ◌==◌, nat_le}
use Rattle.std.specs.List.{position_from}
use Rattle.families.specs.Chain.{has, links}
use Rattle.lines.specs.Fault.{fault_at, then}
use Rattle.lines.specs.declared.fault.Fault.{Fault}
use Rattle.lines.specs.declared.fault.Cause.{Cause}
use Rattle.lines.specs.declared.fault.Cause.TheVariants.{Order, Nesting, Link}
use Rattle.lines.specs.declared.fault.Layer.TheVariants.{Marker}
use Rattle.lines.specs.declared.level.Level.{Level}

-- The first of xs, counted from i, that fails a test.
abbrev pub first_failing : {X : Type 0} → (X → Bool) → ℕ → List X → Option ℕ
first_failing test i xs = position_from (λ x. not (test x)) i xs

-- Whether the number x may stand at position i of so many: the first is 0, the last is n - 1, and each is above the one before.
abbrev pub in_order : ℕ → ℕ → ℕ → ℕ → ℕ → Bool
in_order n count i low x = nat_le low x && ((not (i == 0) || x == 0) && (not (i + 1 == count) || x + 1 == n))

-- The lowest position that is out of order, from position i on, where no number may be below `low`.
abbrev pub disorder_from : ℕ → ℕ → ℕ → ℕ → List ℕ → Option ℕ
disorder_from n count i low [] = None
disorder_from n count i low (x ∷ xs) = cond (in_order n count i low x) (disorder_from n count (i + 1) (x + 1) xs) (Some i)

abbrev pub disorder : ℕ → List ℕ → Option ℕ
disorder n chain = disorder_from n (length chain) 0 0 chain

-- The first position whose vertex the finer chain has not.
abbrev pub missing : List ℕ → List ℕ → Option ℕ
missing finer chain = first_failing (has finer) 0 chain

-- The first position whose link is not allowed.
abbrev pub forbidden : (ℕ → ℕ → Bool) → List ℕ → Option ℕ
forbidden allowed chain = first_failing (λ l. allowed l.0 l.1) 0 (links chain)

-- No position is at fault, or the one found is named.
abbrev pub none_or : Option ℕ → Cause → ℕ → Result (Unit {0}) Fault
none_or None cause k = Ok tt
none_or (Some spot) cause k = Err (fault_at cause Marker k spot)

-- The chain of level k under the next finer one: order, then nesting, then links.
abbrev pub judged_chain : (ℕ → ℕ → Bool) → ℕ → ℕ → List ℕ → List ℕ → Result (Unit {0}) Fault
judged_chain allowed n k finer chain =
    then (none_or (disorder n chain) Order k) (λ _.
    then (none_or (missing finer chain) Nesting k) (λ _.
    none_or (forbidden allowed chain) Link k))

-- The chains of level k and above, level by level. `allowed t i j` says whether the link i → j is allowed at the tolerance t.
abbrev pub judged_from : (ℕ → ℕ → ℕ → Bool) → ℕ → ℕ → List ℕ → List (List ℕ) → List Level → Result (Unit {0}) Fault
judged_from allowed n k finer [] ls = Ok tt
judged_from allowed n k finer (c ∷ cs) [] = Ok tt
judged_from allowed n k finer (c ∷ cs) (l ∷ ls) =
    then (judged_chain (allowed l.tolerance) n k finer c) (λ _. judged_from allowed n (k + 1) c cs ls)

-- All chains of a family. The finest has no finer one: it is held against itself.
abbrev pub judged_chains : (ℕ → ℕ → ℕ → Bool) → ℕ → List (List ℕ) → List Level → Result (Unit {0}) Fault
judged_chains allowed n [] ls = Ok tt
judged_chains allowed n (c ∷ cs) ls = judged_from allowed n 1 c (c ∷ cs) ls
