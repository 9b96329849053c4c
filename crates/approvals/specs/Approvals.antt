-- The measure of approvals: a list of links that are approved from a tolerance on. Assumes nothing.
use Rattle.std.specs.Prelude.{ℕ, ◌+◌, Bool, cond, ◌&&◌, ◌||◌, List, length, Ok, Err, Result, ◌==◌, nat_le, nat_lt}
use Rattle.std.specs.List.{list_any}
use Rattle.lines.specs.declared.fault.Fault.{Fault}
use Rattle.lines.specs.declared.fault.Cause.TheVariants.{Full}
use Rattle.lines.specs.declared.fault.Layer.TheVariants.{Content}
use Rattle.lines.specs.Fault.{fault}
use Rattle.lines.specs.Line.{is_link}
use Rattle.approvals.specs.declared.approval.Approval.{Approval}
use Rattle.approvals.specs.declared.approval.Approvals.{Approvals}
use Rattle.measures.specs.Measure.{Answer}

-- The approvals that are there, in the order in which they were added.
abbrev pub entries : Approvals → List Approval
entries a = a.list.items

-- The approval of the link i → j from the tolerance t on.
abbrev pub approval : ℕ → ℕ → ℕ → Approval
approval i j t = record { i = i; j = j; t = t }

-- The approval speaks for the link i → j at the tolerance t.
abbrev pub speaks : ℕ → ℕ → ℕ → Approval → Bool
speaks i j t a = a.i == i && (a.j == j && nat_le a.t t)

-- Some of the approvals speaks for the link i → j at the tolerance t.
abbrev pub any_speaks : ℕ → ℕ → ℕ → List Approval → Bool
any_speaks i j t list = list_any (speaks i j t) list

-- The largest tolerance of approvals.
abbrev pub approvals_largest : ℕ
approvals_largest = 32768

-- What a list of approvals says: yes for the link to the next vertex, and where some of them speaks.
abbrev pub approved : List Approval → Answer
approved list vs i j t = is_link vs i j && (nat_le t approvals_largest && (j == i + 1 || any_speaks i j t list))

-- What adding to a list of approvals answers: 64 are the most.
abbrev pub judged_approval : List Approval → Result (Unit {0}) Fault
judged_approval list = cond (nat_lt (length list) 64) (Ok tt) (Err (fault Full Content 0))
