use Rattle.std.proofs.Common.{◌≡◌, ℕ, ◌<◌, ◌≤◌, get_or, Option}
use Rattle.std.specs.Option.{unwrap_or}
use Rattle.tables.proofs.rows.update.Given as goal

abbrev pub invariant-loop-j : goal.invariant-loop-j
invariant-loop-j g l =
    let none = g.P.Price.kind.neutral in
    ((f : g.row.P.Denot → g.row.P.Denot → g.row.P.Denot) → ((x y : g.row.P.Denot) (r : Option g.row.P.Denot) → goal.F-post g l.change x y r → unwrap_or r x ≡ f x y) → (x : ℕ) → x < l.j →
    get_or l.row x none ≡ f (get_or l.initial.row x none) (get_or l.other x none)) ×
    ((x : ℕ) → l.j ≤ x → get_or l.row x none ≡ get_or l.initial.row x none)
