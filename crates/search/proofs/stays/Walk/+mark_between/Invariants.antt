use Rattle.std.proofs.Common.{◌≡◌, ℕ, ◌-◌, ◌<◌, ◌≤◌, ◌⊎◌, length, get_or}
use Rattle.tables.specs.Terms.{costs, grants}
use Rattle.search.specs.Walk.{stay_between}
use Rattle.search.proofs.stays.Walk.+mark_between.Given as goal

abbrev pub decreases-mark_between : goal.decreases-mark_between
decreases-mark_between g l = l.k

abbrev pub invariant-loop-at : goal.invariant-loop-at
invariant-loop-at g l =
    let between = stay_between g.P.Price.kind (costs g.P.Price.link l.self.terms) (grants l.self.terms) l.k in
    (l.i ≤ l.at) × (l.at ≤ l.j) × (length l.stays ≡ length l.initial.stays) ×
    ((v : ℕ) → l.i < v → v ≤ l.at → v < l.j → get_or l.stays v 0 ≡ between l.i l.j v) ×
    ((v : ℕ) → l.at < v → v < l.j → between l.i l.j v ≡ between l.at l.j v) ×
    ((v : ℕ) → (v ≤ l.i) ⊎ ((l.at < v) ⊎ (l.j ≤ v)) → get_or l.stays v 0 ≡ get_or l.initial.stays v 0)

abbrev pub decreases-loop-at : goal.decreases-loop-at
decreases-loop-at g l = l.j - l.at
