use Rattle.std.proofs.Common.{◌≡◌, ℕ, Bool, length}
use Rattle.marker.specs.Records.{chains_in}
use Rattle.marker.specs.Judge.{judged_chains}
use Rattle.marker.proofs.Stepping.{resumed}
use Rattle.marker.proofs.mark.Family.judge.Given as goal

abbrev pub invariant-loop-i : goal.invariant-loop-i
invariant-loop-i g l =
    let vs = l.self.line.vertices.now in
    let it = l.i-iterator in
    let allowed : ℕ → ℕ → ℕ → Bool = λ t i j. g.M.Measure.says l.measure vs i j t in
    (goal.iterator-loop-i g).can_next it × (goal.iterator-loop-i g).is_finite it ×
    (resumed allowed (length vs) it.count l.finer (chains_in it.iter.a.left it.iter.a.rest.now) it.iter.b.rest.now ≡
    judged_chains allowed (length vs) (chains_in l.self.chains.left l.self.chains.rest.now) l.self.levels.now)
