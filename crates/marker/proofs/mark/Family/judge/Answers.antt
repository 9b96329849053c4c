use Rattle.std.proofs.Common.{ℕ, ◌+◌, Bool, length, Err, ap, ◌∙◌, ap₂, inl, inr, ⊎_elim, rules}
use Rattle.std.proofs.lemmas.Result.{err_from_is_err_and}
use Rattle.lines.specs.declared.fault.Cause.TheVariants.{Nesting, Link, Order}
use Rattle.marker.specs.Chain.{numbers_of}
use Rattle.marker.specs.Judge.{disorder, missing, none_or}
use Rattle.marker.proofs.Stepping.{nesting_refused, link_refused, passed, resumed_done}
use Rattle.marker.proofs.mark.Family.judge.Goals as goal

pub returns-in_err-none_or-2 : goal.returns-in_err-none_or-2
returns-in_err-none_or-2 g c =
    let p = err_from_is_err_and c.from_residual-in_err-none_or-2.result c.from_residual-in_err-none_or-2.ensures.1 in
    let vs = c.args.self.now.line.vertices.now in
    let allowed : ℕ → ℕ → ℕ → Bool = λ t i j. g.M.Measure.says c.args.measure.now vs i j t in
    let chain = c.in-Some.chain in
    let s = c.in-Some.ensures.steps in
    let order = c.in_ok-none_or.ensures ∙ ap₂ (λ o i. none_or o Order (i + 1)) (c.first_disorder.ensures ∙ ap (λ m. disorder m (numbers_of chain)) c.count.ensures) s.1 in
    let e = c.in_err-none_or-2.ensures ∙ ap₂ (λ o i. none_or o Nesting (i + 1)) (c.first_missing.ensures ∙ ap (λ f. missing (numbers_of f) (numbers_of chain)) c.unwrap_or.ensures) s.1 in
    p.1 ∙ ap Err p.2 ∙ nesting_refused allowed (length vs) c.loop-i.i-iterator.count c.loop-i.finer chain c.in-Some.level.now _ _ _ _ s.0.0 s.0.1 order _ e ∙ c.loop-i.invariant.2

pub returns-in_err-none_or-3 : goal.returns-in_err-none_or-3
returns-in_err-none_or-3 g c =
    let p = err_from_is_err_and c.from_residual-in_err-none_or-3.result c.from_residual-in_err-none_or-3.ensures.1 in
    let vs = c.args.self.now.line.vertices.now in
    let allowed : ℕ → ℕ → ℕ → Bool = λ t i j. g.M.Measure.says c.args.measure.now vs i j t in
    let chain = c.in-Some.chain in
    let s = c.in-Some.ensures.steps in
    let order = c.in_ok-none_or.ensures ∙ ap₂ (λ o i. none_or o Order (i + 1)) (c.first_disorder.ensures ∙ ap (λ m. disorder m (numbers_of chain)) c.count.ensures) s.1 in
    let nesting = c.in_ok-none_or-2.ensures ∙ ap₂ (λ o i. none_or o Nesting (i + 1)) (c.first_missing.ensures ∙ ap (λ f. missing (numbers_of f) (numbers_of chain)) c.unwrap_or.ensures) s.1 in
    let e = c.in_err-none_or-3.ensures ∙ ap₂ (λ o i. none_or o Link (i + 1)) c.first_forbidden.ensures s.1 in
    p.1 ∙ ap Err p.2 ∙ link_refused allowed (length vs) c.loop-i.i-iterator.count c.loop-i.finer chain c.in-Some.level.now _ _ _ _ s.0.0 s.0.1 order nesting _ e ∙ c.loop-i.invariant.2

pub loop-i-preserved : goal.loop-i-preserved
loop-i-preserved g c =
    let vs = c.args.self.now.line.vertices.now in
    let allowed : ℕ → ℕ → ℕ → Bool = λ t i j. g.M.Measure.says c.args.measure.now vs i j t in
    let chain = c.in-Some.chain in
    let s = c.in-Some.ensures.steps in
    let order = c.in_ok-none_or.ensures ∙ ap₂ (λ o i. none_or o Order (i + 1)) (c.first_disorder.ensures ∙ ap (λ m. disorder m (numbers_of chain)) c.count.ensures) s.1 in
    let nesting = c.in_ok-none_or-2.ensures ∙ ap₂ (λ o i. none_or o Nesting (i + 1)) (c.first_missing.ensures ∙ ap (λ f. missing (numbers_of f) (numbers_of chain)) c.unwrap_or.ensures) s.1 in
    let e = c.in_ok-none_or-3.ensures ∙ ap₂ (λ o i. none_or o Link (i + 1)) c.first_forbidden.ensures s.1 in
    (search rules, search rules, passed allowed (length vs) c.loop-i.i-iterator.count c.loop-i.finer chain c.in-Some.level.now _ _ _ _ s.0.0 s.0.1 order nesting _ s.2 e ∙ c.loop-i.invariant.2)

pub returns : goal.returns
returns g c =
    let vs = c.args.self.now.line.vertices.now in
    let allowed : ℕ → ℕ → ℕ → Bool = λ t i j. g.M.Measure.says c.args.measure.now vs i j t in
    let it = c.loop-i.i-iterator in
    let s = c.in-None.ensures.steps in
    resumed_done allowed (length vs) it.count c.loop-i.finer _ it.iter.b.rest.now (⊎_elim (λ a. inl a.1.0) (λ b. inr b.1.0) s.0) ∙ c.loop-i.invariant.2
