use Rattle.std.proofs.Common.{◌≡◌, ℕ, add-one, ◌+◌, ◌-◌, Bool, true, false, ◌&&◌, length, sym, ap, ◌∙◌, arith, rules}
use Rattle.families.specs.Least.{first}
use Rattle.std.proofs.lemmas.Iterator.{first_from_Range}
use Rattle.tables.specs.Terms.{costs, grants}
use Rattle.tables.specs.Row.{candidate}
use Rattle.search.proofs.Reading.{reads}
use Rattle.search.proofs.Walks.{attains, next_is, first_between}
use Rattle.search.proofs.stays.Walk.next_vertex.Goals as goal

pub returns : goal.returns
returns g c =
    let K = g.P.Price.kind in
    let w = c.args.self.now in
    let price = costs g.P.Price.link w.terms in
    let allowed = grants w.terms in
    let k = c.args.k in let i = c.args.i in let j = c.args.j in
    let best = c.get-best.ensures ∙ reads K price allowed w.prices.now.cells.now w.prices.now.n (length w.terms.levels.now) w.filled k i j (omega arith) (omega arith) (omega arith) in
    let passes : ℕ → Bool = λ v. allowed k i v && K.not_dearer (candidate K price allowed k i j v) c.get-best.result in
    let test = attains K price allowed k i j in
    let same : (v : ℕ) → test v ≡ passes v = λ v. ap (λ b. allowed k i v && K.not_dearer (candidate K price allowed k i j v) b) (sym best) in
    let yes : (v : ℕ) → passes v ≡ true → test v ≡ true = λ v h. same v ∙ h in
    let no : (v : ℕ) → passes v ≡ false → test v ≡ false = λ v h. same v ∙ h in
    let told = first_from_Range _ _ _ c.find.result (λ v. test v ≡ true) (λ v. test v ≡ false) c.find.ensures.ran (λ x q h. yes x (search rules)) (λ x q h. (search rules, no x (search rules))) in
    c.unwrap_or.ensures ∙ first_between test (i + 1) j (omega arith) c.find.result told ∙ ap (λ z. first test z (j - z)) (add-one i) ∙ next_is K price allowed k i j (omega arith)
