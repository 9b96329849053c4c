use Rattle.std.proofs.Common.{◌≡◌, ℕ, get_or, ◌≢◌, subst, sym, ap, ◌∙◌, ap₂, ⊎_elim, arith}
use Rattle.std.specs.Option.{unwrap_or}
use Rattle.std.proofs.lemmas.List.{get_or-set_same, get_or-set_other, get_or_default, get_or_read}
use Rattle.std.proofs.lemmas.Bool.{cases_eq}
use Rattle.tables.proofs.rows.update.Goals as goal
use Rattle.tables.proofs.rows.update.Goals.{in-Some, in_default}

pub loop-j-preserved : goal.loop-j-preserved
loop-j-preserved g c =
    let none = g.P.Price.kind.neutral in
    let inv = c.loop-j.invariant in
    let row = c.loop-j.row in
    let j = c.loop-j.j in
    let after = c.match-change.row in
    let own : get_or row j c.index-row-j.result ≡ get_or row j none = get_or_default row j c.index-row-j.result none (omega arith) in
    let wrote : (get_or after j none ≡ unwrap_or c.change.result (get_or row j none)) × ((x : ℕ) → x ≢ j → get_or after x none ≡ get_or row x none) =
    elim c.match-change.branch [
      | in-Some w ↦ (
        ap (λ l. get_or l j none) w.row-is ∙ get_or-set_same row j _ none (omega arith) ∙ ap (λ o. unwrap_or o (get_or row j none)) (sym w.in-Some.is),
        λ x ne. ap (λ l. get_or l x none) w.row-is ∙ get_or-set_other row j x _ none ne,
      )
      | in_default w ↦ (
        ap (λ l. get_or l j none) w.row-is ∙ get_or-set_same row j _ none (omega arith) ∙ own ∙ ap (λ o. unwrap_or o (get_or row j none)) (sym w.in_default.is),
        λ x ne. ap (λ l. get_or l x none) w.row-is ∙ get_or-set_other row j x _ none ne,
      )
    ] in
    let other = get_or_read c.args.other.now j c.index-other-j.result (omega arith) c.index-other-j.is none in (
      λ f told x h. ⊎_elim
          (λ (e : x ≡ j).
          subst (λ z. get_or after z none ≡ f (get_or c.args.row.now z none) (get_or c.args.other.now z none)) (sym e)
          (wrote.0 ∙ ap (unwrap_or c.change.result) (sym own) ∙ told (get_or row j c.index-row-j.result) c.index-other-j.result c.change.result c.change.ensures ∙
          ap₂ f (own ∙ inv.1 j (omega arith)) other))
          (λ (ne : x ≢ j). wrote.1 x ne ∙ inv.0 f told x (omega arith))
          (cases_eq x j),
      λ x h. let ne : x ≢ j = (λ q. omega arith) in wrote.1 x ne ∙ inv.1 x (omega arith),
    )

pub returns : goal.returns
returns g c = λ f told x h. c.loop-j.invariant.0 f told x (omega arith)
