use Rattle.std.proofs.Common.{rules, ◌≡◌, cond, [], sym, subst, ◌∙◌}
use Rattle.std.specs.Prelude.{IfOk, string_bytes}
use Rattle.pictures.specs.Family.{marks_from}
use Rattle.pictures.proofs.Showing.{drawn}
use Rattle.pictures.proofs.show.Family.picture.Goals as goal
use Rattle.pictures.proofs.show.Family.picture.Goals.{then-options, else-options}

pub returns : goal.returns
returns c =
    let f = c.args.self.now in
    let o = c.args.options in
    let rows = c.as_slice-rows.result.now in
    let banded : c.if-options.banded.now ≡ cond o.bands rows [] = elim c.if-options.branch [
      | then-options w ↦ search rules
      | else-options w ↦ search rules
    ] in
    let r = c.as_slice-rows.ensures.value ∙ c.in_ok-rows.ensures in
    let m : c.as_slice-2.result.now ≡ marks_from 0 f.vertices.now f.numbers.now c.top.result = search rules in
    let same_marks : c.as_slice.result.now ≡ c.as_slice-2.result.now = c.as_slice.ensures.value ∙ sym c.as_slice-2.ensures.value in
    let text = drawn o f.vertices.now f.levels.now f.numbers.now f.counts.now f.total rows c.if-options.banded.now c.as_slice.result.now c.as_slice-2.result.now c.top.result c.min-many.result c.of.result
    c.requires.levels.1 r c.top.ensures m banded (search rules) same_marks c.of.ensures.value in
    subst (λ t. IfOk c.to_string.result (λ s. string_bytes s ≡ t)) text c.to_string.ensures.ok
