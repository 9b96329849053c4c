use Rattle.std.proofs.Common.{length, take, string_bytes, vec_items, sym, ap, ◌∙◌, rules}
use Rattle.std.specs.List.{flat_map, zip}
use Rattle.std.proofs.lemmas.List.{length_push}
use Rattle.std.proofs.lemmas.Slice.Zip.{zip_turn, zip_end}
use Rattle.edits.specs.Text.{answer_text}
use Rattle.edits.proofs.Texts.{one_more, all_pairs}
use Rattle.edits.proofs.text.edits_text.Goals as goal

pub loop-edit-preserved : goal.loop-edit-preserved
loop-edit-preserved c =
    let es = c.args.edits.now in
    let answers = vec_items c.args.edited.now.answers in
    let at = zip_turn es answers c.loop-edit.yielded c.into_iter-edit-iterator.result c.loop-edit.edit-iterator c.next.new.self c.next.result (search rules) (search rules)
    c.loop-edit.yielded_by (c.in-Some.edit, c.in-Some.answer) (search rules) c.next.ensures.steps in
    one_more (λ p. answer_text c.args.edited.now.levels p.0 p.1) es answers (length c.loop-edit.yielded) c.in-Some.edit.now c.in-Some.answer.now (string_bytes c.loop-edit.text)
    (string_bytes c.in_ok-answer_text.field-0) (string_bytes c.push_str.new.self) at.0 at.1 (at.2 _) (at.3 _) c.loop-edit.invariant c.in_ok-answer_text.ensures (search rules) ∙
    ap (λ n. flat_map (λ p. answer_text c.args.edited.now.levels p.0 p.1) (take n (zip es answers))) (sym (length_push c.loop-edit.yielded (c.in-Some.edit, c.in-Some.answer)))

pub returns : goal.returns
returns c =
    let es = c.args.edits.now in
    let answers = vec_items c.args.edited.now.answers in
    let all = zip_end es answers c.loop-edit.yielded c.into_iter-edit-iterator.result c.loop-edit.edit-iterator c.next.new.self c.next.result (search rules) (search rules)
    c.loop-edit.yielded_by (search rules) c.next.ensures.steps in
    all_pairs (λ p. answer_text c.args.edited.now.levels p.0 p.1) es answers (length c.loop-edit.yielded) (string_bytes c.loop-edit.text) all c.loop-edit.invariant
