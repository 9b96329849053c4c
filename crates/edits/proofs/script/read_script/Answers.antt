use Rattle.std.proofs.Common.{rules, ◌≡◌, map, Some, None, ◌+◌, [], ◌∷◌, ◌++◌, Ok, Err, sym, ap, ◌∙◌, subst}
use Rattle.edits.specs.Script.{edit_in, script_in, ReadAs}
use Rattle.edits.specs.declared.script.ScriptError.TheVariants.{Line}
use Rattle.edits.proofs.Scripts.{onto, later, passes, adds, stops, ends, gives_back}
use Rattle.edits.proofs.script.read_script.Goals as goal
use Rattle.edits.proofs.script.read_script.Goals.{then-not-is_blank_or_comment+in_ok-edit+in_ok-map_err, else-not-is_blank_or_comment}

pub returns-in_err-edit-clause-answer : goal.returns-in_err-edit-clause-answer
returns-in_err-edit-clause-answer c =
    let lines = c.deref-line-items.result.now in
    let words = map (λ w. w.now) c.deref.result.now in
    let read = ap (map (λ w. w.now)) c.deref.ensures.value ∙ c.in_ok-words.ensures.answer in
    let is : c.from_residual-in_err-edit.result ≡ Err c.in_err-edit.field-0.0 = search rules in
    let line : c.in_err-edit.field-0.0 ≡ Line (c.loop-i.i + 1) = search rules in
    let same : None ≡ edit_in words = search rules in
    subst (ReadAs (script_in c.args.text.now)) (sym (is ∙ ap Err line))
    (c.loop-i.invariant.ordered ∙ stops lines c.loop-i.i _ c.loop-i-test.true words c.loop-i.edits.items read c.if-not-is_blank_or_comment.ensures same)

pub returns-in_err-edit-clause-gives_script_back : goal.returns-in_err-edit-clause-gives_script_back
returns-in_err-edit-clause-gives_script_back c = gives_back c.args.text.now c.from_residual-in_err-edit.result (returns-in_err-edit-clause-answer c)

pub loop-i-preserved : goal.loop-i-preserved
loop-i-preserved c =
    let lines = c.deref-line-items.result.now in
    let words = map (λ w. w.now) c.deref.result.now in
    let read = ap (map (λ w. w.now)) c.deref.ensures.value ∙ c.in_ok-words.ensures.answer in
    elim c.if-not-is_blank_or_comment.branch [
      | then-not-is_blank_or_comment+in_ok-edit+in_ok-map_err w ↦
          let grown : w.push.new.self.items ≡ c.loop-i.edits.items ++ (w.in_ok-edit.edit ∷ []) = search rules in
          let edit : Some w.in_ok-edit.edit ≡ edit_in words = search rules in
          record {
            lines = c.loop-i.invariant.lines;
            ordered = c.loop-i.invariant.ordered ∙ adds lines c.loop-i.i _ c.loop-i-test.true words c.loop-i.edits.items w.in_ok-edit.edit read w.if-not-is_blank_or_comment.ensures edit ∙
                ap (λ found. onto found (later lines c.loop-i.i)) (sym (ap (λ v. v.items) w.edits-is ∙ grown));
          }
      | else-not-is_blank_or_comment w ↦
          record {
            lines = c.loop-i.invariant.lines;
            ordered = c.loop-i.invariant.ordered ∙
                ap (onto c.loop-i.edits.items) (passes lines c.loop-i.i _ c.loop-i-test.true words read w.if-not-is_blank_or_comment.ensures) ∙
                ap (λ v. onto v.items (later lines c.loop-i.i)) (sym w.edits-is);
          }
    ]

pub returns-clause-answer : goal.returns-clause-answer
returns-clause-answer c = c.loop-i.invariant.ordered ∙ ends c.deref-line-items.result.now c.loop-i.i c.loop-i.edits.items c.loop-i-test.false

pub returns-clause-gives_script_back : goal.returns-clause-gives_script_back
returns-clause-gives_script_back c = gives_back c.args.text.now (Ok c.loop-i.edits) (returns-clause-answer c)
