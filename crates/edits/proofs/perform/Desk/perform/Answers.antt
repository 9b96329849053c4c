use Rattle.std.proofs.Common.{rules, ◌≡◌, length, map, Ok, sym, ap, ◌∙◌, subst}
use Rattle.std.proofs.lemmas.List.{with_items_is, length-map}
use Rattle.sheets.specs.Sheet.{settings_of}
use Rattle.sheets.specs.Memory.{memory_of}
use Rattle.sheets.specs.Call.{room_of}
use Rattle.sheets.specs.Settings.{opened, LawfulSettings}
use Rattle.sheets.proofs.Histories as histories
use Rattle.edits.specs.Edit.{call_of}
use Rattle.edits.specs.Perform.{formed, EachLeast}
use Rattle.edits.proofs.Told.{obeys_opened, performs}
use Rattle.edits.proofs.Drew.{each_least}
use Rattle.edits.proofs.perform.Desk.perform.Goals as goal

pub returns : goal.returns
returns g c =
    let d = c.args.self.now in
    let K = g.P.Price.kind in
    let link = g.P.Price.link in
    let m = g.M.Measure in
    let s = opened (length d.line.now) d.levels.now m.LARGEST (m.says c.args.measure) in
    let answers = c.replay_watched.new.answers in
    let calls = map (call_of d.line d.room) d.edits.now in
    let opening = c.in_ok-sheet.ensures.answer in
    let made : c.as_slice.result.now ≡ calls = search rules in
    let held : room_of (memory_of c.as_mut_slice.result.now c.as_mut_slice-2.result.now c.as_mut_slice-3.result.now) ≡ d.room = search rules in
    let obeys =
    obeys_opened K link d.room d.line (settings_of m.LARGEST m.says c.in_ok-sheet.sheet) s _ c.as_slice.result.now d.edits.now answers opening.1 held made c.replay_watched.ensures
    in
    let whole = with_items_is c.in_ok-answers.answers answers (c.replay_watched.auto.answers ∙ c.as_mut_slice-4.ensures.len) in
    let shown = ap (map (formed K)) (sym whole) ∙ sym c.in_ok-forms_of.ensures in
    let lawful = subst LawfulSettings opening.1 c.in_ok-sheet.ensures.lawful in
    let least = histories.each_least K link g.met.P.Price.rules s lawful (g.met.M.Measure.rules c.args.measure) d.room calls answers (length calls) obeys in record {
      told = performs K link d.room d.line d.levels.now m.LARGEST (m.says c.args.measure) d.edits.now answers (rw (← made) (search rules)) opening.0 obeys ∙ ap Ok shown;
      each_least =
          subst (EachLeast K link s d.line.now d.edits.now) shown
          (each_least K link d.room d.line s d.edits.now answers (length calls) (length-map d.edits.now (call_of d.line d.room)) obeys least);
    }
