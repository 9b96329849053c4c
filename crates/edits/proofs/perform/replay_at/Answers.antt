use Rattle.std.proofs.Common.{◌≡◌, length, get_or, Ok, ◌∙◌, arith}
use Rattle.sheets.specs.Sheet.{settings_of}
use Rattle.sheets.specs.Memory.{memory_of}
use Rattle.sheets.specs.Call.{room_of, told}
use Rattle.sheets.specs.declared.call.Call.TheVariants.{Pin}
use Rattle.sheets.specs.declared.call.Outcome.TheVariants.{Done}
use Rattle.edits.proofs.Watched.{alone_length, told_alone, after_alone, put_back}
use Rattle.edits.proofs.perform.replay_at.Goals as goal

pub returns-clause-answer : goal.returns-clause-answer
returns-clause-answer g c =
    let s = settings_of g.M.Measure.LARGEST g.M.Measure.says c.args.sheet.now in
    let held = room_of (memory_of c.args.grades.now c.args.prices.now c.args.stays.now) in
    let answers = c.args.answers.now in
    let calls_one = alone_length c.args.calls.now c.args.q (Pin 0) c.requires.call in
    let answers_one = alone_length answers c.args.q (Ok Done) c.requires.place in
    let one : c.replay.result ≡ 1 = omega (arith, calls_one, answers_one, c.replay.ensures.performs_all) in
    let size : length c.replay.new.answers ≡ 1 = c.replay.auto.answers ∙ answers_one in
    put_back answers c.args.q c.replay.new.answers (told g.P.Price.kind g.P.Price.link s held (get_or c.args.calls.now c.args.q (Pin 0))) c.requires.place
    (told_alone g.P.Price.kind g.P.Price.link held s c.args.calls.now c.args.q c.replay.result c.replay.new.answers c.requires.call one size
    (c.replay.ensures.performed c.requires.lawful).obeys_settings)

pub returns-clause-settings_after : goal.returns-clause-settings_after
returns-clause-settings_after g c =
    let s = settings_of g.M.Measure.LARGEST g.M.Measure.says c.args.sheet.now in
    let calls_one = alone_length c.args.calls.now c.args.q (Pin 0) c.requires.call in
    let answers_one = alone_length c.args.answers.now c.args.q (Ok Done) c.requires.place in
    let one : c.replay.result ≡ 1 = omega (arith, calls_one, answers_one, c.replay.ensures.performs_all) in
    c.replay.ensures.settings_after ∙ after_alone s c.args.calls.now c.args.q c.replay.result c.requires.call one
