use Rattle.std.proofs.Common.{◌≡◌, ◌+◌, false, ◌&&◌, leb, get_or, Err, sym, ap, ◌∙◌, arith}
use Rattle.std.proofs.lemmas.List.{at_drop_all}
use Rattle.std.proofs.lemmas.Bool.Decides.{nat_tests}
use Rattle.lines.specs.Level.{level, judged_from}
use Rattle.lines.proofs.Levels.{lawful_from, bad_tolerance, bad_weight}
use Rattle.lines.proofs.level.check_levels.Goals as goal
use Rattle.lines.proofs.level.check_levels.Goals.{then-l-least-via-then-l-least, then-l-least-via-else-l-least+then-l-largest, then-l-lt1-via-then-l-lt1, then-l-lt1-via-else-l-lt1+then-l-gt1000}

pub returns-then-l-least : goal.returns-then-l-least
returns-then-l-least c =
    let ls = c.args.levels.now in
    let l = get_or ls c.loop-i.i (level 0 0) in
    let b : (leb c.loop-i.least l.tolerance && leb l.tolerance c.args.largest) ≡ false =
    elim c.then-l-least.branch [ then-l-least-via-then-l-least w ↦ grind (arith, nat_tests) | then-l-least-via-else-l-least+then-l-largest w ↦ grind (arith, nat_tests) ] in
    let e = ap Err c.new.ensures ∙ sym (bad_tolerance c.args.largest c.args.layer c.loop-i.least c.loop-i.i ls c.loop-i-test.true b) ∙ c.loop-i.invariant.0 in
    record { answer = e; lawful = lawful_from c.args.largest c.args.layer ls _ e }

pub returns-then-l-lt1 : goal.returns-then-l-lt1
returns-then-l-lt1 c =
    let ls = c.args.levels.now in
    let l = get_or ls c.loop-i.i (level 0 0) in
    let b : (leb 1 l.weight && leb l.weight 1000) ≡ false =
    elim c.then-l-lt1.branch [ then-l-lt1-via-then-l-lt1 w ↦ grind (arith, nat_tests) | then-l-lt1-via-else-l-lt1+then-l-gt1000 w ↦ grind (arith, nat_tests) ] in
    let e = ap Err c.new-then-l-lt1.ensures ∙ sym (bad_weight c.args.largest c.args.layer c.loop-i.least c.loop-i.i ls c.loop-i-test.true (grind (arith, nat_tests)) b) ∙ c.loop-i.invariant.0 in
    record { answer = e; lawful = lawful_from c.args.largest c.args.layer ls _ e }

pub returns : goal.returns
returns c =
    let ls = c.args.levels.now in
    let e = sym (at_drop_all (judged_from c.args.largest c.args.layer (c.loop-i.i + 1) c.loop-i.least) ls c.loop-i.i c.loop-i-test.false) ∙ c.loop-i.invariant.0 in
    record { answer = e; lawful = lawful_from c.args.largest c.args.layer ls _ e }
