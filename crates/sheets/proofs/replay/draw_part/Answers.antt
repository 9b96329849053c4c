use Rattle.std.proofs.Common.{rules}
use Rattle.sheets.specs.Sheet.{settings_of}
use Rattle.sheets.proofs.Parts.{in_part}
use Rattle.sheets.proofs.replay.draw_part.Goals as goal

pub returns-clause-memory_after : goal.returns-clause-memory_after
returns-clause-memory_after g c lawful =
    in_part g.P.Price.kind g.P.Price.link (settings_of g.M.Measure.LARGEST g.M.Measure.says c.args.sheet.now) _ c.args.grades.now c.draw.new.grades c.args.prices.now c.draw.new.prices
    c.args.stays.now c.draw.new.stays c.min-grades_lent.result c.min-prices_lent.result c.min-stays_lent.result
    c.draw.result (search rules) (search rules) (search rules) _ (search rules)
