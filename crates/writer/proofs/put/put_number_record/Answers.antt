use Rattle.std.proofs.Common.{[], ◌∷◌, refl, rules}
use Rattle.writer.proofs.Putting.{wrote_record}
use Rattle.writer.proofs.put.put_number_record.Goals as goal

pub returns-clause-wrote : goal.returns-clause-wrote
returns-clause-wrote c =
    wrote_record c.args.at c.put_header-at.result c.put.result 2 1 c.args.bytes.now c.put_header-at.new.bytes c.put.new.bytes (c.args.measure ∷ (c.args.price ∷ [])) (search rules)
    c.put_header-at.ensures c.put.ensures refl
