use Rattle.std.proofs.Common.{◌/◌, ap₂, ◌∙◌, arith}
use Rattle.std.proofs.lemmas.List.{take_at, take_rest}
use Rattle.packs.specs.Job.{vertex_from, items}
use Rattle.packs.proofs.reader.Head.decode.Goals as goal

pub returns-clause-vertices : goal.returns-clause-vertices
returns-clause-vertices c =
    take_at c.read_items.new.out _ (c.args.self.now.layout.vertices / 4) (omega arith) ∙ c.read_items.ensures
    ∙ ap₂ (items 4 vertex_from) (omega arith) (take_rest c.args.self.now.bytes.now 14)
