use Rattle.std.proofs.Common.{◌≡◌, subst, rules}
use Rattle.packs.specs.Bytes.{le, unsigned}
use Rattle.marker.specs.Wrote.{Wrote}
use Rattle.marker.proofs.Writing.{wrote_both}
use Rattle.writer.proofs.Numbers.{written_signed}
use Rattle.writer.proofs.put.VertexItem.put.Goals as goal

pub returns-clause-wrote : goal.returns-clause-wrote
returns-clause-wrote c =
    let x : c.cast_unsigned.result ≡ unsigned c.args.self.x = search (rules, written_signed c.args.self.x) in
    let y : c.cast_unsigned-2.result ≡ unsigned c.args.self.y = search (rules, written_signed c.args.self.y) in
    wrote_both c.args.at c.put_u16-at.result c.put_u16.result c.args.bytes.now c.put_u16-at.new.bytes c.put_u16.new.bytes (le 2 (unsigned c.args.self.x)) (le 2 (unsigned c.args.self.y)) (search rules)
    (subst (λ n. Wrote c.args.at c.args.bytes.now c.put_u16-at.new.bytes (le 2 n) c.put_u16-at.result) x c.put_u16-at.ensures)
    (subst (λ n. Wrote c.put_u16-at.result c.put_u16-at.new.bytes c.put_u16.new.bytes (le 2 n) c.put_u16.result) y c.put_u16.ensures)
