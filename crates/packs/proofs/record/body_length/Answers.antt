use Rattle.std.proofs.Common.{◌≡◌, true, false, Ok, Err, sym, ap, ◌∙◌, arith}
use Rattle.packs.specs.Record.{fits, kind_of}
use Rattle.packs.specs.Bytes.{field}
use Rattle.packs.proofs.Records.{other_kind, other_length, no_body, whole}
use Rattle.packs.proofs.record.body_length.Goals as goal

pub returns-then-u16_at-kind-clause-answer : goal.returns-then-u16_at-kind-clause-answer
returns-then-u16_at-kind-clause-answer c =
    ap Err c.new-then-u16_at-kind.ensures ∙ sym (other_kind c.args.due c.args.at c.args.bytes.now (omega arith) (λ e. c.if-u16_at-kind.true (c.u16_at.ensures ∙ e ∙ sym c.kind.ensures)))

pub returns-then-not-fits-clause-answer : goal.returns-then-not-fits-clause-answer
returns-then-not-fits-clause-answer c =
    let bs = c.args.bytes.now in
    let k : field 2 _ bs ≡ kind_of c.args.due = sym c.u16_at.ensures ∙ c.if-u16_at-kind.false ∙ c.kind.ensures in
    let f : fits c.args.due (field 4 c.args.at bs) ≡ false = sym (ap (fits c.args.due) c.u32_at-size.ensures) ∙ sym c.if-not-fits.ensures in
    ap Err c.new-then-not-fits.ensures ∙ sym (other_length c.args.due c.args.at bs (omega arith) k f)

pub returns-then-left-size-clause-answer : goal.returns-then-left-size-clause-answer
returns-then-left-size-clause-answer c =
    let bs = c.args.bytes.now in
    let k : field 2 _ bs ≡ kind_of c.args.due = sym c.u16_at.ensures ∙ c.if-u16_at-kind.false ∙ c.kind.ensures in
    let f : fits c.args.due (field 4 c.args.at bs) ≡ true = sym (ap (fits c.args.due) c.u32_at-size.ensures) ∙ sym c.if-not-fits.ensures in
    ap Err c.new-then-left-size.ensures ∙ sym (no_body c.args.due c.args.at bs (omega arith) k f (omega arith))

pub returns-clause-answer : goal.returns-clause-answer
returns-clause-answer c =
    let bs = c.args.bytes.now in
    let k : field 2 _ bs ≡ kind_of c.args.due = sym c.u16_at.ensures ∙ c.if-u16_at-kind.false ∙ c.kind.ensures in
    let f : fits c.args.due (field 4 c.args.at bs) ≡ true = sym (ap (fits c.args.due) c.u32_at-size.ensures) ∙ sym c.if-not-fits.ensures in
    ap Ok c.u32_at-size.ensures ∙ sym (whole c.args.due c.args.at bs (omega arith) k f (omega arith))
