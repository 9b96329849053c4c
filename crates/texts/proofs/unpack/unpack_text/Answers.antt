use Rattle.std.proofs.Common.{rules, string_bytes, sym, subst}
use Rattle.std.proofs.lemmas.List.{take_rest}
use Rattle.std.proofs.lemmas.Result.{err_from_is_err_and}
use Rattle.packs.specs.Bytes.{Octets}
use Rattle.packs.proofs.LittleEndian.{octets_drop}
use Rattle.marker.specs.Reader.{ReadsWritten}
use Rattle.marker.proofs.Heads.{head_read}
use Rattle.marker.proofs.Reading.{reads_written}
use Rattle.texts.proofs.Unpacked.{refused_as, unpacked, says_packed}
use Rattle.texts.proofs.unpack.unpack_text.Goals as goal

pub placed_text-requires : goal.placed_text-requires
placed_text-requires c =
    let read = c.read_family_head in
    (head_read c.args.bytes.now c.in_ok-job.job c.in_ok-job.end _ _ _ _ c.in_ok-job.ensures.answer read.ensures.accepts_exactly_lawful_heads read.ensures.vertices read.ensures.levels).few

pub returns-in_err-comments-clause-answer : goal.returns-in_err-comments-clause-answer
returns-in_err-comments-clause-answer c =
    let read = c.read_family_head in
    let h = head_read c.args.bytes.now c.in_ok-job.job c.in_ok-job.end _ _ _ _ c.in_ok-job.ensures.answer read.ensures.accepts_exactly_lawful_heads read.ensures.vertices read.ensures.levels in
    let p = err_from_is_err_and c.from_residual-in_err-comments.result c.from_residual-in_err-comments.ensures.1 in
    rw (p.1, p.2) (refused_as c.args.bytes.now c.in_ok-job.job c.in_ok-job.end _ _ h _ (take_rest c.args.bytes.now c.in_ok-job.end) c.in_err-comments.field-0.0 c.in_err-comments.ensures)

pub returns-clause-answer : goal.returns-clause-answer
returns-clause-answer c =
    let read = c.read_family_head in
    let h = head_read c.args.bytes.now c.in_ok-job.job c.in_ok-job.end _ _ _ _ c.in_ok-job.ensures.answer read.ensures.accepts_exactly_lawful_heads read.ensures.vertices read.ensures.levels in
    unpacked c.args.bytes.now c.in_ok-job.job c.in_ok-job.end _ _ h _ (take_rest c.args.bytes.now c.in_ok-job.end) (string_bytes c.in_ok-text.text) (string_bytes c.in_ok-comments.comments)
    (string_bytes c.push_str.new.self) c.in_ok-text.ensures c.in_ok-comments.ensures (search rules)

pub returns-clause-packs_back : goal.returns-clause-packs_back
returns-clause-packs_back c =
    let read = c.read_family_head in
    let h = head_read c.args.bytes.now c.in_ok-job.job c.in_ok-job.end _ _ _ _ c.in_ok-job.ensures.answer read.ensures.accepts_exactly_lawful_heads read.ensures.vertices read.ensures.levels in
    let o : Octets c.args.bytes.now = search rules in
    says_packed c.args.bytes.now c.in_ok-job.job c.in_ok-job.end _ _ h _ (take_rest c.args.bytes.now c.in_ok-job.end) (string_bytes c.in_ok-text.text) (string_bytes c.in_ok-comments.comments)
    (string_bytes c.push_str.new.self) c.in_ok-text.ensures c.in_ok-comments.ensures (search rules) read.ensures.accepts_exactly_lawful_heads
    (subst (ReadsWritten c.in_ok-job.job.vertices c.in_ok-job.job.levels) (sym (take_rest c.args.bytes.now c.in_ok-job.end)) (reads_written c.in_ok-job.job.vertices c.in_ok-job.job.levels _ (octets_drop c.in_ok-job.end c.args.bytes.now o)))
