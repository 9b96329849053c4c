use Rattle.std.proofs.Common.{◌≡◌, length, take, string_bytes, vec_items}
use Rattle.std.specs.List.{flat_map, zip}
use Rattle.edits.specs.Text.{answer_text}
use Rattle.edits.proofs.text.edits_text.Given as goal

abbrev pub invariant-loop-edit : goal.invariant-loop-edit
invariant-loop-edit l =
    string_bytes l.text ≡ flat_map (λ p. answer_text l.edited.levels p.0 p.1) (take (length l.yielded) (zip l.edits (vec_items l.edited.answers)))
