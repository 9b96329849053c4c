-- A header and a body are a record. Assumes nothing.
use Rattle.std.proofs.Common.{◌≡◌, ℕ, ◌≤◌, List, ◌++◌, length, ap, ◌∙◌, subst}
use Rattle.std.proofs.lemmas.List.{append_assoc}
use Rattle.packs.specs.Bytes.{le}
use Rattle.packs.specs.Record.{a_record}
use Rattle.marker.specs.Wrote.{Wrote}
use Rattle.marker.proofs.Writing.{wrote_both}

pub wrote_record : (at m e size kind : ℕ) (a b c body : List ℕ) → m ≤ length a → Wrote at a b (le 4 size ++ le 2 kind) m → Wrote m b c body e → size ≡ length body → Wrote at a c (a_record kind body) e
wrote_record at m e size kind a b c body room first second same =
    subst (λ xs. Wrote at a c xs e) (append_assoc (le 4 size) (le 2 kind) body ∙ ap (λ n. le 4 n ++ (le 2 kind ++ body)) same)
    (wrote_both at m e a b c (le 4 size ++ le 2 kind) body room first second)
