-- The outcomes of reading a record, one by one. Assumes nothing.
use Rattle.std.proofs.Common.{◌≡◌, ℕ, ◌+◌, ◌-◌, ◌<◌, ◌≤◌, true, false, eqb, leb, List, length, take, drop, Ok, Err, sym, ap, ◌∙◌, length-drop}
use Rattle.std.proofs.lemmas.List.{drop-drop}
use Rattle.std.proofs.lemmas.Bool.{cond-true, cond-false, le-leb, lt-leb, eq-eqb, ne_eqb}
use Rattle.lines.specs.Fault.{fault}
use Rattle.lines.specs.declared.fault.Cause.TheVariants.{RunsOut, WrongKind, WrongLength}
use Rattle.lines.specs.declared.fault.Layer.TheVariants.{Pack}
use Rattle.packs.specs.declared.record.Due.{Due}
use Rattle.packs.specs.Bytes.{little, field}
use Rattle.packs.specs.Record.{kind_of, fits, record_at}

-- a field of what is left, from place `at` on
pub field_drop : (w p at : ℕ) (bs : List ℕ) → field w p (drop at bs) ≡ field w (at + p) bs
field_drop w p at bs = ap (λ cs. little (take w cs)) (drop-drop p at bs)

module _ (due : Due) (at : ℕ) (bs : List ℕ) where
  abbrev rest : List ℕ
  rest = drop at bs

  module _ (h : 6 ≤ length bs - at) where
    header : leb 6 (length rest) ≡ true
    header = le-leb 6 (length rest) (rw (length-drop at bs) h)

    pub other_kind : (field 2 (at + 4) bs ≡ kind_of due → ⊥) → record_at due at rest ≡ Err (fault WrongKind Pack at)
    other_kind d = cond-true _ _ _ header ∙ cond-false _ _ _ (ne_eqb _ _ (λ e. d (sym (field_drop 2 4 at bs) ∙ e)))

    module _ (k : field 2 (at + 4) bs ≡ kind_of due) where
      kind : eqb (field 2 4 rest) (kind_of due) ≡ true
      kind = eq-eqb _ _ (field_drop 2 4 at bs ∙ k)

      pub other_length : fits due (field 4 at bs) ≡ false → record_at due at rest ≡ Err (fault WrongLength Pack at)
      other_length f = cond-true _ _ _ header ∙ cond-true _ _ _ kind ∙ cond-false _ _ _ f

      pub no_body : fits due (field 4 at bs) ≡ true → length bs - at < 6 + field 4 at bs → record_at due at rest ≡ Err (fault RunsOut Pack at)
      no_body f l = cond-true _ _ _ header ∙ cond-true _ _ _ kind ∙ cond-true _ _ _ f ∙ cond-false _ _ _ (lt-leb (6 + field 4 at bs) (length rest) (rw (length-drop at bs) l))

      pub whole : fits due (field 4 at bs) ≡ true → 6 + field 4 at bs ≤ length bs - at → record_at due at rest ≡ Ok (field 4 at bs)
      whole f l = cond-true _ _ _ header ∙ cond-true _ _ _ kind ∙ cond-true _ _ _ f ∙ cond-true _ _ _ (le-leb (6 + field 4 at bs) (length rest) (rw (length-drop at bs) l))
