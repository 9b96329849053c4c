-- The total's record written and read back, and the structure of all records. Assumes nothing.
use Rattle.std.proofs.Common.{◌≡◌, ℕ, ◌+◌, List, [], ◌++◌, length, take, drop, Ok, sym, refl, ap, ◌∙◌, ap₂, arith, lit<, length-drop}
use Rattle.std.proofs.lemmas.List.{append-nil, drop_all}
use Rattle.std.proofs.lemmas.Bool.{cond-true, eqb-true, eq-eqb}
use Rattle.packs.specs.declared.record.Due.TheVariants.{Total}
use Rattle.packs.specs.Bytes.{Octets, le, field}
use Rattle.packs.specs.Record.{a_record, record_at}
use Rattle.packs.proofs.Answered.{then_ok, then_made, cond_ok, same_answer}
use Rattle.packs.proofs.LittleEndian.{little_le, le_fields, field_small, octets_drop}
use Rattle.packs.proofs.Records.{field_drop}
use Rattle.packs.proofs.RecordTrips.{begins, record_split_at, record_join}
use Rattle.marker.specs.Records.{total_record, chains_end, structure, claimed}
use Rattle.marker.specs.Reader.{FormFits}

-- What bytes keep whose chain records end at `stop`, with the total's record after them and nothing left over.
pub record Structured (n m stop : ℕ) (bs : List ℕ) : Type 0 where
  pub chains : chains_end n m 0 bs ≡ Ok stop
  pub total : record_at Total stop (drop stop bs) ≡ Ok 12
  pub whole : stop + 18 ≡ length bs

pub structured : (n m stop : ℕ) (bs : List ℕ) → structure n m bs ≡ Ok stop → Structured n m stop bs
structured n m stop bs h =
    let p = then_ok _ _ stop h in
    let q = then_ok _ _ stop p.2 in
    let r = cond_ok _ _ _ stop q.2 in
    let e : p.0 ≡ stop = same_answer p.0 stop r.1 in
    let k : q.0 ≡ 12 = eqb-true q.0 12 (begins Total p.0 (drop p.0 bs) q.0 q.1).fitting in
    record {
      chains = p.1 ∙ ap Ok e;
      total = ap (λ s. record_at Total s (drop s bs)) (sym e) ∙ q.1 ∙ ap Ok k;
      whole = ap (λ s. s + 18) (sym e) ∙ eqb-true (p.0 + 18) (length bs) r.0;
    }

pub structure_back : (n m stop : ℕ) (bs : List ℕ) → Structured n m stop bs → structure n m bs ≡ Ok stop
structure_back n m stop bs s = then_made _ _ stop s.chains ∙ then_made _ _ 12 s.total ∙ cond-true _ _ _ (eq-eqb (stop + 18) (length bs) s.whole)

-- the record that was read
pub total_split : (stop : ℕ) (bs : List ℕ) → Octets bs → record_at Total stop (drop stop bs) ≡ Ok 12 → stop + 18 ≡ length bs → drop stop bs ≡ total_record (claimed stop bs)
total_split stop bs o h e =
    let d = length-drop (stop + 6) bs in
    let B = drop (stop + 6) bs in
    let ten : stop + 6 + 4 ≡ stop + 10 = omega arith in
    let f : field 8 4 B ≡ field 8 (stop + 10) bs = field_drop 8 4 (stop + 6) bs ∙ ap (λ k. field 8 k bs) ten in
    let b : take 12 B ≡ le 4 (field 4 (stop + 6) bs) ++ le 8 (field 8 (stop + 10) bs) =
    sym (le_fields 4 8 B (octets_drop (stop + 6) bs o) (omega arith)) ∙ ap (λ x. le 4 (field 4 (stop + 6) bs) ++ le 8 x) f in
    record_split_at Total stop stop bs 12 o h ∙ ap (λ xs. a_record 5 (take 12 B) ++ xs) (drop_all (stop + 18) bs (omega arith)) ∙
    append-nil (a_record 5 (take 12 B)) ∙ ap (a_record 5) b

pub claimed_small : (stop : ℕ) (bs : List ℕ) → Octets bs → FormFits (claimed stop bs)
claimed_small stop bs o = (field_small 4 (stop + 6) bs o, field_small 8 (stop + 10) bs o)

-- the record that was written
pub total_back : (stop : ℕ) (form : ℕ × ℕ) → record_at Total stop (total_record form) ≡ Ok 12
total_back stop form =
    let body = le 4 form.0 ++ le 8 form.1 in
    ap (record_at Total stop) (sym (append-nil (a_record 5 body))) ∙ record_join Total stop body [] refl (lit< tt)

pub claimed_back : (stop : ℕ) (bs : List ℕ) (form : ℕ × ℕ) → FormFits form → drop stop bs ≡ total_record form → claimed stop bs ≡ form
claimed_back stop bs form s e =
    let a : field 4 (stop + 6) bs ≡ form.0 = sym (field_drop 4 6 stop bs) ∙ ap (field 4 6) e ∙ little_le 4 form.0 s.0 in
    let b : field 8 (stop + 10) bs ≡ form.1 = sym (field_drop 8 10 stop bs) ∙ ap (field 8 10) e ∙ little_le 8 form.1 s.1 in
    ap₂ (λ x y. (x, y)) a b
