-- Records written and read back. Assumes nothing.
use Rattle.std.proofs.Common.{◌≡◌, ℕ, ◌+◌, ◌<◌, ◌≤◌, true, List, ◌++◌, length, take, drop, Ok, sym, ap, ◌∙◌, arith, lit<, length-drop}
use Rattle.std.proofs.lemmas.List.{append_assoc, length-append, take-append-drop, length-take-le, drop-drop, drop_at}
use Rattle.std.proofs.lemmas.Bool.{cond-true, le-leb, leb-true, eq-eqb, eqb-true}
use Rattle.packs.specs.declared.record.Due.{Due}
use Rattle.packs.specs.declared.record.Due.TheVariants.{Numbers, Vertices, Levels, Chain, Total}
use Rattle.packs.specs.Bytes.{Octets, le, field}
use Rattle.packs.specs.Record.{kind_of, fits, a_record, record_at}
use Rattle.packs.proofs.Answered.{cond_ok, same_answer}
use Rattle.packs.proofs.LittleEndian.{little_le, le_field, octets_drop}

-- What bytes keep that begin with the record that is due, with a body of n bytes.
pub record Begins (due : Due) (rest : List ℕ) (n : ℕ) : Type 0 where
  pub header : 6 ≤ length rest
  pub kind : field 2 4 rest ≡ kind_of due
  pub size : field 4 0 rest ≡ n
  pub fitting : fits due n ≡ true
  pub inside : 6 + n ≤ length rest

pub begins : (due : Due) (at : ℕ) (rest : List ℕ) (n : ℕ) → record_at due at rest ≡ Ok n → Begins due rest n
begins due at rest n h =
    let a = cond_ok _ _ _ n h in
    let b = cond_ok _ _ _ n a.1 in
    let c = cond_ok _ _ _ n b.1 in
    let d = cond_ok _ _ _ n c.1 in
    let e : field 4 0 rest ≡ n = same_answer (field 4 0 rest) n d.1 in
    record {
      header = leb-true 6 (length rest) a.0;
      kind = eqb-true (field 2 4 rest) (kind_of due) b.0;
      size = e;
      fitting = sym (ap (fits due) e) ∙ c.0;
      inside = let f = leb-true (6 + field 4 0 rest) (length rest) d.0 in omega arith;
    }

pub length_record : (kind : ℕ) (body : List ℕ) → length (a_record kind body) ≡ 6 + length body
length_record kind body = omega arith

-- the body that was read
pub body_length : (due : Due) (rest : List ℕ) (n : ℕ) → Begins due rest n → length (take n (drop 6 rest)) ≡ n
body_length due rest n b = length-take-le n (drop 6 rest) (let i = b.inside in rw (length-drop 6 rest) (omega arith))

pieces : (n : ℕ) (rest : List ℕ) → rest ≡ (take 4 rest ++ (take 2 (drop 4 rest) ++ take n (drop 6 rest))) ++ drop (6 + n) rest
pieces n rest =
    let body = take n (drop 6 rest) in
    let end : body ++ drop (6 + n) rest ≡ drop 6 rest = ap (λ xs. body ++ xs) (sym (drop-drop n 6 rest)) ∙ take-append-drop n (drop 6 rest) in
    let mid : take 2 (drop 4 rest) ++ drop 6 rest ≡ drop 4 rest = ap (λ xs. take 2 (drop 4 rest) ++ xs) (sym (drop-drop 2 4 rest)) ∙ take-append-drop 2 (drop 4 rest) in
    sym (append_assoc (take 4 rest) (take 2 (drop 4 rest) ++ body) (drop (6 + n) rest) ∙ ap (λ xs. take 4 rest ++ xs)
    (append_assoc (take 2 (drop 4 rest)) body (drop (6 + n) rest) ∙ ap (λ xs. take 2 (drop 4 rest) ++ xs) end ∙ mid) ∙ take-append-drop 4 rest)

-- bytes that begin with a record are that record and the rest
pub record_split : (due : Due) (at : ℕ) (rest : List ℕ) (n : ℕ) → Octets rest → record_at due at rest ≡ Ok n →
    rest ≡ a_record (kind_of due) (take n (drop 6 rest)) ++ drop (6 + n) rest
record_split due at rest n o h =
    let b = begins due at rest n h in
    let body = take n (drop 6 rest) in
    let p = b.header in
    let e : take 4 rest ≡ le 4 (length body) =
    sym (le_field 4 0 rest o (omega arith)) ∙ ap (le 4) (b.size ∙ sym (body_length due rest n b)) in
    let k : take 2 (drop 4 rest) ≡ le 2 (kind_of due) = sym (le_field 2 4 rest o (omega arith)) ∙ ap (le 2) b.kind in
    pieces n rest ∙ ap (λ xs. (xs ++ (take 2 (drop 4 rest) ++ body)) ++ drop (6 + n) rest) e ∙ ap (λ xs. (le 4 (length body) ++ (xs ++ body)) ++ drop (6 + n) rest) k

-- the same, from place `at` of the bytes on
pub record_split_at : (due : Due) (place at : ℕ) (bs : List ℕ) (n : ℕ) → Octets bs → record_at due place (drop at bs) ≡ Ok n →
    drop at bs ≡ a_record (kind_of due) (take n (drop (at + 6) bs)) ++ drop (at + (6 + n)) bs
record_split_at due place at bs n o h =
    record_split due place (drop at bs) n (octets_drop at bs o) h ∙
    ap (λ xs. a_record (kind_of due) (take n xs) ++ drop (6 + n) (drop at bs)) (drop-drop 6 at bs) ∙
    ap (λ xs. a_record (kind_of due) (take n (drop (at + 6) bs)) ++ xs) (drop-drop (6 + n) at bs)

kind_small : (due : Due) → kind_of due < 65536
kind_small Numbers = lit< tt
kind_small Vertices = lit< tt
kind_small Levels = lit< tt
kind_small (Chain n) = lit< tt
kind_small Total = lit< tt

-- a record that was written is read
pub record_join : (due : Due) (at : ℕ) (body rest : List ℕ) → fits due (length body) ≡ true → length body < 4294967296 →
    record_at due at (a_record (kind_of due) body ++ rest) ≡ Ok (length body)
record_join due at body rest f s =
    let bs = a_record (kind_of due) body ++ rest in
    let l : length bs ≡ 6 + length body + length rest = length-append (a_record (kind_of due) body) rest ∙ omega arith in
    let e : field 4 0 bs ≡ length body = little_le 4 (length body) s in
    let k : field 2 4 bs ≡ kind_of due = little_le 2 (kind_of due) (kind_small due) in
    cond-true _ _ _ (le-leb 6 (length bs) (omega arith)) ∙ cond-true _ _ _ (eq-eqb _ _ k) ∙ cond-true _ _ _ (ap (fits due) e ∙ f) ∙
    cond-true _ _ _ (le-leb (6 + field 4 0 bs) (length bs) (omega arith)) ∙ ap Ok e

-- what comes after it
pub record_rest : (kind : ℕ) (body rest : List ℕ) → drop (6 + length body) (a_record kind body ++ rest) ≡ rest
record_rest kind body rest = drop_at (a_record kind body) rest (6 + length body) (length_record kind body)
