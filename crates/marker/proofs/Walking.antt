-- Walking from record to record. Assumes nothing.
use Rattle.std.proofs.Common.{◌≡◌, ℕ, zero, suc, ◌+◌, ◌-◌, ◌<◌, true, List, ◌∷◌, length, take, drop, Ok, Err, sym, refl, ap, ◌∙◌, add_assoc, ap₂, arith}
use Rattle.std.proofs.lemmas.List.{drop-drop, take_rest}
use Rattle.std.proofs.lemmas.Bool.{and_from, and_parts, le-leb}
use Rattle.lines.specs.Fault.{then}
use Rattle.lines.specs.declared.fault.Fault.{Fault}
use Rattle.packs.specs.declared.record.Due.TheVariants.{Chain}
use Rattle.packs.specs.Bytes.{field}
use Rattle.packs.specs.Record.{record_at}
use Rattle.packs.proofs.Answered.{then_ok}
use Rattle.packs.proofs.RecordTrips.{begins}
use Rattle.marker.specs.Records.{numbers, after, whole, chains_in, chains_end}

-- past a record at place `at`
drop_record : (at size : ℕ) (bs : List ℕ) → drop (6 + size) (drop at bs) ≡ drop (at + 6 + size) bs
drop_record at size bs = drop-drop (6 + size) at bs ∙ ap (λ p. drop p bs) (sym (add_assoc at 6 size))

-- level k of m is next: its record is sound
pub end_further : (n m k at size : ℕ) (bs : List ℕ) → k < m → record_at (Chain n) at (drop at bs) ≡ Ok size →
    chains_end n (m - k) at (drop at bs) ≡ chains_end n (m - (k + 1)) (at + 6 + size) (drop (at + 6 + size) bs)
end_further n m k at size bs h r =
    let e : m - k ≡ suc (m - (k + 1)) = omega arith in
    ap (λ j. chains_end n j at (drop at bs)) e
    ∙ ap (λ s. then s (λ z. chains_end n (m - (k + 1)) (at + 6 + z) (drop (6 + z) (drop at bs)))) r
    ∙ ap (chains_end n (m - (k + 1)) (at + 6 + size)) (drop_record at size bs)

-- or it is not
pub end_refused : (n m k at : ℕ) (f : Fault) (bs : List ℕ) → k < m → record_at (Chain n) at (drop at bs) ≡ Err f → chains_end n (m - k) at (drop at bs) ≡ Err f
end_refused n m k at f bs h r =
    let e : m - k ≡ suc (m - (k + 1)) = omega arith in
    ap (λ j. chains_end n j at (drop at bs)) e ∙ ap (λ s. then s (λ z. chains_end n (m - (k + 1)) (at + 6 + z) (drop (6 + z) (drop at bs)))) r

-- records whose structure is right lie within the bytes
pub whole_from : (n m at stop : ℕ) (rest : List ℕ) → chains_end n m at rest ≡ Ok stop → whole m rest ≡ true
whole_from n zero at stop rest h = refl
whole_from n (suc m) at stop rest h =
    let p = then_ok _ _ stop h in
    let b = begins (Chain n) at rest p.0 p.1 in
    let e = b.size in
    let i = b.inside in
    and_from _ _ (le-leb (6 + field 4 0 rest) (length rest) (omega arith))
    (whole_from n m (at + 6 + p.0) stop (after rest) (ap (λ z. chains_end n m (at + 6 + p.0) (drop (6 + z) rest)) e ∙ p.2))

-- the first of m records and the others, as the code cuts them out
module _ (m size : ℕ) (rest : List ℕ) (some : 0 < m) (e : size ≡ field 4 0 rest) where
  others : take (length rest - (6 + size)) (drop (6 + size) rest) ≡ after rest
  others = take_rest rest (6 + size) ∙ ap (λ z. drop (6 + z) rest) e

  more : m ≡ suc (m - 1)
  more = omega arith

  pub whole_others : whole m rest ≡ true → whole (m - 1) (take (length rest - (6 + size)) (drop (6 + size) rest)) ≡ true
  whole_others h = ap (whole (m - 1)) others ∙ (and_parts _ _ (ap (λ k. whole k rest) (sym more) ∙ h)).1

  pub chains_first : (chain : List ℕ) → chain ≡ numbers (take (6 + size - 6) (drop 6 rest)) →
      chains_in m rest ≡ chain ∷ chains_in (m - 1) (take (length rest - (6 + size)) (drop (6 + size) rest))
  chains_first chain c =
      let z : 6 + size - 6 ≡ field 4 0 rest = omega arith in
      ap (λ k. chains_in k rest) more
      ∙ ap₂ (λ x r. x ∷ chains_in (m - 1) r) (sym (c ∙ ap (λ k. numbers (take k (drop 6 rest))) z)) (sym others)
