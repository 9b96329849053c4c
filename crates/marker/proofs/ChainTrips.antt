-- Chain records written and read back. Assumes nothing.
use Rattle.std.proofs.Common.{◌≡◌, ℕ, zero, suc, ◌+◌, ◌*◌, ◌/◌, ◌%◌, ◌<◌, ◌≤◌, true, List, [], ◌∷◌, ◌++◌, length, take, drop, Ok, sym, refl, ap, ◌∙◌, arith}
use Rattle.std.specs.List.{flat_map, AllByRecursion}
use Rattle.std.proofs.lemmas.List.{append_assoc, append-nil, length-append, take_all, take_at}
use Rattle.std.proofs.lemmas.List.Elements.{All-from_recursion, recursion_from_All}
use Rattle.std.proofs.lemmas.Bool.{and_parts, and_from, leb-true, le-leb, eqb-true, eq-eqb}
use Rattle.packs.specs.declared.record.Due.TheVariants.{Chain}
use Rattle.packs.specs.Bytes.{Octets, le, field}
use Rattle.packs.specs.Record.{fits, a_record, record_at}
use Rattle.packs.specs.Job.{items}
use Rattle.packs.proofs.Answered.{then_ok, then_made, same_answer}
use Rattle.packs.proofs.ItemTrips.{length_joined, joined_items, items_joined, number_written}
use Rattle.packs.proofs.LittleEndian.{length_le, octets_take, octets_drop, field_small, field_front}
use Rattle.packs.proofs.RecordTrips.{begins, body_length, length_record, record_split, record_join, record_rest}
use Rattle.marker.specs.Records.{chain_record, number_from, numbers, body_of, after, chains_in, chains_end}
use Rattle.marker.specs.Reader.{ChainFits}
use Rattle.marker.proofs.Numbers.{length_numbers}

length_body : (c : List ℕ) → length (flat_map (le 2) c) ≡ 2 * length c
length_body = length_joined 2 (le 2) (length_le 2)

-- a body of whole numbers is its numbers
body_written : (body : List ℕ) → Octets body → length body % 2 ≡ 0 → flat_map (le 2) (numbers body) ≡ body
body_written body o e =
    joined_items 2 number_from (le 2) (number_written 2) (length body / 2) body o (omega arith) ∙ take_all (2 * (length body / 2)) body (omega arith)

-- numbers of two bytes are small
numbers_small : (k : ℕ) (body : List ℕ) → Octets body → AllByRecursion (λ v. v < 65536) (items 2 number_from k body)
numbers_small zero body o = tt
numbers_small (suc k) body o = (field_small 2 0 body o, numbers_small k (drop 2 body) (octets_drop 2 body o))

-- one record that was read
module _ (n at : ℕ) (rest : List ℕ) (o : Octets rest) (h : record_at (Chain n) at rest ≡ Ok (field 4 0 rest)) where
  body_size : length (body_of rest) ≡ field 4 0 rest
  body_size = body_length (Chain n) rest (field 4 0 rest) (begins (Chain n) at rest (field 4 0 rest) h)

  body_fits : (length (body_of rest) % 2 ≡ 0) × (4 ≤ length (body_of rest)) × (length (body_of rest) ≤ 2 * n)
  body_fits =
      let p = and_parts _ _ (begins (Chain n) at rest (field 4 0 rest) h).fitting in
      let e = eqb-true (field 4 0 rest % 2) 0 p.0 in
      let q = and_parts _ _ p.1 in
      let l = leb-true 4 (field 4 0 rest) q.0 in
      let u = leb-true (field 4 0 rest) (2 * n) q.1 in
      let s = body_size in
      (omega arith, omega arith, omega arith)

  body_octets : Octets (body_of rest)
  body_octets = octets_take _ _ (octets_drop 6 rest o)

  chain_read : flat_map (le 2) (numbers (body_of rest)) ≡ body_of rest
  chain_read = body_written (body_of rest) body_octets body_fits.0

  chain_fits : ChainFits n (numbers (body_of rest))
  chain_fits =
      let l = length_numbers (body_of rest) in
      let b = body_fits in
      (omega arith, omega arith, All-from_recursion (λ v. v < 65536) (numbers (body_of rest)) (numbers_small (length (body_of rest) / 2) (body_of rest) body_octets))

  chain_split : rest ≡ chain_record (numbers (body_of rest)) ++ after rest
  chain_split = record_split (Chain n) at rest (field 4 0 rest) o h ∙ ap (λ body. a_record 4 body ++ after rest) (sym chain_read)

-- What bytes keep that begin with m chain records, the first of them at place `at`, which end at `stop`.
pub record ChainsRead (n m at stop : ℕ) (rest : List ℕ) : Type 0 where
  pub left : List ℕ
  pub bytes : rest ≡ flat_map chain_record (chains_in m rest) ++ left
  pub ends : stop ≡ at + length (flat_map chain_record (chains_in m rest))
  pub fit : AllByRecursion (ChainFits n) (chains_in m rest)

pub chains_read : (n m at stop : ℕ) (rest : List ℕ) → Octets rest → chains_end n m at rest ≡ Ok stop → ChainsRead n m at stop rest
chains_read n zero at stop rest o h = let e = same_answer at stop h in record { left = rest; bytes = refl; ends = omega arith; fit = tt }
chains_read n (suc m) at stop rest o h =
    let p = then_ok _ _ stop h in
    let e : field 4 0 rest ≡ p.0 = (begins (Chain n) at rest p.0 p.1).size in
    let r : record_at (Chain n) at rest ≡ Ok (field 4 0 rest) = p.1 ∙ ap Ok (sym e) in
    let further : chains_end n m (at + 6 + field 4 0 rest) (after rest) ≡ Ok stop =
    ap (λ z. chains_end n m (at + 6 + z) (drop (6 + z) rest)) e ∙ p.2 in
    let R = chains_read n m (at + 6 + field 4 0 rest) stop (after rest) (octets_drop (6 + field 4 0 rest) rest o) further in
    let c = numbers (body_of rest) in
    let J = flat_map chain_record (chains_in m (after rest)) in
    let len : length (chain_record c) ≡ 6 + field 4 0 rest =
    length_record 4 (flat_map (le 2) c) ∙ ap (λ xs. 6 + length xs) (chain_read n at rest o r) ∙ ap (λ k. 6 + k) (body_size n at rest o r) in
    record {
      left = R.left;
      bytes = chain_split n at rest o r ∙ ap (λ xs. chain_record c ++ xs) R.bytes ∙ sym (append_assoc (chain_record c) J R.left);
      ends = let a = length-append (chain_record c) J in let s = R.ends in omega arith;
      fit = (chain_fits n at rest o r, R.fit);
    }

-- one record that was written
module _ (n at : ℕ) (c rest : List ℕ) (h : n ≤ 256) (w : ChainFits n c) where
  abbrev body : List ℕ
  body = flat_map (le 2) c

  chain_back : record_at (Chain n) at (chain_record c ++ rest) ≡ Ok (length body)
  chain_back =
      let l = length_body c in
      let a = w.0 in
      let b = w.1 in
      let f : fits (Chain n) (length body) ≡ true =
      and_from _ _ (eq-eqb (length body % 2) 0 (omega arith)) (and_from _ _ (le-leb 4 (length body) (omega arith)) (le-leb (length body) (2 * n) (omega arith))) in
      record_join (Chain n) at body rest f (omega arith)

  size_back : field 4 0 (chain_record c ++ rest) ≡ length body
  size_back = (begins (Chain n) at (chain_record c ++ rest) (length body) chain_back).size

  body_back : body_of (chain_record c ++ rest) ≡ body
  body_back = ap (λ k. take k (body ++ rest)) size_back ∙ take_at body rest (length body) refl

  after_back : after (chain_record c ++ rest) ≡ rest
  after_back = ap (λ k. drop (6 + k) (chain_record c ++ rest)) size_back ∙ record_rest 4 body rest

  numbers_back : numbers body ≡ c
  numbers_back =
      let l = length_body c in
      let k : length body / 2 ≡ length c = omega arith in
      ap (λ m. items 2 number_from m body) k ∙ ap (items 2 number_from (length c)) (sym (append-nil body)) ∙
      items_joined 2 number_from (le 2) (λ v. v < 65536) (field_front 2) (length_le 2) c [] (recursion_from_All (λ v. v < 65536) c w.2)

pub chains_back : (n at : ℕ) (cs : List (List ℕ)) (rest : List ℕ) → n ≤ 256 → AllByRecursion (ChainFits n) cs →
    (chains_end n (length cs) at (flat_map chain_record cs ++ rest) ≡ Ok (at + length (flat_map chain_record cs))) × (chains_in (length cs) (flat_map chain_record cs ++ rest) ≡ cs)
chains_back n at [] rest h w = let e : at ≡ at + 0 = omega arith in (ap Ok e, refl)
chains_back n at (c ∷ cs) rest h w =
    let J = flat_map chain_record cs in
    let b = length (flat_map (le 2) c) in
    let X = chain_record c ++ (J ++ rest) in
    let e : (chain_record c ++ J) ++ rest ≡ X = append_assoc (chain_record c) J rest in
    let R = chains_back n (at + 6 + b) cs rest h w.1 in
    let len : at + 6 + b + length J ≡ at + length (chain_record c ++ J) = let a = length-append (chain_record c) J in let r = length_record 4 (flat_map (le 2) c) in omega arith in (
      ap (chains_end n (suc (length cs)) at) e ∙ then_made _ _ b (chain_back n at c (J ++ rest) h w.0) ∙
          ap (chains_end n (length cs) (at + 6 + b)) (record_rest 4 (flat_map (le 2) c) (J ++ rest)) ∙ R.0 ∙ ap Ok len,
      ap (chains_in (suc (length cs))) e ∙ ap (λ xs. numbers xs ∷ chains_in (length cs) (after X)) (body_back n at c (J ++ rest) h w.0) ∙
          ap (λ xs. xs ∷ chains_in (length cs) (after X)) (numbers_back n at c (J ++ rest) h w.0) ∙
          ap (λ xs. c ∷ chains_in (length cs) xs) (after_back n at c (J ++ rest) h w.0) ∙ ap (λ xs. c ∷ xs) R.1,
    )
