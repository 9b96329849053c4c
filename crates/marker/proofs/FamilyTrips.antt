-- The records of a family written and read back. Assumes nothing.
use Rattle.std.proofs.Common.{◌≡◌, ℕ, ◌+◌, ◌≤◌, List, ◌++◌, length, drop, Ok, sym, refl, ap, ◌∙◌, arith}
use Rattle.std.specs.List.{flat_map, AllByRecursion}
use Rattle.std.proofs.lemmas.List.{length-append, drop_at}
use Rattle.packs.specs.declared.record.Due.TheVariants.{Total}
use Rattle.packs.specs.Bytes.{Octets}
use Rattle.packs.specs.Record.{record_at}
use Rattle.marker.specs.Records.{chain_record, total_record, family_records, chains_in, chains_end, structure, claimed}
use Rattle.marker.specs.Reader.{ChainFits, FormFits}
use Rattle.marker.proofs.ChainTrips.{chains_read, chains_back}
use Rattle.marker.proofs.TotalTrips.{structured, structure_back, total_split, claimed_small, total_back, claimed_back}

-- What bytes keep whose structure is right, with the total's record at `stop`.
pub record FamilyRead (n m stop : ℕ) (bs : List ℕ) : Type 0 where
  pub fit : AllByRecursion (ChainFits n) (chains_in m bs)
  pub form_fits : FormFits (claimed stop bs)
  pub bytes : bs ≡ family_records (chains_in m bs) (claimed stop bs)

pub family_read : (n m stop : ℕ) (bs : List ℕ) → Octets bs → structure n m bs ≡ Ok stop → FamilyRead n m stop bs
family_read n m stop bs o h =
    let S = structured n m stop bs h in
    let R = chains_read n m 0 stop bs o S.chains in
    let J = flat_map chain_record (chains_in m bs) in
    let at_stop : drop stop bs ≡ R.left = let e = R.ends in ap (drop stop) R.bytes ∙ drop_at J R.left stop (omega arith) in
    record {
      fit = R.fit;
      form_fits = claimed_small stop bs o;
      bytes = R.bytes ∙ ap (λ xs. J ++ xs) (sym at_stop ∙ total_split stop bs o S.total S.whole);
    }

-- What is read from the records of chains and a form.
pub record FamilyBack (n : ℕ) (chains : List (List ℕ)) (form : ℕ × ℕ) (bs : List ℕ) : Type 0 where
  pub stop : ℕ
  pub structure_is : structure n (length chains) bs ≡ Ok stop
  pub chains_are : chains_in (length chains) bs ≡ chains
  pub claimed_is : claimed stop bs ≡ form

pub family_back : (n : ℕ) (chains : List (List ℕ)) (form : ℕ × ℕ) (bs : List ℕ) → n ≤ 256 → AllByRecursion (ChainFits n) chains → FormFits form → bs ≡ family_records chains form → FamilyBack n chains form bs
family_back n chains form bs few fit small same =
    let J = flat_map chain_record chains in
    let stop = length J in
    let rest = total_record form in
    let at_stop : drop stop bs ≡ rest = ap (drop stop) same ∙ drop_at J rest stop refl in
    let b = chains_back n 0 chains rest few fit in
    let z : 0 + stop ≡ stop = omega arith in
    record {
      stop = stop;
      structure_is = structure_back n (length chains) stop bs (record {
        chains = ap (chains_end n (length chains) 0) same ∙ b.0 ∙ ap Ok z;
        total = ap (record_at Total stop) at_stop ∙ total_back stop form;
        whole = let l = length-append J rest in let e = ap length same in omega arith;
      });
      chains_are = ap (chains_in (length chains)) same ∙ b.1;
      claimed_is = claimed_back stop bs form small at_stop;
    }
