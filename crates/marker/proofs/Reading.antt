-- Chains and a form are read exactly from their records. Assumes nothing.
use Rattle.std.proofs.Common.{◌≡◌, ℕ, ◌≤◌, All, List, length, Ok, sym, ap, ◌∙◌, subst, arith}
use Rattle.std.proofs.lemmas.List.Elements.{All-from_recursion, recursion_from_All, All-weaker}
use Rattle.lines.specs.declared.fault.Layer.TheVariants.{Pack}
use Rattle.packs.specs.Bytes.{Octets}
use Rattle.packs.proofs.Answered.{then_ok, then_made, same_answer}
use Rattle.marker.specs.Records.{chains_in, structure, claimed}
use Rattle.marker.specs.Reader.{family_in, ChainFits, Written, ReadsWritten}
use Rattle.marker.proofs.Stepping.{length_chains}
use Rattle.marker.proofs.Limits.{size_means, count_means}
use Rattle.marker.proofs.FamilyTrips.{family_read, family_back}

module _ (n m : ℕ) (bs : List ℕ) (o : Octets bs) where
  -- records whose structure is right, for a line and a job within the limits
  written : (stop : ℕ) → (2 ≤ n) × (n ≤ 256) → (1 ≤ m) × (m ≤ 8) → structure n m bs ≡ Ok stop → Written n m bs (chains_in m bs) (claimed stop bs)
  written stop size count h =
      let R = family_read n m stop bs o h in
      record {
        size = size;
        count = count;
        one_each = length_chains m bs;
        chains_fit = All-from_recursion (ChainFits n) (chains_in m bs) R.fit;
        form_fits = R.form_fits;
        bytes = R.bytes;
      }

  sound : (chains : List (List ℕ)) (form : ℕ × ℕ) → family_in n m bs ≡ Ok (chains, form) → Written n m bs chains form
  sound chains form h =
      let size = then_ok _ _ (chains, form) h in
      let count = then_ok _ _ (chains, form) size.2 in
      let records = then_ok _ _ (chains, form) count.2 in
      let P : List (List ℕ) × (ℕ × ℕ) → Type 0 = λ f. Written n m bs f.0 f.1 in
      subst P (same_answer _ (chains, form) records.2)
      (written records.0 ((size_means Pack n).0 size.1) ((count_means Pack m).0 count.1) records.1)

  back : (chains : List (List ℕ)) (form : ℕ × ℕ) → Written n m bs chains form → family_in n m bs ≡ Ok (chains, form)
  back chains form w =
      let B = family_back n chains form bs w.size.1 (recursion_from_All (ChainFits n) chains w.chains_fit) w.form_fits w.bytes in
      then_made _ _ tt ((size_means Pack n).1 w.size) ∙ then_made _ _ tt ((count_means Pack m).1 w.count) ∙
      then_made _ _ B.stop (ap (λ k. structure n k bs) (sym w.one_each) ∙ B.structure_is) ∙
      ap (λ k. Ok (chains_in k bs, claimed B.stop bs)) (sym w.one_each) ∙ ap (λ cs. Ok (cs, claimed B.stop bs)) B.chains_are ∙ ap (λ f. Ok (chains, f)) B.claimed_is

  -- each chain has at most 256 vertices
  pub few_vertices : (stop : ℕ) → n ≤ 256 → structure n m bs ≡ Ok stop → All (λ c. length c ≤ 256) (chains_in m bs)
  few_vertices stop few h =
      All-weaker (ChainFits n) (λ c. length c ≤ 256) (λ c f. let l = f.1 in omega arith) (chains_in m bs)
      (All-from_recursion (ChainFits n) (chains_in m bs) (family_read n m stop bs o h).fit)

pub reads_written : (n m : ℕ) (bs : List ℕ) → Octets bs → ReadsWritten n m bs
reads_written n m bs o = record { exactly = λ chains form. (sound n m bs o chains form, back n m bs o chains form) }
