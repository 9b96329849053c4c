-- Marking answers exactly the records of families. Assumes nothing.
use Rattle.std.proofs.Common.{◌≡◌, ℕ, suc, ◌-◌, ◌<◌, ◌≤◌, Bool, true, ◌↔◌, List, [], length, get_or, is_ok, Ok, sym, ap, ◌∙◌, subst, ap₂, arith}
use Rattle.std.specs.List.{AllByRecursion}
use Rattle.std.proofs.ByRecursion.{All-from_get_or, All-weaker}
use Rattle.std.proofs.lemmas.List.Elements.{All-from_recursion}
use Rattle.std.proofs.lemmas.Bool.{cond-true, and_parts, and_from, eqb-true, eq-eqb}
use Rattle.families.specs.Chain.{Chain}
use Rattle.families.specs.Price.{Kind}
use Rattle.families.proofs.Chains.{chain_length, chain_below}
use Rattle.lines.specs.Line.{Lawful}
use Rattle.lines.specs.declared.fault.Layer.TheVariants.{Marker}
use Rattle.lines.specs.declared.level.Level.{Level}
use Rattle.lines.specs.declared.vertex.Vertex.{Vertex}
use Rattle.lines.proofs.Levels.{judged_means, complete}
use Rattle.measures.specs.Measure.{Answer}
use Rattle.packs.specs.Bytes.{Octets}
use Rattle.packs.proofs.Answered.{then_ok, then_made, cond_ok, same_answer}
use Rattle.prices.specs.Price.{LinkPrice}
use Rattle.marker.specs.Records.{chains_in, structure, claimed}
use Rattle.marker.specs.Judge.{judged_chains}
use Rattle.marker.specs.Marker.{same_form, total_of, marked, RecordsOfFamily, MarksFamilies}
use Rattle.marker.proofs.Stepping.{length_chains}
use Rattle.marker.proofs.Judging.{judges_families}
use Rattle.marker.specs.Reader.{ChainFits}
use Rattle.marker.proofs.Limits.{count_means}
use Rattle.marker.proofs.FamilyTrips.{family_read, FamilyBack, family_back}

same_form_means : (f g : ℕ × ℕ) → (same_form f g ≡ true) ↔ (f ≡ g)
same_form_means f g = (
  λ e. let p = and_parts _ _ e in ap₂ (λ x y. (x, y)) (eqb-true f.0 g.0 p.0) (eqb-true f.1 g.1 p.1),
  λ e. and_from _ _ (eq-eqb f.0 g.0 (ap (λ x. x.0) e)) (eq-eqb f.1 g.1 (ap (λ x. x.1) e)),
)

-- a chain of a line that is not too long is written as a record
chain_fits : (n : ℕ) (c : List ℕ) → 2 ≤ n → n ≤ 256 → Chain n c → ChainFits n c
chain_fits n c l h r =
    let s = chain_length n c r l in
    let below = All-weaker (λ v. v < n) (λ v. v < 65536) (λ v k. omega arith) c (chain_below n c r (omega arith)) in
    (s.0, s.1, All-from_recursion (λ v. v < 65536) c below)

none_empty : (n : ℕ) (chains : List (List ℕ)) → AllByRecursion (ChainFits n) chains → AllByRecursion (λ c. 1 ≤ length c) chains
none_empty n chains fit = All-weaker (ChainFits n) (λ c. 1 ≤ length c) (λ c f. let l = f.0 in omega arith) chains fit

module _ {P : Type 0} (K : Kind P) (link : LinkPrice P) (largest : ℕ) (says : Answer) (vs : List Vertex) (ls : List Level) (bs : List ℕ) (law : Lawful vs) where
  abbrev allowed : ℕ → ℕ → ℕ → Bool
  allowed t i j = says vs i j t

  some_vertex : 1 ≤ length vs
  some_vertex = let l = law.0.0 in omega arith

  -- bytes with a total are the records of a family
  read : Octets bs → (p : P) → marked K link largest says vs ls bs ≡ Ok p → RecordsOfFamily K link largest says vs ls bs p
  read o p h =
      let count = then_ok _ _ p h in
      let levels = then_ok _ _ p count.2 in
      let records = then_ok _ _ p levels.2 in
      let judged = then_ok _ _ p records.2 in
      let form = cond_ok _ _ _ p judged.2 in
      let cs = chains_in (length ls) bs in
      let stop = records.0 in
      let R = family_read (length vs) (length ls) stop bs o records.1 in
      let t : total_of K link largest says vs ls cs ≡ p = same_answer _ p form.1 in
      record {
        chains = cs;
        form = claimed stop bs;
        level_count = (count_means Marker (length ls)).0 count.1;
        levels_lawful = (judged_means largest Marker ls).0 (ap is_ok levels.1);
        chain_count = length_chains (length ls) bs;
        form_fits = R.form_fits;
        bytes = R.bytes;
        family = (judges_families allowed (length vs) cs ls some_vertex (length_chains (length ls) bs) (none_empty (length vs) cs R.fit)).0 judged.1;
        totals = sym t;
        formed = sym ((same_form_means _ _).0 form.0) ∙ ap K.form t;
      }

  -- the records of a family have its total
  module _ (p : P) (F : RecordsOfFamily K link largest says vs ls bs p) where
    fit : AllByRecursion (ChainFits (length vs)) F.chains
    fit = All-from_get_or (ChainFits (length vs)) F.chains [] (λ j b.
        let e : suc j - 1 ≡ j = omega arith in
        let k = F.chain_count in
        chain_fits (length vs) (get_or F.chains j []) law.0.0 law.0.1
        (subst (λ i. Chain (length vs) (get_or F.chains i [])) e (F.family.chains (suc j) (omega arith) (omega arith))))

    abbrev B : FamilyBack (length vs) F.chains F.form bs
    B = family_back (length vs) F.chains F.form bs law.0.1 fit F.form_fits F.bytes

    structure_is : structure (length vs) (length ls) bs ≡ Ok B.stop
    structure_is = ap (λ m. structure (length vs) m bs) (sym F.chain_count) ∙ B.structure_is

    chains_are : chains_in (length ls) bs ≡ F.chains
    chains_are = ap (λ m. chains_in m bs) (sym F.chain_count) ∙ B.chains_are

    judged_is : judged_chains allowed (length vs) (chains_in (length ls) bs) ls ≡ Ok tt
    judged_is =
        ap (λ cs. judged_chains allowed (length vs) cs ls) chains_are ∙ (judges_families allowed (length vs) F.chains ls some_vertex F.chain_count (none_empty (length vs) F.chains fit)).1 F.family

    total_is : total_of K link largest says vs ls (chains_in (length ls) bs) ≡ p
    total_is = ap (total_of K link largest says vs ls) chains_are ∙ sym F.totals

    form_is : K.form (total_of K link largest says vs ls (chains_in (length ls) bs)) ≡ claimed B.stop bs
    form_is = ap K.form total_is ∙ sym F.formed ∙ sym B.claimed_is

    back : marked K link largest says vs ls bs ≡ Ok p
    back =
        then_made _ _ tt ((count_means Marker (length ls)).1 F.level_count) ∙
        then_made _ _ tt (complete largest Marker 1 0 ls (λ _. omega arith) F.levels_lawful) ∙
        then_made _ _ B.stop structure_is ∙
        then_made _ _ tt judged_is ∙
        cond-true _ _ _ ((same_form_means _ _).1 form_is) ∙ ap Ok total_is

pub marks_families : {P : Type 0} (K : Kind P) (link : LinkPrice P) (largest : ℕ) (says : Answer) (vs : List Vertex) (ls : List Level) (bs : List ℕ) → Lawful vs → Octets bs →
    MarksFamilies K link largest says vs ls bs
marks_families K link largest says vs ls bs law o = record { exactly = λ p. (read K link largest says vs ls bs law o p, back K link largest says vs ls bs law p) }
