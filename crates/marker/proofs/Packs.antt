-- A pack is marked valid exactly when it is one. Assumes nothing.
use Rattle.std.proofs.Common.{◌≡◌, ℕ, ◌^◌, ◌<◌, ◌≤◌, List, ◌++◌, length, drop, Ok, sym, refl, ap, ◌∙◌, subst, arith}
use Rattle.std.proofs.lemmas.List.{drop_at}
use Rattle.std.proofs.lemmas.Bool.Decides.{nat_tests}
use Rattle.families.specs.Price.{Kind}
use Rattle.families.specs.Family.{Family, total}
use Rattle.lines.specs.Fault.{then}
use Rattle.lines.specs.Line.{Lawful}
use Rattle.lines.specs.Level.{LawfulLevels}
use Rattle.lines.specs.declared.level.Level.{Level}
use Rattle.lines.specs.declared.vertex.Vertex.{Vertex}
use Rattle.measures.specs.Measure.{Answer, allowed_by}
use Rattle.prices.specs.Price.{LinkPrice, price_by}
use Rattle.prices.specs.Count.{count_kind, count_link}
use Rattle.prices.specs.CountThenArea.{count_then_area_kind, count_then_area_link}
use Rattle.prices.specs.declared.count.Count.{Count as CountOf}
use Rattle.prices.specs.declared.count_then_area.CountThenArea.{CountThenArea as CountThenAreaOf}
use Rattle.packs.specs.declared.kind.PriceKind.{PriceKind}
use Rattle.packs.specs.declared.kind.PriceKind.TheVariants.{Count, CountThenArea}
use Rattle.packs.specs.Bytes.{Octets}
use Rattle.packs.specs.Kind.{measure_largest}
use Rattle.packs.specs.Job.{Content, encoded, head_in}
use Rattle.packs.proofs.Answered.{then_ok, then_made, same_answer}
use Rattle.packs.proofs.LittleEndian.{octets_drop}
use Rattle.packs.proofs.Accepting.{accepts_heads}
use Rattle.marker.specs.Records.{family_records, chain_of}
use Rattle.marker.specs.Marker.{marked}
use Rattle.marker.specs.Pack.{measure_says, total_form, form_marked, job_marked, pack_marked, ValidPack, MarksPacks}
use Rattle.marker.proofs.Marking.{marks_families}

-- the form of a total, at each price, has 32 and 64 bits
count_small : (p : CountOf) → ((count_kind.form p).0 < 2 ^ 32) × ((count_kind.form p).1 < 2 ^ 64)
count_small p = (omega arith, omega arith)

count_then_area_small : (p : CountThenAreaOf) → ((count_then_area_kind.form p).0 < 2 ^ 32) × ((count_then_area_kind.form p).1 < 2 ^ 64)
count_then_area_small p = (omega arith, grind (arith, nat_tests))

-- the rest of a pack, as the records of a family with the form f of its total
record Rest {P : Type 0} (K : Kind P) (link : LinkPrice P) (says : Answer) (vs : List Vertex) (ls : List Level) (bs : List ℕ) (f : ℕ × ℕ) : Type 0 where
  chains : List (List ℕ)
  chain_count : length chains ≡ length ls
  bytes : bs ≡ family_records chains f
  family : Family (allowed_by says vs ls) (length ls) (length vs) (chain_of chains)
  formed : f ≡ K.form (total K (price_by link vs ls) (length ls) (chain_of chains))

module _ {P : Type 0} (K : Kind P) (link : LinkPrice P) (largest : ℕ) (says : Answer) (vs : List Vertex) (ls : List Level) (bs : List ℕ) (lawful : Lawful vs) (octets : Octets bs) (f : ℕ × ℕ) where
  rest_from : then (marked K link largest says vs ls bs) (λ p. Ok (K.form p)) ≡ Ok f → Rest K link says vs ls bs f
  rest_from h =
      let t = then_ok _ _ f h in
      let r = ((marks_families K link largest says vs ls bs lawful octets).exactly t.0).0 t.1 in
      let e : K.form t.0 ≡ f = same_answer _ f t.2 in
      record {
        chains = r.chains;
        chain_count = r.chain_count;
        bytes = r.bytes ∙ ap (family_records r.chains) (r.formed ∙ e);
        family = r.family;
        formed = sym e ∙ ap K.form r.totals;
      }

  rest_back : ((p : P) → ((K.form p).0 < 2 ^ 32) × ((K.form p).1 < 2 ^ 64)) → (1 ≤ length ls) × (length ls ≤ 8) → LawfulLevels largest ls → Rest K link says vs ls bs f →
      then (marked K link largest says vs ls bs) (λ p. Ok (K.form p)) ≡ Ok f
  rest_back small count law r =
      let p = total K (price_by link vs ls) (length ls) (chain_of r.chains) in
      let m : marked K link largest says vs ls bs ≡ Ok p = ((marks_families K link largest says vs ls bs lawful octets).exactly p).1 (record {
        chains = r.chains;
        form = f;
        level_count = count;
        levels_lawful = law;
        chain_count = r.chain_count;
        form_fits = subst (λ g. (g.0 < 2 ^ 32) × (g.1 < 2 ^ 64)) (sym r.formed) (small p);
        bytes = r.bytes;
        family = r.family;
        totals = refl;
        formed = r.formed;
      }) in
      then_made _ _ p m ∙ ap Ok (sym r.formed)

-- the same at the price with its number
record RestAt (price : PriceKind) (says : Answer) (vs : List Vertex) (ls : List Level) (bs : List ℕ) (f : ℕ × ℕ) : Type 0 where
  chains : List (List ℕ)
  chain_count : length chains ≡ length ls
  bytes : bs ≡ family_records chains f
  family : Family (allowed_by says vs ls) (length ls) (length vs) (chain_of chains)
  formed : f ≡ total_form price vs ls chains

rest_at : (price : PriceKind) (largest : ℕ) (says : Answer) (vs : List Vertex) (ls : List Level) (bs : List ℕ) → Lawful vs → Octets bs → (f : ℕ × ℕ) →
    form_marked price largest says vs ls bs ≡ Ok f → RestAt price says vs ls bs f
rest_at Count largest says vs ls bs lawful octets f h =
    let r = rest_from count_kind count_link largest says vs ls bs lawful octets f h in
    record { chains = r.chains; chain_count = r.chain_count; bytes = r.bytes; family = r.family; formed = r.formed }
rest_at CountThenArea largest says vs ls bs lawful octets f h =
    let r = rest_from count_then_area_kind count_then_area_link largest says vs ls bs lawful octets f h in
    record { chains = r.chains; chain_count = r.chain_count; bytes = r.bytes; family = r.family; formed = r.formed }

at_rest : (price : PriceKind) (largest : ℕ) (says : Answer) (vs : List Vertex) (ls : List Level) (bs : List ℕ) → Lawful vs → Octets bs → (f : ℕ × ℕ) →
    (1 ≤ length ls) × (length ls ≤ 8) → LawfulLevels largest ls → RestAt price says vs ls bs f → form_marked price largest says vs ls bs ≡ Ok f
at_rest Count largest says vs ls bs lawful octets f count law r =
    rest_back count_kind count_link largest says vs ls bs lawful octets f count_small count law (record { chains = r.chains; chain_count = r.chain_count; bytes = r.bytes; family = r.family; formed = r.formed })
at_rest CountThenArea largest says vs ls bs lawful octets f count law r =
    rest_back count_then_area_kind count_then_area_link largest says vs ls bs lawful octets f count_then_area_small count law (record { chains = r.chains; chain_count = r.chain_count; bytes = r.bytes; family = r.family; formed = r.formed })

module _ (bs : List ℕ) (octets : Octets bs) (f : ℕ × ℕ) where
  sound : pack_marked bs ≡ Ok f → ValidPack bs f
  sound h =
      let t = then_ok (head_in bs) _ f h in
      go t.0.0 t.0.1 t.1 t.2
    where
      go : (j : Content) (end : ℕ) → head_in bs ≡ Ok (j, end) → job_marked j (drop end bs) ≡ Ok f → ValidPack bs f
      go j end i m =
          let a = ((accepts_heads bs octets).exactly j end).0 i in
          let rest = a.2.0 in
          let cut : drop end bs ≡ rest = ap (λ cs. drop end cs) a.2.1 ∙ drop_at (encoded j) rest end (sym a.1) in
          let r = rest_at j.price (measure_largest j.measure) (measure_says j.measure) j.vertices j.levels (drop end bs) a.0.line (octets_drop end bs octets) f m in
          record {
            job = j;
            chains = r.chains;
            lawful = a.0;
            bytes = a.2.1 ∙ ap (λ cs. encoded j ++ cs) (sym cut ∙ r.bytes);
            chain_count = r.chain_count;
            family = r.family;
            formed = r.formed;
          }

  back : ValidPack bs f → pack_marked bs ≡ Ok f
  back v =
      let j = v.job in
      let rest = family_records v.chains f in
      let end = length (encoded j) in
      let i : head_in bs ≡ Ok (j, end) = ((accepts_heads bs octets).exactly j end).1 (v.lawful, refl, (rest, v.bytes)) in
      let cut : drop end bs ≡ rest = ap (λ cs. drop end cs) v.bytes ∙ drop_at (encoded j) rest end refl in
      then_made _ _ (j, end) i
      ∙ at_rest j.price (measure_largest j.measure) (measure_says j.measure) j.vertices j.levels (drop end bs) v.lawful.line (octets_drop end bs octets) f v.lawful.count v.lawful.levels_lawful
      (record { chains = v.chains; chain_count = v.chain_count; bytes = cut; family = v.family; formed = v.formed })

pub marks_packs : (bs : List ℕ) → Octets bs → MarksPacks bs
marks_packs bs octets = record { exactly = λ f. (sound bs octets f, back bs octets f) }
