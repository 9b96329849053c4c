-- What is read of a valid pack. Assumes nothing.
use Rattle.std.proofs.Common.{◌≡◌, ℕ, suc, ◌-◌, ◌<◌, ◌≤◌, List, [], ◌++◌, length, get_or, take, drop, map, Ok, Err, Result, sym, refl, ap, ap₂, subst, ◌∙◌, arith}
use Rattle.std.specs.List.{AllByRecursion, concat}
use Rattle.std.proofs.ByRecursion.{All-from_get_or, All-weaker}
use Rattle.std.proofs.lemmas.List.{length-append, length-map, length-drop, take_all, take_at, drop_at}
use Rattle.std.proofs.lemmas.List.Elements.{All-from_recursion}
use Rattle.std.proofs.lemmas.Bool.Decides.{nat_tests}
use Rattle.families.specs.Chain.{Chain}
use Rattle.families.proofs.Chains.{chain_length, chain_below}
use Rattle.lines.specs.declared.fault.Fault.{Fault}
use Rattle.lines.specs.declared.level.Level.{Level}
use Rattle.lines.specs.declared.vertex.Vertex.{Vertex}
use Rattle.packs.specs.Bytes.{Octets}
use Rattle.packs.specs.Job.{encoded, head_in, content_of, summary, summed_up_to, placed_vertices, placed_levels}
use Rattle.packs.specs.declared.job.Job.{Job}
use Rattle.packs.specs.declared.kind.PriceKind.{PriceKind}
use Rattle.packs.specs.declared.kind.PriceKind.TheVariants.{Count, CountThenArea}
use Rattle.packs.proofs.Accepting.{accepts_heads}
use Rattle.packs.proofs.Answered.{same_answer}
use Rattle.packs.proofs.LittleEndian.{octets_take, octets_drop}
use Rattle.prices.specs.Count.{count_kind}
use Rattle.prices.specs.CountThenArea.{count_then_area_kind}
use Rattle.prices.specs.declared.count.Count.{Count as CountOf}
use Rattle.prices.specs.declared.count_then_area.CountThenArea.{CountThenArea as CountThenAreaOf}
use Rattle.marker.specs.Records.{family_records}
use Rattle.marker.specs.Reader.{family_in, claim_of, placed_numbers, placed_counts, ChainFits, FormFits, Written}
use Rattle.marker.specs.Pack.{total_form, ValidPack}
use Rattle.marker.specs.declared.reader.Claim.{Claim}
use Rattle.marker.proofs.Reading.{reads_written}

-- the form of a total has 32 and 64 bits
count_small : (p : CountOf) → FormFits (count_kind.form p)
count_small p = (omega arith, omega arith)

count_then_area_small : (p : CountThenAreaOf) → FormFits (count_then_area_kind.form p)
count_then_area_small p = (omega arith, grind (arith, nat_tests))

form_small : (price : PriceKind) (vs : List Vertex) (ls : List Level) (chains : List (List ℕ)) → FormFits (total_form price vs ls chains)
form_small Count vs ls chains = count_small _
form_small CountThenArea vs ls chains = count_then_area_small _

module _ (bs : List ℕ) (octets : Octets bs) (f : ℕ × ℕ) (v : ValidPack bs f) where
  abbrev n : ℕ
  n = length v.job.vertices

  abbrev m : ℕ
  m = length v.job.levels

  abbrev stop : ℕ
  stop = length (encoded v.job)

  abbrev records : List ℕ
  records = family_records v.chains f

  pub head_is : head_in bs ≡ Ok (v.job, stop)
  head_is = ((accepts_heads bs octets).exactly v.job stop).1 (v.lawful, refl, (records, v.bytes))

  -- what the reader of the beginning answers, and what then lies in the place
  pub record HeadRead (job : Job) (end : ℕ) (vs : List Vertex) (ls : List Level) : Type 0 where
    pub job_is : job ≡ summary v.job
    pub end_is : end ≡ stop
    pub inside : end ≤ length bs
    pub few : (job.vertices ≤ 256) × (job.levels ≤ 8)
    pub vertices_are : take job.vertices vs ≡ v.job.vertices
    pub levels_are : take job.levels ls ≡ v.job.levels

  pub head_read : (job : Job) (end : ℕ) (vs old : List Vertex) (ls older : List Level) → Ok (job, end) ≡ summed_up_to (head_in bs) →
      vs ≡ placed_vertices (content_of (head_in bs)) old → ls ≡ placed_levels (content_of (head_in bs)) older → HeadRead job end vs ls
  head_read job end vs old ls older a x y =
      let same : ◌≡◌ {A = Job × ℕ} (job, end) (summary v.job, stop) = same_answer _ _ (a ∙ ap summed_up_to head_is) in
      let j : job ≡ summary v.job = ap (λ p. p.0) same in
      let e : end ≡ stop = ap (λ p. p.1) same in
      let nv : length v.job.vertices ≡ job.vertices = sym (ap (λ k. k.vertices) j) in
      let nl : length v.job.levels ≡ job.levels = sym (ap (λ k. k.levels) j) in
      record {
        job_is = j;
        end_is = e;
        inside = omega (arith, e, ap length v.bytes, length-append (encoded v.job) records);
        few = (omega (arith, nv, v.lawful.line.0.1), omega (arith, nl, v.lawful.count.1));
        vertices_are = ap (take job.vertices) (x ∙ ap (λ r. placed_vertices (content_of r) old) head_is) ∙ take_at v.job.vertices _ job.vertices nv;
        levels_are = ap (take job.levels) (y ∙ ap (λ r. placed_levels (content_of r) older) head_is) ∙ take_at v.job.levels _ job.levels nl;
      }

  fits : AllByRecursion (ChainFits n) v.chains
  fits = All-from_get_or (ChainFits n) v.chains [] (λ i h.
      let e : suc i - 1 ≡ i = omega arith in
      let c = get_or v.chains i [] in
      let chain : Chain n c = subst (λ k. Chain n (get_or v.chains k [])) e (v.family.chains (suc i) (omega arith) (omega (arith, h, v.chain_count))) in
      let two = v.lawful.line.0.0 in
      let few = v.lawful.line.0.1 in
      let size = chain_length n c chain two in
      (size.0, size.1, All-from_recursion (λ w. w < 65536) c (All-weaker (λ w. w < n) (λ w. w < 65536) (λ w l. omega (arith, l, few)) c (chain_below n c chain (omega arith)))))

  -- what comes after the beginning
  abbrev after : ℕ → List ℕ
  after end = take (length bs - end) (drop end bs)

  -- the chains and the form are read from the records
  pub chains_are : (k l end : ℕ) → k ≡ n → l ≡ m → end ≡ stop → family_in k l (after end) ≡ Ok (v.chains, f)
  chains_are k l end kn lm e =
      let all : after end ≡ drop end bs = take_all (length bs - end) (drop end bs) (omega (arith, length-drop end bs)) in
      let bytes : after end ≡ records = all ∙ ap (drop end) v.bytes ∙ drop_at (encoded v.job) records end (sym e) in
      let written : Written n m (after end) v.chains f = record {
        size = v.lawful.line.0;
        count = v.lawful.count;
        one_each = v.chain_count;
        chains_fit = All-from_recursion (ChainFits n) v.chains fits;
        form_fits = subst FormFits (sym v.formed) (form_small v.job.price v.job.vertices v.job.levels v.chains);
        bytes = bytes;
      } in
      ap₂ (λ a b. family_in a b (after end)) kn lm ∙ ((reads_written n m (after end) (octets_take (length bs - end) (drop end bs) (octets_drop end bs octets))).exactly v.chains f).1 written

  -- what the reader of chains answers, and what then lies in the place
  pub record ChainsRead (count claimed : ℕ) (numbers counts : List ℕ) : Type 0 where
    pub numbers_are : take claimed numbers ≡ concat v.chains
    pub counts_are : take count counts ≡ map length v.chains
    pub numbers_inside : claimed ≤ length numbers
    pub counts_inside : count ≤ length counts

  pub chains_read : (k l end : ℕ) → k ≡ n → l ≡ m → end ≡ stop → (claim : Claim) (numbers old counts older : List ℕ) → Ok claim ≡ claim_of (family_in k l (after end)) →
      numbers ≡ placed_numbers (family_in k l (after end)) old → counts ≡ placed_counts (family_in k l (after end)) older → ChainsRead l claim.vertices numbers counts
  chains_read k l end kn lm e claim numbers old counts older a x y =
      let is = chains_are k l end kn lm e in
      let size : claim.vertices ≡ length (concat v.chains) = ap (λ c. c.vertices) (same_answer claim _ (a ∙ ap claim_of is)) in
      let number : l ≡ length (map length v.chains) = lm ∙ sym v.chain_count ∙ sym (length-map v.chains length) in
      let ns : numbers ≡ concat v.chains ++ drop (length (concat v.chains)) old = x ∙ ap (λ r. placed_numbers r old) is in
      let cs : counts ≡ map length v.chains ++ drop (length v.chains) older = y ∙ ap (λ r. placed_counts r older) is in
      record {
        numbers_are = ap (take claim.vertices) ns ∙ take_at (concat v.chains) _ claim.vertices (sym size);
        counts_are = ap (take l) cs ∙ take_at (map length v.chains) _ l (sym number);
        numbers_inside = omega (arith, size, ap length ns, length-append (concat v.chains) (drop (length (concat v.chains)) old));
        counts_inside = omega (arith, number, ap length cs, length-append (map length v.chains) (drop (length v.chains) older));
      }

  -- the chains are not refused
  pub not_refused : (k l end : ℕ) → k ≡ n → l ≡ m → end ≡ stop → (e : Fault) → Err e ≡ claim_of (family_in k l (after end)) → ⊥
  not_refused k l end kn lm s e a =
      let both : ◌≡◌ {A = Result Claim Fault} (Err e) (Ok (record { vertices = length (concat v.chains); total = f })) = a ∙ ap claim_of (chains_are k l end kn lm s) in
      let z : ◌≡◌ {A = ℕ} 0 1 = cc in
      absurd (omega arith)
