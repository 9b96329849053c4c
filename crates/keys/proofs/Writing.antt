-- A drawing is written as a family pack: nothing is refused, and the marker finds the pack valid. Assumes nothing.
use Rattle.std.proofs.Common.{◌≡◌, ℕ, suc, ◌+◌, ◌-◌, ◌*◌, ◌≤◌, List, [], ◌∷◌, ◌++◌, length, get_or, take, drop, map, Ok, Err, Result, Vec, vec_items, sym, refl, ap, ap₂, subst, ◌∙◌, arith}
use Rattle.std.specs.List.{AllByRecursion, concat}
use Rattle.std.proofs.ByRecursion.{All-from_get_or, All-weaker}
use Rattle.std.proofs.lemmas.Bool.{cond-true, and_from, le-leb, eq-eqb}
use Rattle.std.proofs.lemmas.List.{length-map, take_at}
use Rattle.families.specs.Price.{Kind}
use Rattle.families.specs.Chain.{Chain}
use Rattle.families.specs.Family.{Family, total as total_price}
use Rattle.families.specs.Stay.{read_off}
use Rattle.families.proofs.Chains.{chain_length}
use Rattle.families.proofs.Stays.{family_same, total_same}
use Rattle.lines.specs.Line.{Lawful}
use Rattle.lines.specs.declared.fault.Fault.{Fault}
use Rattle.lines.specs.declared.level.Level.{Level}
use Rattle.lines.specs.declared.vertex.Vertex.{Vertex}
use Rattle.measures.specs.Measure.{Answer, allowed_by}
use Rattle.prices.specs.Price.{LinkPrice, price_by}
use Rattle.prices.specs.Count.{count_kind, count_link}
use Rattle.prices.specs.CountThenArea.{count_then_area_kind, count_then_area_link}
use Rattle.packs.specs.declared.kind.MeasureKind.{MeasureKind}
use Rattle.packs.specs.declared.kind.PriceKind.{PriceKind}
use Rattle.packs.specs.declared.kind.PriceKind.TheVariants.{Count, CountThenArea}
use Rattle.packs.specs.Bytes.{Octets}
use Rattle.packs.specs.Kind.{measure_number, price_number, measure_largest}
use Rattle.packs.specs.Job.{Content, encoded}
use Rattle.packs.specs.declared.job.Job.{Job}
use Rattle.packs.proofs.Answered.{same_answer}
use Rattle.marker.specs.Records.{chain_of, family_records}
use Rattle.marker.specs.Pack.{measure_says, pack_marked, total_form, ValidPack}
use Rattle.marker.proofs.Packs.{marks_packs}
use Rattle.drawings.specs.Pack.{Shows, ShowsPriced, Drawable, Made, Drawn}
use Rattle.drawings.specs.declared.drawing.Drawing.{Drawing}
use Rattle.drawings.specs.declared.drawing.DrawError.{DrawError}
use Rattle.drawings.specs.declared.drawing.DrawError.TheVariants.{Refused, OutOfMemory}
use Rattle.drawings.proofs.Jobs.{JobRead}
use Rattle.writer.specs.Job.{content, size_answered, bytes_after, WritableJob}
use Rattle.writer.specs.Family.{chains_of, counts_from, judged_counts, CountsFit, family_pack}
use Rattle.writer.specs.declared.family.Family.{Family as Given}
use Rattle.writer.proofs.Counts.{counts_fit}
use Rattle.writer.proofs.Chains.{chains_back, sum_lengths}
use Rattle.writer.proofs.Families.{fits}
use Rattle.writer.proofs.JobTrips.{judged_back}
use Rattle.keys.specs.Key.{chains_to, chains_off, drawing_records, Keys}
use Rattle.keys.proofs.Octets.{octets_append, octets_family}
use Rattle.keys.proofs.ChainLists.{length_to, at_to, joined_few}

-- chains of 2 to n vertices
abbrev pub Fitting : ℕ → List ℕ → Type 0
Fitting n c = (2 ≤ length c) × (length c ≤ n)

counts_judged : (n k : ℕ) (cs : List (List ℕ)) → AllByRecursion (Fitting n) cs → counts_from n k (map length cs) ≡ Ok tt
counts_judged n k [] h = refl
counts_judged n k (c ∷ cs) h = cond-true _ _ _ (and_from _ _ (le-leb 2 (length c) h.0.0) (le-leb (length c) n h.0.1)) ∙ counts_judged n (k + 1) cs h.1

-- what a drawing keeps under either price
pub record Kept (says : Answer) (vs : List Vertex) (ls : List Level) (d : Drawing) : Type 0 where
  pub level_count : d.levels ≡ length ls
  pub stay_count : length (vec_items d.stays) ≡ length vs
  pub family : Family (allowed_by says vs ls) (length ls) (length vs) (read_off (λ v. get_or (vec_items d.stays) v 0) (length vs))

kept : (pr : PriceKind) (says : Answer) (vs : List Vertex) (ls : List Level) (d : Drawing) → ShowsPriced pr says vs ls d → Kept says vs ls d
kept Count says vs ls d s = record { level_count = s.level_count; stay_count = s.stay_count; family = s.least.family }
kept CountThenArea says vs ls d s = record { level_count = s.level_count; stay_count = s.stay_count; family = s.least.family }

module _ (says : Answer) (vs : List Vertex) (ls : List Level) (d : Drawing) (k : Kept says vs ls d) where
  abbrev stays : ℕ → ℕ
  stays v = get_or (vec_items d.stays) v 0

  abbrev chain : ℕ → List ℕ
  chain = read_off stays (length vs)

  abbrev chains : List (List ℕ)
  chains = chains_off d.levels (vec_items d.stays)

  chains_are : chains ≡ chains_to (length ls) chain
  chains_are = ap₂ (λ m n. chains_to m (read_off stays n)) k.level_count k.stay_count

  pub chain_count : length chains ≡ length ls
  chain_count = ap length chains_are ∙ length_to chain (length ls)

  pub same_chains : (i : ℕ) → 1 ≤ i → i ≤ length ls → chain_of chains i ≡ chain i
  same_chains i a b =
      let e : suc (i - 1) ≡ i = omega arith in
      ap (λ cs. get_or cs (i - 1) []) chains_are ∙ at_to chain (length ls) (i - 1) (omega arith) ∙ ap chain e

  pub is_family : Family (allowed_by says vs ls) (length ls) (length vs) (chain_of chains)
  is_family = family_same (allowed_by says vs ls) (length ls) (length vs) chain (chain_of chains) same_chains k.family

  pub all_fitting : 2 ≤ length vs → AllByRecursion (Fitting (length vs)) chains
  all_fitting two = All-from_get_or (Fitting (length vs)) chains [] (λ j b.
      let e : suc j - 1 ≡ j = omega arith in
      let c = chain_count in
      chain_length (length vs) (get_or chains j []) (subst (λ i. Chain (length vs) (get_or chains i [])) e (is_family.chains (suc j) (omega arith) (omega (arith, b, c)))) two)

-- the total of the chains is the one drawn
shown_form : {P : Type 0} (K : Kind P) (link : LinkPrice P) (says : Answer) (vs : List Vertex) (ls : List Level) (d : Drawing) (k : Kept says vs ls d) →
    Shows K link says vs ls d → d.form ≡ K.form (total_price K (price_by link vs ls) (length ls) (chain_of (chains_off d.levels (vec_items d.stays))))
shown_form K link says vs ls d k s =
    let read = read_off (λ v. get_or (vec_items d.stays) v 0) (length vs) in
    s.formed ∙ s.least.totals ∙
    ap K.form (sym (total_same (allowed_by says vs ls) (length ls) (length vs) read (chain_of (chains_off d.levels (vec_items d.stays))) (same_chains says vs ls d k) K (price_by link vs ls) (length ls) (omega arith)))

form_drawn : (pr : PriceKind) (says : Answer) (vs : List Vertex) (ls : List Level) (d : Drawing) (k : Kept says vs ls d) → ShowsPriced pr says vs ls d →
    d.form ≡ total_form pr vs ls (chains_off d.levels (vec_items d.stays))
form_drawn Count says vs ls d k s = shown_form count_kind count_link says vs ls d k s
form_drawn CountThenArea says vs ls d k s = shown_form count_then_area_kind count_then_area_link says vs ls d k s

-- the writer refuses nothing
module _ (me : MeasureKind) (pr : PriceKind) (vs : List Vertex) (ls : List Level) (d : Drawing) (line : Lawful vs) (levels : Drawable (measure_largest me) ls)
    (shown : ShowsPriced pr (measure_says me) vs ls d) (f : Given) (numbers : f.chains.now ≡ concat (chains_off d.levels (vec_items d.stays)))
    (counts : f.counts.now ≡ map length (chains_off d.levels (vec_items d.stays))) (total : f.total ≡ d.form) where
  abbrev k : Kept (measure_says me) vs ls d
  k = kept pr (measure_says me) vs ls d shown

  abbrev cs : List (List ℕ)
  cs = chains_off d.levels (vec_items d.stays)

  fitting : AllByRecursion (Fitting (length vs)) cs
  fitting = all_fitting (measure_says me) vs ls d k line.0.0

  counted : judged_counts (length vs) (length ls) f.counts.now (length f.chains.now) ≡ Ok tt
  counted =
      let number : length (map length cs) ≡ length ls = length-map cs length ∙ chain_count (measure_says me) vs ls d k in
      ap₂ (λ xs ys. judged_counts (length vs) (length ls) xs (length ys)) counts numbers ∙
      cond-true _ _ _ (and_from _ _ (eq-eqb _ _ number) (eq-eqb _ _ (sum_lengths cs))) ∙ counts_judged (length vs) 1 cs fitting

  fit : CountsFit (length vs) (length ls) f.counts.now (length f.chains.now)
  fit = counts_fit (length vs) (length ls) f.counts.now (length f.chains.now) (Ok tt) (sym counted)

  few : 20 + 4 * length vs + 8 * length ls + (6 * length ls + 2 * length f.chains.now) + 18 ≤ 5270
  few =
      let given : length f.chains.now ≡ length (concat cs) = ap length numbers in
      let some : length (concat cs) ≤ 256 * length cs = joined_few cs (All-weaker (Fitting (length vs)) (λ c. length c ≤ 256) (λ c w. omega (arith, w.1, line.0.1)) cs fitting) in
      omega (arith, given, some, chain_count (measure_says me) vs ls d k, line.0.1, levels.count.1)

  abbrev pack : List ℕ
  pack = encoded (content me pr vs ls) ++ drawing_records d

  module _ (mn pn room : ℕ) (measure : mn ≡ measure_number me) (price : pn ≡ price_number pr) (enough : 5270 ≤ room) where
    abbrev writable : WritableJob (measure_number me) (price_number pr) ls 0 room
    writable = record {
      count = levels.count;
      measure_kind = me;
      price_kind = pr;
      same_measure = refl;
      same_price = refl;
      levels_lawful = levels.levels_lawful;
      room_for = omega arith;
    }

    written : family_pack mn pn vs ls f room ≡ Ok pack
    written =
        ap₂ (λ x y. family_pack x y vs ls f room) measure price ∙
        fits (measure_number me) (price_number pr) vs ls f (me, pr) (judged_back (measure_number me) (price_number pr) ls 0 room writable) counted fit room (omega (arith, few, enough)) ∙
        ap (λ xs. Ok (encoded (content me pr vs ls) ++ family_records xs f.total)) (ap₂ (λ xs ys. chains_of xs ys) counts numbers ∙ chains_back cs) ∙
        ap (λ t. Ok (encoded (content me pr vs ls) ++ family_records cs t)) total

    pub not_refused : (e : Fault) → Err e ≡ size_answered (family_pack mn pn vs ls f room) → ⊥
    not_refused e h = let z : ◌≡◌ {A = Result ℕ Fault} (Err e) (Ok (length pack)) = h ∙ ap size_answered written in let n : ◌≡◌ {A = ℕ} 0 1 = cc in absurd (omega arith)

    pub front : (size : ℕ) (before after : List ℕ) → Ok size ≡ size_answered (family_pack mn pn vs ls f room) → after ≡ bytes_after (family_pack mn pn vs ls f room) before →
        take size after ≡ pack
    front size before after a b =
        let e : size ≡ length pack = same_answer size (length pack) (a ∙ ap size_answered written) in
        ap (take size) (b ∙ ap (λ r. bytes_after r before) written) ∙ take_at pack (drop (length pack) before) size (sym e)

-- the marker finds the pack valid
pub valid : (bs pack : List ℕ) (d : Drawing) → Drawn bs d → Octets pack → pack ≡ bs ++ drawing_records d → pack_marked pack ≡ Ok d.form
valid bs pack d r octets e =
    let j = r.job in
    let k = kept j.price (measure_says j.measure) j.vertices j.levels d r.shown in
    let v : ValidPack pack d.form = record {
      job = j;
      chains = chains_off d.levels (vec_items d.stays);
      lawful = r.lawful;
      bytes = e ∙ ap (λ xs. xs ++ drawing_records d) r.bytes;
      chain_count = chain_count (measure_says j.measure) j.vertices j.levels d k;
      family = is_family (measure_says j.measure) j.vertices j.levels d k;
      formed = form_drawn j.price (measure_says j.measure) j.vertices j.levels d k r.shown;
    } in
    ((marks_packs pack octets).exactly d.form).1 v

module _ (bs : List ℕ) (job : Job) (vs : List Vertex) (ls : List Level) (h : JobRead bs job vs ls) (d : Drawing) (r : Drawn bs d) where
  same_job : r.job ≡ h.content
  same_job = same_answer r.job h.content (sym r.read ∙ h.is)

  -- the drawing is of the job in the place
  pub shown_at : ShowsPriced job.price (measure_says job.measure) (take job.vertices vs) (take job.levels ls) d
  shown_at =
      let here : (j : Content) → j ≡ h.content → ShowsPriced j.price (measure_says j.measure) j.vertices j.levels d → ShowsPriced h.content.price (measure_says h.content.measure) h.content.vertices h.content.levels d =
      λ j e s. subst (λ (j : Content). ShowsPriced j.price (measure_says j.measure) j.vertices j.levels d) e s in
      let me : job.measure ≡ h.content.measure = ap (λ y. y.measure) h.summed in
      let pr : job.price ≡ h.content.price = ap (λ y. y.price) h.summed in
      rw (me, pr, h.vertices_read, h.levels_read) (here r.job same_job r.shown)

  -- what is written of it is the job's bytes and then its records
  same_bytes : encoded (content job.measure job.price (take job.vertices vs) (take job.levels ls)) ≡ bs
  same_bytes =
      let me : job.measure ≡ h.content.measure = ap (λ y. y.measure) h.summed in
      let pr : job.price ≡ h.content.price = ap (λ y. y.price) h.summed in
      ap₂ (λ x y. encoded (content x y (take job.vertices vs) (take job.levels ls))) me pr ∙
      ap₂ (λ x y. encoded (content h.content.measure h.content.price x y)) h.vertices_read h.levels_read ∙ sym h.bytes

  pub key_of : {A : Type 0} (k : Result (Vec ℕ A) DrawError) → Octets bs → Made (λ pack. vec_items pack ≡ encoded (content job.measure job.price (take job.vertices vs) (take job.levels ls)) ++ drawing_records d) k → Keys bs k
  key_of (Ok pack) o w =
      let e : vec_items pack ≡ bs ++ drawing_records d = w ∙ ap (λ xs. xs ++ drawing_records d) same_bytes in
      let octets = subst Octets (sym e) (octets_append bs (drawing_records d) o (octets_family (chains_off d.levels (vec_items d.stays)) d.form)) in
      record { drawing = d; drawn = r; bytes = e; valid = valid bs (vec_items pack) d r octets e }
  key_of (Err (Refused f)) o w = absurd w
  key_of (Err OutOfMemory) o w = tt
