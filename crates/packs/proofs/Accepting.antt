-- The readers accept exactly the encodings of lawful jobs. Assumes nothing.
use Rattle.std.proofs.Common.{◌≡◌, ℕ, ◌+◌, ◌*◌, ◌/◌, ◌%◌, ◌<◌, ◌≤◌, true, ◌↔◌, List, [], ◌∷◌, ◌++◌, length, get_or, take, drop, is_ok, Some, Ok, sym, refl, ap, ◌∙◌, subst, arith, lit<, length-drop}
use Rattle.std.specs.List.{flat_map}
use Rattle.std.proofs.ByRecursion.{All-from_get_or}
use Rattle.std.proofs.lemmas.List.{append_assoc, append-nil, length-append, drop-drop, drop_more, drop_all}
use Rattle.std.proofs.lemmas.Bool.{cond-true, and_parts, and_from, le-leb, eq-eqb, eqb-true}
use Rattle.std.proofs.lemmas.Bool.Decides.{nat_tests}
use Rattle.lines.specs.Vertex.{origin, InRange}
use Rattle.lines.specs.Line.{judged_line}
use Rattle.lines.specs.Level.{level, judged_levels}
use Rattle.lines.specs.declared.fault.Layer.TheVariants.{Content as ContentLayer}
use Rattle.lines.specs.declared.vertex.Vertex.{Vertex}
use Rattle.lines.specs.declared.level.Level.{Level}
use Rattle.lines.proofs.Levels.{judged_means, complete}
use Rattle.lines.proofs.Lines.{judged_line_means, lawful_judged}
use Rattle.packs.specs.declared.kind.MeasureKind.{MeasureKind}
use Rattle.packs.specs.declared.kind.MeasureKind.TheVariants.{Segment, Strip, Area}
use Rattle.packs.specs.declared.kind.PriceKind.{PriceKind}
use Rattle.packs.specs.declared.kind.PriceKind.TheVariants.{Count, CountThenArea}
use Rattle.packs.specs.declared.record.Due.TheVariants.{Numbers, Vertices, Levels}
use Rattle.packs.specs.declared.job.Layout.{Layout}
use Rattle.packs.specs.Bytes.{Octets}
use Rattle.packs.specs.Record.{fits, a_record, record_at}
use Rattle.packs.specs.Kind.{measure_number, price_number, measure_numbered, price_numbered, measure_largest}
use Rattle.packs.specs.Job.{Content, LawfulContent, vertex_bytes, level_bytes, encoded, vertex_from, level_from, items, laid_out, layout_in, vertices_in, levels_in, judged_content, content_in, job_in, head_in, AcceptsJobs, AcceptsHeads}
use Rattle.packs.proofs.Answered.{cond_ok, then_ok, known_ok, then_made, known_made, same_answer}
use Rattle.packs.proofs.Items.{length_items}
use Rattle.packs.proofs.ItemTrips.{length_joined, joined_items, items_joined, vertex_written, vertex_read, level_written, level_read, SmallLevel}
use Rattle.packs.proofs.Layouts.{bounds, laid_out_by}
use Rattle.packs.proofs.LittleEndian.{octets_drop}
use Rattle.packs.proofs.RecordTrips.{begins, record_split, record_split_at, record_join, record_rest}

-- numbers of measures and prices
pub measure_known : (n : ℕ) (me : MeasureKind) → measure_numbered n ≡ Some me → n ≡ measure_number me
measure_known n Segment h = grind (arith, nat_tests)
measure_known n Strip h = grind (arith, nat_tests)
measure_known n Area h = grind (arith, nat_tests)

pub price_known : (n : ℕ) (pr : PriceKind) → price_numbered n ≡ Some pr → n ≡ price_number pr
price_known n Count h = grind (arith, nat_tests)
price_known n CountThenArea h = grind (arith, nat_tests)

pub measure_back : (me : MeasureKind) → measure_numbered (measure_number me) ≡ Some me
measure_back Segment = refl
measure_back Strip = refl
measure_back Area = refl

pub price_back : (pr : PriceKind) → price_numbered (price_number pr) ≡ Some pr
price_back Count = refl
price_back CountThenArea = refl

largest_small : (me : MeasureKind) → measure_largest me < 4294967296
largest_small Segment = lit< tt
largest_small Strip = lit< tt
largest_small Area = lit< tt

-- the bytes of three parts and what comes after
three : (A B C X Y Z bs : List ℕ) → bs ≡ A ++ X → X ≡ B ++ Y → Y ≡ C ++ Z → bs ≡ (A ++ (B ++ C)) ++ Z
three A B C X Y Z bs p q r = p ∙ ap (λ xs. A ++ xs) (q ∙ ap (λ xs. B ++ xs) r) ∙ sym (append_assoc A (B ++ C) Z ∙ ap (λ xs. A ++ xs) (append_assoc B C Z))

-- Bytes that begin with a lawful job, up to place `end`.
record Head (bs : List ℕ) (j : Content) (end : ℕ) : Type 0 where
  lawful : LawfulContent j
  inside : end ≤ length bs
  bytes : bs ≡ encoded j ++ drop end bs

-- what the structure says
module _ (bs : List ℕ) (o : Octets bs) (b c : ℕ) (ra : record_at Numbers 0 bs ≡ Ok 2) (rb : record_at Vertices 8 (drop 8 bs) ≡ Ok b)
    (rc : record_at Levels (14 + b) (drop (14 + b) bs) ≡ Ok c) where
  abbrev l : Layout
  l = laid_out b c

  abbrev vs : List Vertex
  vs = vertices_in bs l

  abbrev ls : List Level
  ls = levels_in bs l

  inside : 20 + b + c ≤ length bs
  inside = let h = (begins Levels (14 + b) (drop (14 + b) bs) c rc).inside in let d = length-drop (14 + b) bs in omega arith

  eights : (8 ≤ c) × (c ≤ 64)
  eights = bounds 8 64 c _ (begins Levels (14 + b) (drop (14 + b) bs) c rc).fitting

  vertex_count : 4 * (b / 4) ≡ b
  vertex_count = let e = eqb-true (b % 4) 0 (and_parts _ _ (begins Vertices 8 (drop 8 bs) b rb).fitting).0 in omega arith

  level_count : 8 * (c / 8) ≡ c
  level_count = let e = eqb-true (c % 8) 0 (and_parts _ _ (begins Levels (14 + b) (drop (14 + b) bs) c rc).fitting).0 in omega arith

  numbers_body : take 2 (drop 6 bs) ≡ get_or bs 6 0 ∷ get_or bs 7 0 ∷ []
  numbers_body = let h = inside in ap (take 2) (drop_more bs 6 0 (omega arith) ∙ ap (λ xs. get_or bs 6 0 ∷ xs) (drop_more bs 7 0 (omega arith)))

  vertices_body : take b (drop 14 bs) ≡ flat_map vertex_bytes vs
  vertices_body =
      let h = inside in
      let d = length-drop 14 bs in
      let v = vertex_count in
      ap (λ n. take n (drop 14 bs)) (sym v) ∙ sym (joined_items 4 vertex_from vertex_bytes vertex_written (b / 4) (drop 14 bs) (octets_drop 14 bs o) (omega arith))

  levels_body : take c (drop (20 + b) bs) ≡ flat_map level_bytes ls
  levels_body =
      let h = inside in
      let d = length-drop (20 + b) bs in
      let v = level_count in
      ap (λ n. take n (drop (20 + b) bs)) (sym v) ∙ sym (joined_items 8 level_from level_bytes level_written (c / 8) (drop (20 + b) bs) (octets_drop (20 + b) bs o) (omega arith))

  first : (m p : ℕ) → get_or bs 6 0 ≡ m → get_or bs 7 0 ≡ p → bs ≡ a_record 1 (m ∷ p ∷ []) ++ drop 8 bs
  first m p e d = record_split Numbers 0 bs 2 o ra ∙ ap (λ xs. a_record 1 xs ++ drop 8 bs) (numbers_body ∙ ap (λ n. n ∷ get_or bs 7 0 ∷ []) e ∙ ap (λ n. m ∷ n ∷ []) d)

  second : drop 8 bs ≡ a_record 2 (flat_map vertex_bytes vs) ++ drop (14 + b) bs
  second =
      let e : 8 + (6 + b) ≡ 14 + b = omega arith in
      record_split_at Vertices 8 8 bs b o rb ∙ ap (λ n. a_record 2 (take b (drop 14 bs)) ++ drop n bs) e ∙ ap (λ xs. a_record 2 xs ++ drop (14 + b) bs) vertices_body

  third : drop (14 + b) bs ≡ a_record 3 (flat_map level_bytes ls) ++ drop (20 + b + c) bs
  third =
      let e : 14 + b + 6 ≡ 20 + b = omega arith in
      let f : 14 + b + (6 + c) ≡ 20 + b + c = omega arith in
      record_split_at Levels (14 + b) (14 + b) bs c o rc ∙ ap (λ n. a_record 3 (take c (drop n bs)) ++ drop (14 + b + (6 + c)) bs) e ∙
      ap (λ n. a_record 3 (take c (drop (20 + b) bs)) ++ drop n bs) f ∙ ap (λ xs. a_record 3 xs ++ drop (20 + b + c) bs) levels_body

  -- what the content says
  head_made : (me : MeasureKind) (pr : PriceKind) → measure_numbered (get_or bs 6 0) ≡ Some me → price_numbered (get_or bs 7 0) ≡ Some pr →
      is_ok (judged_line vs) ≡ true → is_ok (judged_levels (measure_largest me) ContentLayer ls) ≡ true →
      Head bs (record { measure = me; price = pr; vertices = vs; levels = ls }) (20 + b + c)
  head_made me pr p q v w =
      let n : length ls ≡ c / 8 = length_items 8 level_from (c / 8) (drop (20 + b) bs) in
      let h = eights in
      record {
        lawful = record { line = (judged_line_means vs).0 v; count = (omega arith, omega arith); levels_lawful = (judged_means (measure_largest me) ContentLayer ls).0 w };
        inside = inside;
        bytes = three (a_record 1 (measure_number me ∷ price_number pr ∷ [])) (a_record 2 (flat_map vertex_bytes vs)) (a_record 3 (flat_map level_bytes ls)) (drop 8 bs) (drop (14 + b) bs) (drop (20 + b + c) bs) bs
            (first (measure_number me) (price_number pr) (measure_known _ me p) (price_known _ pr q)) second third;
      }

  head_in_parts : (j : Content) → content_in bs l ≡ Ok j → Head bs j (20 + b + c)
  head_in_parts j h =
      let p = known_ok _ _ _ j h in
      let q = known_ok _ _ _ j p.2 in
      let r = then_ok _ _ j q.2 in
      let s = then_ok _ _ r.0 r.1 in
      let P : Content → Type 0 = λ i. Head bs i (20 + b + c) in
      subst P (same_answer _ j r.2) (head_made p.0 q.0 p.1 q.1 (ap is_ok s.1) (ap is_ok s.2))

-- accepted bytes begin with a lawful job
accepted : (bs : List ℕ) → Octets bs → (l : Layout) (j : Content) → layout_in bs ≡ Ok l → content_in bs l ≡ Ok j → Head bs j l.end
accepted bs o l j e h =
    let p = then_ok _ _ l e in
    let q = then_ok _ _ l p.2 in
    let r = then_ok _ _ l q.2 in
    let a : p.0 ≡ 2 = eqb-true p.0 2 (begins Numbers 0 bs p.0 p.1).fitting in
    let k : laid_out q.0 r.0 ≡ l = same_answer _ l r.2 in
    let P : Layout → Type 0 = λ m. content_in bs m ≡ Ok j in
    let Q : Layout → Type 0 = λ m. Head bs j m.end in
    subst Q k (head_in_parts bs o q.0 r.0 (p.1 ∙ ap Ok a) q.1 r.1 j (subst P (sym k) h))

head_end : (bs : List ℕ) (j : Content) (end : ℕ) → Head bs j end → end ≡ length (encoded j)
head_end bs j end h =
    let i = h.inside in
    let e : length bs ≡ length (encoded j) + length (drop end bs) = ap length h.bytes ∙ length-append (encoded j) (drop end bs) in
    let d = length-drop end bs in
    omega arith

-- lawful jobs are read back
module _ (j : Content) (law : LawfulContent j) (rest : List ℕ) where
  abbrev N : List ℕ
  N = measure_number j.measure ∷ price_number j.price ∷ []

  abbrev V : List ℕ
  V = flat_map vertex_bytes j.vertices

  abbrev L : List ℕ
  L = flat_map level_bytes j.levels

  abbrev C : List ℕ
  C = a_record 3 L ++ rest

  abbrev whole : List ℕ
  whole = encoded j ++ rest

  vertices_length : length V ≡ 4 * length j.vertices
  vertices_length = length_joined 4 vertex_bytes (λ v. refl) j.vertices

  levels_length : length L ≡ 8 * length j.levels
  levels_length = length_joined 8 level_bytes (λ l. refl) j.levels

  at_vertices : drop 8 whole ≡ a_record 2 V ++ C
  at_vertices = append_assoc (a_record 2 V) (a_record 3 L) rest

  at_levels : drop (14 + length V) whole ≡ C
  at_levels =
      let e : 8 + (6 + length V) ≡ 14 + length V = omega arith in
      ap (λ n. drop n whole) (sym e) ∙ sym (drop-drop (6 + length V) 8 whole) ∙ ap (λ xs. drop (6 + length V) xs) at_vertices ∙ record_rest 2 V C

  in_vertices : drop 14 whole ≡ V ++ C
  in_vertices = append_assoc V (a_record 3 L) rest

  in_levels : drop (20 + length V) whole ≡ L ++ rest
  in_levels =
      let e : 14 + length V + 6 ≡ 20 + length V = omega arith in
      ap (λ n. drop n whole) (sym e) ∙ sym (drop-drop 6 (14 + length V) whole) ∙ ap (drop 6) at_levels

  vertices_fit : fits Vertices (length V) ≡ true
  vertices_fit =
      let h = law.line.0 in
      let e = vertices_length in
      and_from _ _ (eq-eqb (length V % 4) 0 (omega arith)) (and_from _ _ (le-leb 8 (length V) (omega arith)) (le-leb (length V) 1024 (omega arith)))

  levels_fit : fits Levels (length L) ≡ true
  levels_fit =
      let h = law.count in
      let e = levels_length in
      and_from _ _ (eq-eqb (length L % 8) 0 (omega arith)) (and_from _ _ (le-leb 8 (length L) (omega arith)) (le-leb (length L) 64 (omega arith)))

  layout_back : layout_in whole ≡ Ok (laid_out (length V) (length L))
  layout_back =
      let h = law.line.0 in
      let e = vertices_length in
      let k = law.count in
      let f = levels_length in
      laid_out_by whole 2 (length V) (length L)
      (record_join Numbers 0 N ((a_record 2 V ++ a_record 3 L) ++ rest) refl (lit< tt))
      (ap (record_at Vertices 8) at_vertices ∙ record_join Vertices 8 V C vertices_fit (omega arith))
      (ap (record_at Levels (14 + length V)) at_levels ∙ record_join Levels (14 + length V) L rest levels_fit (omega arith))

  abbrev lay : Layout
  lay = laid_out (length V) (length L)

  vertices_back : vertices_in whole lay ≡ j.vertices
  vertices_back =
      let e = vertices_length in
      let n : length V / 4 ≡ length j.vertices = omega arith in
      ap (λ k. items 4 vertex_from k (drop 14 whole)) n ∙ ap (items 4 vertex_from (length j.vertices)) in_vertices ∙
      items_joined 4 vertex_from vertex_bytes InRange vertex_read (λ v. refl) j.vertices C (All-from_get_or InRange j.vertices origin law.line.1)

  small : (i : ℕ) → i < length j.levels → SmallLevel (get_or j.levels i (level 0 0))
  small i h =
      let a = law.levels_lawful.bounded i h in
      let b = law.levels_lawful.weighted i h in
      let m = largest_small j.measure in
      (omega arith, omega arith)

  levels_back : levels_in whole lay ≡ j.levels
  levels_back =
      let e = levels_length in
      let n : length L / 8 ≡ length j.levels = omega arith in
      ap (λ k. items 8 level_from k (drop (20 + length V) whole)) n ∙ ap (items 8 level_from (length j.levels)) in_levels ∙
      items_joined 8 level_from level_bytes SmallLevel level_read (λ l. refl) j.levels rest (All-from_get_or SmallLevel j.levels (level 0 0) small)

  judged_back : judged_content j.measure (vertices_in whole lay) (levels_in whole lay) ≡ Ok tt
  judged_back =
      ap (λ vs. judged_content j.measure vs (levels_in whole lay)) vertices_back ∙ ap (judged_content j.measure j.vertices) levels_back ∙
      then_made _ _ tt (lawful_judged j.vertices law.line) ∙
      complete (measure_largest j.measure) ContentLayer 1 0 j.levels (λ _. omega arith) law.levels_lawful

  content_back : content_in whole lay ≡ Ok j
  content_back =
      known_made _ _ _ j.measure (measure_back j.measure) ∙ known_made _ _ _ j.price (price_back j.price) ∙ then_made _ _ tt judged_back ∙
      ap (λ vs. Ok (record { measure = j.measure; price = j.price; vertices = vs; levels = levels_in whole lay })) vertices_back ∙
      ap (λ ls. Ok (record { measure = j.measure; price = j.price; vertices = j.vertices; levels = ls })) levels_back

  end_back : lay.end ≡ length (encoded j)
  end_back =
      let a = length-append V (a_record 3 L) in
      omega arith

  head_back : head_in whole ≡ Ok (j, length (encoded j))
  head_back = then_made _ _ lay layout_back ∙ then_made _ _ j content_back ∙ ap (λ n. Ok (j, n)) end_back

  job_back : rest ≡ [] → job_in whole ≡ Ok j
  job_back n =
      let e : lay.end ≡ length whole = end_back ∙ ap length (sym (ap (λ xs. encoded j ++ xs) n ∙ append-nil (encoded j))) in
      then_made _ _ lay layout_back ∙ cond-true _ _ _ (eq-eqb lay.end (length whole) e) ∙ content_back

nothing_left : (bs : List ℕ) (end : ℕ) → end ≡ length bs → drop end bs ≡ []
nothing_left bs end e = drop_all end bs (omega arith)

heads_exactly : (bs : List ℕ) → Octets bs → (j : Content) (end : ℕ) →
    (head_in bs ≡ Ok (j, end)) ↔ (LawfulContent j × (end ≡ length (encoded j)) × ((rest : List ℕ) × (bs ≡ encoded j ++ rest)))
heads_exactly bs o j end = (sound, back)
  where
    sound : head_in bs ≡ Ok (j, end) → LawfulContent j × (end ≡ length (encoded j)) × ((rest : List ℕ) × (bs ≡ encoded j ++ rest))
    sound h =
        let p = then_ok _ _ (j, end) h in
        let q = then_ok _ _ (j, end) p.2 in
        let s : (q.0, p.0.end) ≡ (j, end) = same_answer _ (j, end) q.2 in
        let e : p.0.end ≡ end = ap (λ x. x.1) s in
        let i : q.0 ≡ j = ap (λ x. x.0) s in
        let H = accepted bs o p.0 j p.1 (q.1 ∙ ap Ok i) in
        (H.lawful, sym e ∙ head_end bs j p.0.end H, (drop p.0.end bs, H.bytes))

    back : LawfulContent j × (end ≡ length (encoded j)) × ((rest : List ℕ) × (bs ≡ encoded j ++ rest)) → head_in bs ≡ Ok (j, end)
    back t = ap head_in t.2.1 ∙ head_back j t.0 t.2.0 ∙ ap (λ n. Ok (j, n)) (sym t.1)

pub accepts_heads : (bs : List ℕ) → Octets bs → AcceptsHeads bs
accepts_heads bs o = record { exactly = heads_exactly bs o }

jobs_exactly : (bs : List ℕ) → Octets bs → (j : Content) → (job_in bs ≡ Ok j) ↔ (LawfulContent j × (bs ≡ encoded j))
jobs_exactly bs o j = (sound, back)
  where
    sound : job_in bs ≡ Ok j → LawfulContent j × (bs ≡ encoded j)
    sound h =
        let p = then_ok _ _ j h in
        let q = cond_ok _ _ _ j p.2 in
        let e : p.0.end ≡ length bs = eqb-true p.0.end (length bs) q.0 in
        let H = accepted bs o p.0 j p.1 q.1 in
        (H.lawful, H.bytes ∙ ap (λ xs. encoded j ++ xs) (nothing_left bs p.0.end e) ∙ append-nil (encoded j))

    back : LawfulContent j × (bs ≡ encoded j) → job_in bs ≡ Ok j
    back t = ap job_in (t.1 ∙ sym (append-nil (encoded j))) ∙ job_back j t.0 [] refl

pub accepts_jobs : (bs : List ℕ) → Octets bs → AcceptsJobs bs
accepts_jobs bs o = record { exactly = jobs_exactly bs o }
