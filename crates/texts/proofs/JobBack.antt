-- The text of a lawful job says that job. Assumes nothing.
use Rattle.std.proofs.Common.{◌≡◌, ℕ, suc, ◌+◌, ◌-◌, ◌<◌, ◌≤◌, Bool, true, false, ◌||◌, eqb, ltb, List, [], ◌∷◌, ◌++◌, length, get_or, map, Some, Ok, Err, sym, refl, ap, subst, ◌∙◌, arith, append_assoc, append-nil, length-append, lit≤}
use Rattle.std.specs.List.{AllByRecursion}
use Rattle.std.proofs.Math.Seq.{get_or-append_seam}
use Rattle.std.proofs.lemmas.Bool.{cond-true, cond-false}
use Rattle.std.proofs.lemmas.Bool.Decides.{nat_tests}
use Rattle.std.proofs.lemmas.List.Elements.{All-from_get_or, recursion_from_All}
use Rattle.lines.specs.Level.{level, LawfulLevels}
use Rattle.lines.specs.Vertex.{InRange, origin}
use Rattle.lines.specs.declared.level.Level.{Level as JobLevel}
use Rattle.lines.specs.declared.vertex.Vertex.{Vertex as LineVertex}
use Rattle.packs.specs.Job.{Content, LawfulContent}
use Rattle.packs.specs.Kind.{measure_largest}
use Rattle.packs.specs.declared.kind.MeasureKind.{MeasureKind}
use Rattle.packs.specs.declared.kind.MeasureKind.TheVariants.{Segment, Strip, Area}
use Rattle.words.specs.Lines.{IsLine, each_with}
use Rattle.words.proofs.LineTrips.{lines_written}
use Rattle.writer.specs.Job.{content}
use Rattle.texts.specs.Error.{onward, at_line}
use Rattle.texts.specs.Statement.{statements_in}
use Rattle.texts.specs.Draft.{Said, nothing, numbered, no_level, rises, taken, all_taken, all_said, none_above, counted, whole, job_said}
use Rattle.texts.specs.Text.{measure_line, price_line, level_line, vertex_line, line_string, job_lines, job_text, short_text}
use Rattle.texts.specs.declared.draft.LevelLine.{LevelLine}
use Rattle.texts.specs.declared.statement.Statement.{Statement}
use Rattle.texts.specs.declared.statement.Statement.TheVariants.{Measure, Price, Level, Vertex}
use Rattle.texts.specs.declared.error.Expected.TheVariants.{FewVertices}
use Rattle.texts.proofs.LineStrings.{line_string_says, line_string_line}
use Rattle.texts.proofs.LinesBack.{Says, measure_back, price_back, level_back, vertex_back}

-- one line that says one thing
one : (n : ℕ) (line : List ℕ) (lines : List (List ℕ)) (s : Statement) (d e : Said) → Says line s → taken n s d ≡ Ok e → all_said n (line ∷ lines) d ≡ all_said (n + 1) lines e
one n line lines s d e says t =
    ap (λ r. onward (at_line n r) (λ ss. onward (at_line n (all_taken n ss d)) (all_said (n + 1) lines))) says.says ∙
    ap (λ r. onward (at_line n (onward r (all_taken n []))) (all_said (n + 1) lines)) t

-- levels, the first of them said by line n
abbrev numbered_from : ℕ → List JobLevel → List LevelLine
numbered_from n [] = []
numbered_from n (l ∷ ls) = numbered n l ∷ numbered_from (n + 1) ls

abbrev with_levels : Said → List LevelLine → Said
with_levels d ls = record d { levels = d.levels ++ ls }

few : (n m : ℕ) → n < m → ltb n m ≡ true
few n m h = grind (arith, nat_tests)

rises_next : (n : ℕ) (before : List LevelLine) (l next : JobLevel) → l.tolerance < next.tolerance → rises (before ++ (numbered n l ∷ [])) next ≡ true
rises_next n before l next h =
    let k : length (before ++ (numbered n l ∷ [])) - 1 ≡ length before = let a = length-append before (numbered n l ∷ []) in omega (arith, a) in
    let e : get_or (before ++ (numbered n l ∷ [])) (length (before ++ (numbered n l ∷ [])) - 1) no_level ≡ numbered n l =
    ap (λ m. get_or (before ++ (numbered n l ∷ [])) m no_level) k ∙ get_or-append_seam before (numbered n l) [] no_level in
    rw (e) (either (eqb (length (before ++ (numbered n l ∷ []))) 0) (few l.tolerance next.tolerance h))
  where
    either : (b : Bool) {c : Bool} → c ≡ true → (b || c) ≡ true
    either true h = refl
    either false h = h

tail_lawful : (largest : ℕ) (l : JobLevel) (ls : List JobLevel) → LawfulLevels largest (l ∷ ls) → LawfulLevels largest ls
tail_lawful largest l ls r = record { rising = λ i z. r.rising (suc i) (omega arith); bounded = λ i z. r.bounded (suc i) (omega arith); weighted = λ i z. r.weighted (suc i) (omega arith) }

levels_said : (largest : ℕ) → largest ≤ 4294967295 → (n : ℕ) (ls : List JobLevel) (rest : List (List ℕ)) (d : Said) → LawfulLevels largest ls → length d.levels + length ls ≤ 8 →
    (0 < length ls → rises d.levels (get_or ls 0 (level 0 0)) ≡ true) → all_said n (map level_line ls ++ rest) d ≡ all_said (n + length ls) rest (with_levels d (numbered_from n ls))
levels_said largest small n [] rest d law room up = let z : n ≡ n + 0 = omega arith in ap (λ m. all_said m rest d) z ∙ ap (λ ls. all_said (n + 0) rest (record d { levels = ls })) (sym (append-nil d.levels))
levels_said largest small n (l ∷ ls) rest d law room up =
    let e : Said = with_levels d (numbered n l ∷ []) in
    let k = length-append d.levels (numbered n l ∷ []) in
    let m : n + 1 + length ls ≡ n + suc (length ls) = omega arith in
    let says = level_back l (let b = law.bounded 0 (omega arith) in omega (arith, b, small)) (law.weighted 0 (omega arith)) in
    let taken_one : taken n (Level l) d ≡ Ok e = cond-true _ _ _ (few (length d.levels) 8 (omega arith)) ∙ cond-true _ _ _ (up (omega arith)) in
    one n (level_line l) (map level_line ls ++ rest) (Level l) d e says taken_one ∙
    levels_said largest small (n + 1) ls rest e (tail_lawful largest l ls law) (omega (arith, k)) (λ z. rises_next n d.levels l (get_or ls 0 (level 0 0)) (law.rising 0 (omega arith))) ∙
    ap (λ j. all_said j rest (with_levels e (numbered_from (n + 1) ls))) m ∙
    ap (λ xs. all_said (n + suc (length ls)) rest (record d { levels = xs })) (append_assoc d.levels (numbered n l ∷ []) (numbered_from (n + 1) ls))

-- vertices
abbrev with_vertices : Said → List LineVertex → Said
with_vertices d vs = record d { vertices = d.vertices ++ vs }

vertices_said : (n : ℕ) (vs : List LineVertex) (rest : List (List ℕ)) (d : Said) → AllByRecursion InRange vs → length d.vertices + length vs ≤ 256 →
    all_said n (map vertex_line vs ++ rest) d ≡ all_said (n + length vs) rest (with_vertices d vs)
vertices_said n [] rest d r room = let z : n ≡ n + 0 = omega arith in ap (λ m. all_said m rest d) z ∙ ap (λ vs. all_said (n + 0) rest (record d { vertices = vs })) (sym (append-nil d.vertices))
vertices_said n (v ∷ vs) rest d r room =
    let e : Said = with_vertices d (v ∷ []) in
    let k = length-append d.vertices (v ∷ []) in
    let m : n + 1 + length vs ≡ n + suc (length vs) = omega arith in
    let taken_one : taken n (Vertex v) d ≡ Ok e = cond-true _ _ _ (few (length d.vertices) 256 (omega arith)) in
    one n (vertex_line v) (map vertex_line vs ++ rest) (Vertex v) d e (vertex_back v r.0) taken_one ∙
    vertices_said (n + 1) vs rest e r.1 (omega (arith, k)) ∙
    ap (λ j. all_said j rest (with_vertices e vs)) m ∙
    ap (λ xs. all_said (n + suc (length vs)) rest (record d { vertices = xs })) (append_assoc d.vertices (v ∷ []) vs)

-- one line that says them all
all_taken_vertices : (n : ℕ) (vs : List LineVertex) (d : Said) → length d.vertices + length vs ≤ 256 → all_taken n (map Vertex vs) d ≡ Ok (with_vertices d vs)
all_taken_vertices n [] d room = ap (λ vs. Ok (record d { vertices = vs })) (sym (append-nil d.vertices))
all_taken_vertices n (v ∷ vs) d room =
    let e : Said = with_vertices d (v ∷ []) in
    let k = length-append d.vertices (v ∷ []) in
    ap (λ r. onward r (all_taken n (map Vertex vs))) (cond-true _ (Ok e) (Err FewVertices) (few (length d.vertices) 256 (omega arith))) ∙
    all_taken_vertices n vs e (omega (arith, k)) ∙ ap (λ xs. Ok (record d { vertices = xs })) (append_assoc d.vertices (v ∷ []) vs)

line_string_said : (n : ℕ) (vs : List LineVertex) (d : Said) → 0 < length vs → AllByRecursion InRange vs → length d.vertices + length vs ≤ 256 →
    all_said n (line_string vs ∷ []) d ≡ Ok (with_vertices d vs)
line_string_said n [] d some r room = absurd (omega arith)
line_string_said n (v ∷ vs) d some r room =
    ap (λ s. onward (at_line n s) (λ ss. onward (at_line n (all_taken n ss d)) (all_said (n + 1) []))) (line_string_says v vs r) ∙
    ap (λ s. onward (at_line n s) (all_said (n + 1) [])) (all_taken_vertices n (v ∷ vs) d room)

-- lines that say nothing
pub record Quiet (line : List ℕ) : Type 0 where
  pub one_line : IsLine line
  pub says : statements_in line ≡ Ok []

quiet_said : (n : ℕ) (lines : List (List ℕ)) (d : Said) → AllByRecursion Quiet lines → all_said n lines d ≡ Ok d
quiet_said n [] d q = refl
quiet_said n (line ∷ lines) d q =
    ap (λ r. onward (at_line n r) (λ ss. onward (at_line n (all_taken n ss d)) (all_said (n + 1) lines))) (q.0.says) ∙ quiet_said (n + 1) lines d q.1

-- the whole job
levels_back : (n : ℕ) (ls : List JobLevel) → map (λ l. l.level) (numbered_from n ls) ≡ ls
levels_back n [] = refl
levels_back n (l ∷ ls) = ap (λ ms. l ∷ ms) (levels_back (n + 1) ls)

length_back : (n : ℕ) (ls : List JobLevel) → length (numbered_from n ls) ≡ length ls
length_back n [] = refl
length_back n (l ∷ ls) = ap suc (length_back (n + 1) ls)

above : (a b : ℕ) → a ≤ b → ltb b a ≡ false
above a b h = grind (arith, nat_tests)

not_none : (n : ℕ) → 1 ≤ n → eqb n 0 ≡ false
not_none n h = grind (arith, nat_tests)

none_back : (largest n : ℕ) (ls : List JobLevel) → LawfulLevels largest ls → none_above largest (numbered_from n ls) ≡ Ok tt
none_back largest n [] r = refl
none_back largest n (l ∷ ls) r = cond-false _ _ _ (above l.tolerance largest (r.bounded 0 (omega arith))) ∙ none_back largest (n + 1) ls (tail_lawful largest l ls r)

largest_small : (me : MeasureKind) → measure_largest me ≤ 4294967295
largest_small Segment = lit≤ tt
largest_small Strip = lit≤ tt
largest_small Area = lit≤ tt

module _ (j : Content) (law : LawfulContent j) where
  abbrev said : Said
  said = record { measure = Some j.measure; price = Some j.price; levels = numbered_from 3 j.levels; vertices = j.vertices }

  whole_back : (end : ℕ) → whole end said ≡ Ok j
  whole_back end =
      ap (λ r. onward r (λ _. counted end said j.measure j.price)) (none_back (measure_largest j.measure) 3 j.levels law.levels_lawful) ∙
      cond-false _ _ _ (not_none (length (numbered_from 3 j.levels)) (let k = length_back 3 j.levels in let c = law.count.0 in omega (arith, k, c))) ∙
      cond-false _ _ _ (above 2 (length j.vertices) law.line.0.0) ∙ ap (λ ls. Ok (content j.measure j.price j.vertices ls)) (levels_back 3 j.levels)

  vertices_in_range : AllByRecursion InRange j.vertices
  vertices_in_range = recursion_from_All InRange j.vertices (All-from_get_or InRange j.vertices origin law.line.1)

  abbrev first : Said
  first = record nothing { measure = Some j.measure }

  abbrev second : Said
  second = record first { price = Some j.price }

  lines_said : (more : List (List ℕ)) → AllByRecursion Quiet more → all_said 1 (job_lines j ++ more) nothing ≡ Ok said
  lines_said more quiet =
      let third = with_levels second (numbered_from 3 j.levels) in
      one 1 (measure_line j.measure) (price_line j.price ∷ (map level_line j.levels ++ map vertex_line j.vertices ++ more)) (Measure j.measure) nothing first (measure_back j.measure) refl ∙
      one 2 (price_line j.price) (map level_line j.levels ++ map vertex_line j.vertices ++ more) (Price j.price) first second (price_back j.price) refl ∙
      ap (λ ls. all_said 3 ls second) (append_assoc (map level_line j.levels) (map vertex_line j.vertices) more) ∙
      levels_said (measure_largest j.measure) (largest_small j.measure) 3 j.levels (map vertex_line j.vertices ++ more) second law.levels_lawful (let c = law.count.1 in omega (arith, c)) (λ _. refl) ∙
      vertices_said (3 + length j.levels) j.vertices more third vertices_in_range (let c = law.line.0.1 in omega (arith, c)) ∙
      quiet_said (3 + length j.levels + length j.vertices) more said quiet

  -- no line feed is in a line
  level_lines : (largest : ℕ) (ls : List JobLevel) (rest : List (List ℕ)) → largest ≤ 4294967295 → LawfulLevels largest ls → AllByRecursion IsLine rest → AllByRecursion IsLine (map level_line ls ++ rest)
  level_lines largest [] rest small r q = q
  level_lines largest (l ∷ ls) rest small r q =
      ((level_back l (let b = r.bounded 0 (omega arith) in omega (arith, b, small)) (r.weighted 0 (omega arith))).one_line, level_lines largest ls rest small (tail_lawful largest l ls r) q)

  vertex_lines : (vs : List LineVertex) (rest : List (List ℕ)) → AllByRecursion InRange vs → AllByRecursion IsLine rest → AllByRecursion IsLine (map vertex_line vs ++ rest)
  vertex_lines [] rest r q = q
  vertex_lines (v ∷ vs) rest r q = ((vertex_back v r.0).one_line, vertex_lines vs rest r.1 q)

  quiet_lines : (more : List (List ℕ)) → AllByRecursion Quiet more → AllByRecursion IsLine more
  quiet_lines [] q = tt
  quiet_lines (line ∷ more) q = (q.0.one_line, quiet_lines more q.1)

  are_lines : (more : List (List ℕ)) → AllByRecursion Quiet more → AllByRecursion IsLine (job_lines j ++ more)
  are_lines more q = (
    (measure_back j.measure).one_line,
    (
      (price_back j.price).one_line,
      subst (AllByRecursion IsLine) (sym (append_assoc (map level_line j.levels) (map vertex_line j.vertices) more))
          (level_lines (measure_largest j.measure) j.levels (map vertex_line j.vertices ++ more) (largest_small j.measure) law.levels_lawful (vertex_lines j.vertices more vertices_in_range (quiet_lines more q))),
    ),
  )

  -- the text of a job, also with lines behind it that say nothing, says that job
  pub job_back : (more : List (List ℕ)) → AllByRecursion Quiet more → job_said (each_with 10 (job_lines j ++ more)) ≡ Ok j
  job_back more q =
      let lines = lines_written (job_lines j ++ more) (are_lines more q) in
      ap (λ ls. onward (all_said 1 ls nothing) (whole (length ls + 1))) lines ∙
      ap (λ r. onward r (whole (length (job_lines j ++ more) + 1))) (lines_said more q) ∙ whole_back (length (job_lines j ++ more) + 1)

  pub text_back : job_said (job_text j) ≡ Ok j
  text_back = ap (λ ls. job_said (each_with 10 ls)) (sym (append-nil (job_lines j))) ∙ job_back [] tt

  -- and so does its text with one line for all vertices
  abbrev short_lines : List (List ℕ)
  short_lines = measure_line j.measure ∷ (price_line j.price ∷ (map level_line j.levels ++ (line_string j.vertices ∷ [])))

  short_said : all_said 1 short_lines nothing ≡ Ok said
  short_said =
      let third = with_levels second (numbered_from 3 j.levels) in
      one 1 (measure_line j.measure) (price_line j.price ∷ (map level_line j.levels ++ (line_string j.vertices ∷ []))) (Measure j.measure) nothing first (measure_back j.measure) refl ∙
      one 2 (price_line j.price) (map level_line j.levels ++ (line_string j.vertices ∷ [])) (Price j.price) first second (price_back j.price) refl ∙
      levels_said (measure_largest j.measure) (largest_small j.measure) 3 j.levels (line_string j.vertices ∷ []) second law.levels_lawful (let c = law.count.1 in omega (arith, c)) (λ _. refl) ∙
      line_string_said (3 + length j.levels) j.vertices third (let c = law.line.0.0 in omega (arith, c)) vertices_in_range (let c = law.line.0.1 in omega (arith, c))

  line_string_is_line : (vs : List LineVertex) → 0 < length vs → AllByRecursion InRange vs → IsLine (line_string vs)
  line_string_is_line [] some r = absurd (omega arith)
  line_string_is_line (v ∷ vs) some r = line_string_line v vs r

  pub short_back : job_said (short_text j) ≡ Ok j
  short_back =
      let last = line_string_is_line j.vertices (let c = law.line.0.0 in omega (arith, c)) vertices_in_range in
      let lines = lines_written short_lines (
        (measure_back j.measure).one_line,
        ((price_back j.price).one_line, level_lines (measure_largest j.measure) j.levels (line_string j.vertices ∷ []) (largest_small j.measure) law.levels_lawful (last, tt)),
      ) in
      ap (λ ls. onward (all_said 1 ls nothing) (whole (length ls + 1))) lines ∙ ap (λ r. onward r (whole (length short_lines + 1))) short_said ∙ whole_back (length short_lines + 1)
