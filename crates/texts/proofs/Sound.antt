-- A text says no other job than a lawful one. Assumes nothing.
use Rattle.std.proofs.Common.{◌≡◌, ℕ, suc, ◌+◌, ◌-◌, ◌<◌, ◌≤◌, Bool, true, false, eqb, ltb, List, [], ◌∷◌, ◌++◌, length, get_or, Some, None, Ok, Option, sym, refl, ap, subst, ◌∙◌, arith, length-append}
use Rattle.std.specs.Prelude.{ok_or}
use Rattle.std.specs.List.{All, AllByRecursion}
use Rattle.std.proofs.Math.Seq.{get_or-append_seam}
use Rattle.std.proofs.lemmas.Bool.Decides.{nat_tests}
use Rattle.std.proofs.lemmas.List.{get_or_append_left, get_or-map, length-map}
use Rattle.std.proofs.lemmas.List.Elements.{All-nil, All-push, All-from_recursion}
use Rattle.lines.specs.Level.{level, LawfulLevels}
use Rattle.lines.specs.Vertex.{InRange, origin}
use Rattle.lines.specs.declared.level.Level.{Level as JobLevel}
use Rattle.lines.specs.declared.vertex.Vertex.{Vertex as LineVertex}
use Rattle.packs.specs.Job.{Content, LawfulContent}
use Rattle.packs.specs.Kind.{measure_largest}
use Rattle.packs.specs.declared.kind.MeasureKind.{MeasureKind}
use Rattle.packs.specs.declared.kind.PriceKind.{PriceKind}
use Rattle.words.specs.Lines.{lines_of}
use Rattle.writer.specs.Job.{content}
use Rattle.texts.specs.Error.{onward, at_line}
use Rattle.texts.specs.Statement.{statements_in}
use Rattle.texts.specs.Draft.{Said, nothing, numbered, no_level, with_measure, with_price, rises, with_level, with_vertex, taken, all_taken, all_said, levels_of, none_above, whole, job_said}
use Rattle.texts.specs.declared.draft.LevelLine.{LevelLine}
use Rattle.texts.specs.declared.error.Expected.TheVariants.{RisingTolerance, FewLevels, FewVertices, SomeMeasure, SomePrice, SomeLevel, TwoVertices}
use Rattle.texts.specs.declared.error.TextError.TheVariants.{Line}
use Rattle.texts.specs.declared.statement.Statement.{Statement}
use Rattle.texts.specs.declared.statement.Statement.TheVariants.{Measure, Price, Level, Vertex}
use Rattle.texts.proofs.Steps.{onward_ok, at_line_ok, passed, not_failed, same}
use Rattle.texts.proofs.Fine.{Fine, statements_fine}

abbrev Weighted : LevelLine → Type 0
Weighted l = (1 ≤ l.level.weight) × (l.level.weight ≤ 1000)

abbrev Rising : List LevelLine → Type 0
Rising ls = (i : ℕ) → suc i < length ls → (get_or ls i no_level).level.tolerance < (get_or ls (suc i) no_level).level.tolerance

-- what lines say is lawful as far as it goes
record Sound (d : Said) : Type 0 where
  in_range : All InRange d.vertices
  few_vertices : length d.vertices ≤ 256
  weighted : All Weighted d.levels
  rising : Rising d.levels
  few_levels : length d.levels ≤ 8

nothing_sound : Sound nothing
nothing_sound = record { in_range = All-nil InRange; few_vertices = omega arith; weighted = All-nil Weighted; rising = λ i h. absurd (omega arith); few_levels = omega arith }

measure_sound : (d e : Said) (m : MeasureKind) (o : Option MeasureKind) → Sound d → with_measure d m o ≡ Ok e → Sound e
measure_sound d e m None s h =
    subst Sound (same (record d { measure = Some m }) e h) (record { in_range = s.in_range; few_vertices = s.few_vertices; weighted = s.weighted; rising = s.rising; few_levels = s.few_levels })
measure_sound d e m (Some other) s h = let z : ◌≡◌ {A = ℕ} 0 1 = cc in absurd (omega arith)

price_sound : (d e : Said) (p : PriceKind) (o : Option PriceKind) → Sound d → with_price d p o ≡ Ok e → Sound e
price_sound d e p None s h =
    subst Sound (same (record d { price = Some p }) e h) (record { in_range = s.in_range; few_vertices = s.few_vertices; weighted = s.weighted; rising = s.rising; few_levels = s.few_levels })
price_sound d e p (Some other) s h = let z : ◌≡◌ {A = ℕ} 0 1 = cc in absurd (omega arith)

below : (a b : ℕ) → ltb a b ≡ true → a < b
below a b h = grind (arith, nat_tests)

rises_above : (ls : List LevelLine) (l : JobLevel) → rises ls l ≡ true → 0 < length ls → (get_or ls (length ls - 1) no_level).level.tolerance < l.tolerance
rises_above ls l h z = grind (arith, nat_tests)

more_rising : (n : ℕ) (ls : List LevelLine) (l : JobLevel) → rises ls l ≡ true → Rising ls → Rising (ls ++ (numbered n l ∷ []))
more_rising n ls l h r i z =
    let k = length-append ls (numbered n l ∷ []) in
    let e = get_or_append_left ls (numbered n l ∷ []) no_level i (omega (arith, k)) in
    step e (ltb (suc i) (length ls)) refl (omega (arith, k))
  where
    step : get_or (ls ++ (numbered n l ∷ [])) i no_level ≡ get_or ls i no_level → (b : Bool) → ltb (suc i) (length ls) ≡ b → suc i ≤ length ls →
        (get_or (ls ++ (numbered n l ∷ [])) i no_level).level.tolerance < (get_or (ls ++ (numbered n l ∷ [])) (suc i) no_level).level.tolerance
    step e true t b =
        let f = get_or_append_left ls (numbered n l ∷ []) no_level (suc i) (below _ _ t) in
        rw (e, f) (r i (below _ _ t))
    step e false t b =
        let q : length ls ≡ suc i = grind (arith, nat_tests) in
        let f : length ls - 1 ≡ i = omega arith in
        let g : get_or (ls ++ (numbered n l ∷ [])) (suc i) no_level ≡ numbered n l = ap (λ m. get_or (ls ++ (numbered n l ∷ [])) m no_level) (sym q) ∙ get_or-append_seam ls (numbered n l) [] no_level in
        let a : (get_or ls (length ls - 1) no_level).level.tolerance < l.tolerance = rises_above ls l h (omega arith) in
        rw (e, g) (subst (λ m. (get_or ls m no_level).level.tolerance < l.tolerance) f a)

level_sound : (n : ℕ) (d e : Said) (l : JobLevel) → (1 ≤ l.weight) × (l.weight ≤ 1000) → Sound d → with_level d n l ≡ Ok e → Sound e
level_sound n d e l f s h =
    let p = passed (ltb (length d.levels) 8) _ FewLevels e h in
    let q = passed (rises d.levels l) _ RisingTolerance e p.1 in
    let few : length d.levels < 8 = below _ _ p.0 in
    let k = length-append d.levels (numbered n l ∷ []) in
    subst Sound (same _ e q.1) (record {
      in_range = s.in_range;
      few_vertices = s.few_vertices;
      weighted = All-push Weighted d.levels (numbered n l) s.weighted f;
      rising = more_rising n d.levels l q.0 s.rising;
      few_levels = omega (arith, k, few);
    })

vertex_sound : (d e : Said) (v : LineVertex) → InRange v → Sound d → with_vertex d v ≡ Ok e → Sound e
vertex_sound d e v f s h =
    let p = passed (ltb (length d.vertices) 256) _ FewVertices e h in
    let few : length d.vertices < 256 = below _ _ p.0 in
    let k = length-append d.vertices (v ∷ []) in
    subst Sound (same _ e p.1) (record {
      in_range = All-push InRange d.vertices v s.in_range f;
      few_vertices = omega (arith, k, few);
      weighted = s.weighted;
      rising = s.rising;
      few_levels = s.few_levels;
    })

taken_sound : (n : ℕ) (statement : Statement) (d e : Said) → Fine statement → Sound d → taken n statement d ≡ Ok e → Sound e
taken_sound n (Measure m) d e f s h = measure_sound d e m d.measure s h
taken_sound n (Price p) d e f s h = price_sound d e p d.price s h
taken_sound n (Level l) d e f s h = level_sound n d e l f s h
taken_sound n (Vertex v) d e f s h = vertex_sound d e v f s h

all_taken_sound : (n : ℕ) (ss : List Statement) (d e : Said) → AllByRecursion Fine ss → Sound d → all_taken n ss d ≡ Ok e → Sound e
all_taken_sound n [] d e f s h = subst Sound (same d e h) s
all_taken_sound n (statement ∷ ss) d e f s h =
    let p = onward_ok (taken n statement d) (all_taken n ss) e h in
    all_taken_sound n ss p.0 e f.1 (taken_sound n statement d p.0 f.0 s p.1) p.2

all_said_sound : (n : ℕ) (lines : List (List ℕ)) (d e : Said) → Sound d → all_said n lines d ≡ Ok e → Sound e
all_said_sound n [] d e s h = subst Sound (same d e h) s
all_said_sound n (line ∷ lines) d e s h =
    let p = onward_ok (at_line n (statements_in line)) _ e h in
    let q = onward_ok (at_line n (all_taken n p.0 d)) (all_said (n + 1) lines) e p.2 in
    all_said_sound (n + 1) lines q.0 e
    (all_taken_sound n p.0 d q.0 (statements_fine line p.0 (at_line_ok n (statements_in line) p.0 p.1)) s (at_line_ok n (all_taken n p.0 d) q.0 q.1)) q.2

-- no tolerance is above the largest
abbrev Within : ℕ → List LevelLine → Type 0
Within largest ls = AllByRecursion (λ l. l.level.tolerance ≤ largest) ls

not_above : (a b : ℕ) → ltb a b ≡ false → b ≤ a
not_above a b h = grind (arith, nat_tests)

within : (largest : ℕ) (ls : List LevelLine) → none_above largest ls ≡ Ok tt → Within largest ls
within largest [] h = tt
within largest (l ∷ ls) h =
    let p = not_failed (ltb largest l.level.tolerance) _ _ tt h in
    (not_above largest l.level.tolerance p.0, within largest ls p.1)

levels_sound : (largest : ℕ) (d : Said) → Sound d → Within largest d.levels → LawfulLevels largest (levels_of d)
levels_sound largest d s w = record { rising = rising; bounded = bounded; weighted = weighted }
  where
    at : (i : ℕ) → i < length (levels_of d) → (i < length d.levels) × (get_or (levels_of d) i (level 0 0) ≡ (get_or d.levels i no_level).level)
    at i h = let k = length-map d.levels (λ l. l.level) in let h' : i < length d.levels = omega (arith, k, h) in (h', get_or-map (λ l. l.level) d.levels i no_level (level 0 0) h')

    rising : (i : ℕ) → suc i < length (levels_of d) → (get_or (levels_of d) i (level 0 0)).tolerance < (get_or (levels_of d) (suc i) (level 0 0)).tolerance
    rising i h = let a = at i (omega arith) in let b = at (suc i) h in rw (a.1, b.1) (s.rising i b.0)

    bounded : (i : ℕ) → i < length (levels_of d) → (get_or (levels_of d) i (level 0 0)).tolerance ≤ largest
    bounded i h = let a = at i h in rw (a.1) (All-from_recursion (λ l. l.level.tolerance ≤ largest) d.levels w i no_level a.0)

    weighted : (i : ℕ) → i < length (levels_of d) → (1 ≤ (get_or (levels_of d) i (level 0 0)).weight) × ((get_or (levels_of d) i (level 0 0)).weight ≤ 1000)
    weighted i h = let a = at i h in rw (a.1) (s.weighted i no_level a.0)

some : {X : Type 0} (xs : List X) → eqb (length xs) 0 ≡ false → 1 ≤ length xs
some xs h = grind (arith, nat_tests)

whole_sound : (end : ℕ) (d : Said) (j : Content) → Sound d → whole end d ≡ Ok j → LawfulContent j
whole_sound end d j s h =
    let p = onward_ok (ok_or d.measure (Line end SomeMeasure)) _ j h in
    let q = onward_ok (none_above (measure_largest p.0) d.levels) _ j p.2 in
    let r = onward_ok (ok_or d.price (Line end SomePrice)) _ j q.2 in
    let t = not_failed (eqb (length d.levels) 0) _ (Line end SomeLevel) j r.2 in
    let u = not_failed (ltb (length d.vertices) 2) _ (Line end TwoVertices) j t.1 in
    let k = length-map d.levels (λ l. l.level) in
    let few = s.few_levels in
    let one = some d.levels t.0 in
    let two = not_above (length d.vertices) 2 u.0 in
    subst LawfulContent (same (content p.0 r.0 d.vertices (levels_of d)) j u.1) (record {
      line = ((two, s.few_vertices), λ i z. s.in_range i origin z);
      count = (omega (arith, k, one), omega (arith, k, few));
      levels_lawful = levels_sound (measure_largest p.0) d s (within (measure_largest p.0) d.levels q.1);
    })

pub says_lawful : (text : List ℕ) (j : Content) → job_said text ≡ Ok j → LawfulContent j
says_lawful text j h =
    let p = onward_ok (all_said 1 (lines_of text) nothing) (whole (length (lines_of text) + 1)) j h in
    whole_sound (length (lines_of text) + 1) p.0 j (all_said_sound 1 (lines_of text) nothing p.0 nothing_sound p.1) p.2

-- a text says what its lines say in whole
pub says : (text : List ℕ) (lines : List (List ℕ)) (n : ℕ) (d : Said) (me : MeasureKind) (pr : PriceKind) (vs ws : List LineVertex) (ls ms : List JobLevel) → lines ≡ lines_of text → n ≡ length lines →
    all_said 1 lines nothing ≡ Ok d → whole (n + 1) d ≡ Ok (content me pr vs ls) → ws ≡ vs → ms ≡ ls → job_said text ≡ Ok (content me pr ws ms)
says text lines n d me pr vs ws ls ms e f s w v l =
    ap (λ ts. onward (all_said 1 ts nothing) (whole (length ts + 1))) (sym e) ∙ ap (λ r. onward r (whole (length lines + 1))) s ∙ ap (λ k. whole (k + 1) d) (sym f) ∙ w ∙
    ap (λ x. Ok (content me pr x ls)) (sym v) ∙ ap (λ x. Ok (content me pr ws x)) (sym l)
