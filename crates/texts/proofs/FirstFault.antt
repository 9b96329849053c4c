-- The line that is named is the first that is at fault. Assumes nothing.
use Rattle.std.proofs.Common.{◌≡◌, ℕ, zero, suc, ◌+◌, ◌-◌, ◌<◌, ◌≤◌, Bool, true, false, cond, eqb, ltb, List, [], ◌∷◌, ◌++◌, length, take, Some, None, Ok, Err, Option, Result, Vec, vec_items, sym, refl, ap, subst, ◌∙◌, arith}
use Rattle.std.specs.Prelude.{MatchResult, IfErr, ok_or}
use Rattle.std.specs.List.{AllByRecursion}
use Rattle.std.proofs.lemmas.List.{take_all}
use Rattle.packs.specs.Job.{Content, encoded}
use Rattle.packs.specs.Kind.{measure_largest}
use Rattle.packs.specs.declared.kind.MeasureKind.{MeasureKind}
use Rattle.packs.specs.declared.kind.PriceKind.{PriceKind}
use Rattle.lines.specs.declared.level.Level.{Level as JobLevel}
use Rattle.words.specs.Lines.{lines_of}
use Rattle.texts.specs.Error.{onward, at_line, Blamed}
use Rattle.texts.specs.Statement.{statements_in}
use Rattle.texts.specs.Draft.{Said, nothing, numbered, rises, with_measure, with_price, taken, all_taken, all_said, none_above, counted, whole, job_said}
use Rattle.texts.specs.Pack.{pack_said, NamesFirst}
use Rattle.texts.specs.declared.draft.LevelLine.{LevelLine}
use Rattle.texts.specs.declared.error.Expected.{Expected}
use Rattle.texts.specs.declared.error.Expected.TheVariants.{ToleranceUpTo, FewLevels, RisingTolerance, FewVertices, SomeMeasure, SomePrice, SomeLevel, TwoVertices}
use Rattle.texts.specs.declared.error.TextError.{TextError}
use Rattle.texts.specs.declared.error.TextError.TheVariants.{Line, OutOfMemory}
use Rattle.texts.specs.declared.statement.Statement.{Statement}
use Rattle.texts.specs.declared.statement.Statement.TheVariants.{Measure, Price, Level, Vertex}
use Rattle.texts.proofs.Steps.{onward_ok, at_line_ok, passed, same}

-- a line from k up to `end` is named, and those from k up to it can be read
record Named (k : ℕ) (lines : List (List ℕ)) (d : Said) (err : TextError) : Type 0 where
  n : ℕ
  e : Expected
  is : err ≡ Line n e
  within : (k ≤ n) × (n < k + length lines)
  said : Said
  before : all_said k (take (n - k) lines) d ≡ Ok said

here : (k : ℕ) (line : List ℕ) (lines : List (List ℕ)) (d : Said) (x : Expected) (err : TextError) → ◌≡◌ {A = Result Said TextError} (Err (Line k x)) (Err err) → Named k (line ∷ lines) d err
here k line lines d x err h =
    let z : k - k ≡ 0 = omega arith in
    record { n = k; e = x; is = (let s : err ≡ Line k x = cc in s); within = (omega arith, omega arith); said = d; before = ap (λ i. all_said k (take i (line ∷ lines)) d) z }

later : (k : ℕ) (line : List ℕ) (lines : List (List ℕ)) (d next : Said) (ss : List Statement) (err : TextError) → statements_in line ≡ Ok ss → all_taken k ss d ≡ Ok next → Named (k + 1) lines next err →
    Named k (line ∷ lines) d err
later k line lines d next ss err s t m =
    let z : m.n - k ≡ suc (m.n - (k + 1)) = let w = m.within in omega (arith, w) in
    record {
      n = m.n;
      e = m.e;
      is = m.is;
      within = (let w = m.within in omega (arith, w), let w = m.within in omega (arith, w));
      said = m.said;
      before = ap (λ i. all_said k (take i (line ∷ lines)) d) z ∙
          ap (λ r. onward (at_line k r) (λ us. onward (at_line k (all_taken k us d)) (all_said (k + 1) (take (m.n - (k + 1)) lines)))) s ∙
          ap (λ r. onward (at_line k r) (all_said (k + 1) (take (m.n - (k + 1)) lines))) t ∙ m.before;
    }

named : (k : ℕ) (lines : List (List ℕ)) (d : Said) (err : TextError) → all_said k lines d ≡ Err err → Named k lines d err
named k [] d err h = let z : ◌≡◌ {A = ℕ} 0 1 = cc in absurd (omega arith)
named k (line ∷ lines) d err h = by_line (λ next. named (k + 1) lines next err) (statements_in line) refl h
  where
    by_taken : ((next : Said) → all_said (k + 1) lines next ≡ Err err → Named (k + 1) lines next err) → (ss : List Statement) → statements_in line ≡ Ok ss → (r : Result Said Expected) → all_taken k ss d ≡ r → onward (at_line k r) (all_said (k + 1) lines) ≡ Err err → Named k (line ∷ lines) d err
    by_taken onward_named ss s (Ok next) t h = later k line lines d next ss err s t (onward_named next h)
    by_taken onward_named ss s (Err x) t h = here k line lines d x err h

    by_line : ((next : Said) → all_said (k + 1) lines next ≡ Err err → Named (k + 1) lines next err) → (r : Result (List Statement) Expected) → statements_in line ≡ r → onward (at_line k r) (λ ss. onward (at_line k (all_taken k ss d)) (all_said (k + 1) lines)) ≡ Err err → Named k (line ∷ lines) d err
    by_line onward_named (Ok ss) s h = by_taken onward_named ss s (all_taken k ss d) refl h
    by_line onward_named (Err x) s h = here k line lines d x err h

-- lines in front of others that can be read
prefix : (k i : ℕ) (lines : List (List ℕ)) (d e : Said) → all_said k lines d ≡ Ok e → (f : Said) × (all_said k (take i lines) d ≡ Ok f)
prefix k i [] d e h = (e, ap (λ ls. all_said k ls d) (take_all i [] (omega arith)) ∙ h)
prefix k zero (line ∷ lines) d e h = (d, refl)
prefix k (suc i) (line ∷ lines) d e h =
    let p = onward_ok (at_line k (statements_in line)) _ e h in
    let q = onward_ok (at_line k (all_taken k p.0 d)) (all_said (k + 1) lines) e p.2 in
    let r = prefix (k + 1) i lines q.0 e q.2 in
    (r.0, ap (λ s. onward s (λ us. onward (at_line k (all_taken k us d)) (all_said (k + 1) (take i lines)))) p.1 ∙ ap (λ s. onward s (all_said (k + 1) (take i lines))) q.1 ∙ r.1)

-- the lines of levels
abbrev Below : ℕ → List LevelLine → Type 0
Below end ls = AllByRecursion (λ l. (1 ≤ l.number) × (l.number < end)) ls

below_more : (a b : ℕ) (ls : List LevelLine) → a ≤ b → Below a ls → Below b ls
below_more a b [] h p = tt
below_more a b (l ∷ ls) h p = ((p.0.0, omega (arith, h, p.0.1)), below_more a b ls h p.1)

below_append : (end n : ℕ) (l : JobLevel) (ls : List LevelLine) → 1 ≤ n → n < end → Below end ls → Below end (ls ++ (numbered n l ∷ []))
below_append end n l [] a b p = ((a, b), tt)
below_append end n l (m ∷ ls) a b p = (p.0, below_append end n l ls a b p.1)

taken_below : (n : ℕ) (s : Statement) (d e : Said) → 1 ≤ n → Below (n + 1) d.levels → taken n s d ≡ Ok e → Below (n + 1) e.levels
taken_below n (Measure m) d e one p h = by d.measure h
  where
    by : (o : Option MeasureKind) → with_measure d m o ≡ Ok e → Below (n + 1) e.levels
    by None h = subst (λ x. Below (n + 1) x.levels) (same (record d { measure = Some m }) e h) p
    by (Some other) h = let z : ◌≡◌ {A = ℕ} 0 1 = cc in absurd (omega arith)
taken_below n (Price r) d e one p h = by d.price h
  where
    by : (o : Option PriceKind) → with_price d r o ≡ Ok e → Below (n + 1) e.levels
    by None h = subst (λ x. Below (n + 1) x.levels) (same (record d { price = Some r }) e h) p
    by (Some other) h = let z : ◌≡◌ {A = ℕ} 0 1 = cc in absurd (omega arith)
taken_below n (Level l) d e one p h =
    let a = passed (ltb (length d.levels) 8) _ FewLevels e h in
    let b = passed (rises d.levels l) _ RisingTolerance e a.1 in
    subst (λ x. Below (n + 1) x.levels) (same _ e b.1) (below_append (n + 1) n l d.levels one (omega arith) p)
taken_below n (Vertex v) d e one p h =
    let a = passed (ltb (length d.vertices) 256) _ FewVertices e h in
    subst (λ x. Below (n + 1) x.levels) (same _ e a.1) p

all_taken_below : (n : ℕ) (ss : List Statement) (d e : Said) → 1 ≤ n → Below (n + 1) d.levels → all_taken n ss d ≡ Ok e → Below (n + 1) e.levels
all_taken_below n [] d e one p h = subst (λ x. Below (n + 1) x.levels) (same d e h) p
all_taken_below n (s ∷ ss) d e one p h =
    let q = onward_ok (taken n s d) (all_taken n ss) e h in
    all_taken_below n ss q.0 e one (taken_below n s d q.0 one p q.1) q.2

all_said_below : (k : ℕ) (lines : List (List ℕ)) (d e : Said) → 1 ≤ k → Below k d.levels → all_said k lines d ≡ Ok e → Below (k + length lines) e.levels
all_said_below k [] d e one p h = below_more k (k + 0) e.levels (omega arith) (subst (λ x. Below k x.levels) (same d e h) p)
all_said_below k (line ∷ lines) d e one p h =
    let q = onward_ok (at_line k (statements_in line)) _ e h in
    let r = onward_ok (at_line k (all_taken k q.0 d)) (all_said (k + 1) lines) e q.2 in
    let b = all_taken_below k q.0 d r.0 one (below_more k (k + 1) d.levels (omega arith) p) (at_line_ok k (all_taken k q.0 d) r.0 r.1) in
    below_more (k + 1 + length lines) (k + suc (length lines)) e.levels (omega arith) (all_said_below (k + 1) lines r.0 e (omega arith) b r.2)

-- what the lines lack in all is named at one of them, or after the last
abbrev InLines : ℕ → TextError → Type 0
InLines end (Line n e) = (1 ≤ n) × (n ≤ end)
InLines end OutOfMemory = ⊥

above_named : (end largest : ℕ) (ls : List LevelLine) (err : TextError) → Below end ls → none_above largest ls ≡ Err err → InLines end err
above_named end largest [] err p h = let z : ◌≡◌ {A = ℕ} 0 1 = cc in absurd (omega arith)
above_named end largest (l ∷ ls) err p h = by (above_named end largest ls err p.1) (ltb largest l.level.tolerance) h
  where
    by : (none_above largest ls ≡ Err err → InLines end err) → (b : Bool) → cond b (Err (Line l.number (ToleranceUpTo largest))) (none_above largest ls) ≡ Err err → InLines end err
    by rest true h = subst (InLines end) (let s : Line l.number (ToleranceUpTo largest) ≡ err = cc in s) (p.0.0, omega (arith, p.0.1))
    by rest false h = rest h

at_end : (end : ℕ) (x : Expected) (err : TextError) {X : Type 0} → 1 ≤ end → ◌≡◌ {A = Result X TextError} (Err (Line end x)) (Err err) → InLines end err
at_end end x err one h = subst (InLines end) (let s : Line end x ≡ err = cc in s) (one, omega arith)

counted_named : (end : ℕ) (d : Said) (me : MeasureKind) (pr : PriceKind) (err : TextError) → 1 ≤ end → counted end d me pr ≡ Err err → InLines end err
counted_named end d me pr err one h = by (eqb (length d.levels) 0) (ltb (length d.vertices) 2) _ h
  where
    by : (a b : Bool) (j : Content) → cond a (Err (Line end SomeLevel)) (cond b (Err (Line end TwoVertices)) (Ok j)) ≡ Err err → InLines end err
    by true b j h = at_end end SomeLevel err one h
    by false true j h = at_end end TwoVertices err one h
    by false false j h = let z : ◌≡◌ {A = ℕ} 0 1 = cc in absurd (omega arith)

whole_named : (end : ℕ) (d : Said) (err : TextError) → 1 ≤ end → Below end d.levels → whole end d ≡ Err err → InLines end err
whole_named end d err one p h = by_measure d.measure h
  where
    by_price : (me : MeasureKind) (o : Option PriceKind) → onward (ok_or o (Line end SomePrice)) (counted end d me) ≡ Err err → InLines end err
    by_price me (Some pr) h = counted_named end d me pr err one h
    by_price me None h = at_end end SomePrice err one h

    by_above : (me : MeasureKind) (r : Result (Unit {0}) TextError) → none_above (measure_largest me) d.levels ≡ r →
        onward r (λ _. onward (ok_or d.price (Line end SomePrice)) (counted end d me)) ≡ Err err → InLines end err
    by_above me (Ok u) a h = by_price me d.price h
    by_above me (Err x) a h = above_named end (measure_largest me) d.levels err p (a ∙ (let s : x ≡ err = cc in ap Err s))

    by_measure : (o : Option MeasureKind) →
        onward (ok_or o (Line end SomeMeasure)) (λ me. onward (none_above (measure_largest me) d.levels) (λ _. onward (ok_or d.price (Line end SomePrice)) (counted end d me))) ≡ Err err → InLines end err
    by_measure (Some me) h = by_above me (none_above (measure_largest me) d.levels) refl h
    by_measure None h = at_end end SomeMeasure err one h

module _ (text : List ℕ) where
  abbrev lines : List (List ℕ)
  lines = lines_of text

  from_lines : (err : TextError) → Named 1 lines nothing err → NamesFirst text err
  from_lines err m = subst (NamesFirst text) (sym m.is) (record { within = (m.within.0, (let w = m.within in omega (arith, w))); said = m.said; before = m.before })

  from_whole : (d : Said) (err : TextError) → all_said 1 lines nothing ≡ Ok d → InLines (length lines + 1) err → NamesFirst text err
  from_whole d (Line n e) h w = let p = prefix 1 (n - 1) lines nothing d h in record { within = (w.0, w.1); said = p.0; before = p.1 }
  from_whole d OutOfMemory h w = tt

  names : (err : TextError) → job_said text ≡ Err err → NamesFirst text err
  names err h = by (all_said 1 lines nothing) refl h
    where
      by : (r : Result Said TextError) → all_said 1 lines nothing ≡ r → onward r (whole (length lines + 1)) ≡ Err err → NamesFirst text err
      by (Err x) a h = from_lines err (named 1 lines nothing err (a ∙ (let s : x ≡ err = cc in ap Err s)))
      by (Ok d) a h =
          let b = below_more (1 + length lines) (length lines + 1) d.levels (omega arith) (all_said_below 1 lines nothing d (omega arith) tt a) in
          from_whole d err a (whole_named (length lines + 1) d err (omega arith) b h)

  through : (r : Result Content TextError) (err : TextError) → onward r (λ j. Ok (encoded j)) ≡ Err err → r ≡ Err err
  through (Ok j) err h = cc
  through (Err x) err h = let s : x ≡ err = cc in ap Err s

  pub names_first : {A : Type 0} (r : Result (Vec ℕ A) TextError) → MatchResult r (λ pack. pack_said text ≡ Ok (vec_items pack)) (Blamed (pack_said text)) → IfErr r (NamesFirst text)
  names_first (Ok pack) h = tt
  names_first (Err (Line n x)) h = names (Line n x) (through (job_said text) (Line n x) h)
  names_first (Err OutOfMemory) h = tt
