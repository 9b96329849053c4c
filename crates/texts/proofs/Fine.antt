-- What a line says is in range. Assumes nothing.
use Rattle.std.proofs.Common.{◌≡◌, ℕ, ◌≤◌, true, List, [], ◌∷◌, map, Some, None, Ok, Option, ℤ, pos, negsuc, ◌≤ℤ◌, subst, arith}
use Rattle.std.specs.Prelude.{int_le, bytes_eq, codes, slice_index, ◌==◌}
use Rattle.std.specs.List.{AllByRecursion, starts_with}
use Rattle.std.proofs.lemmas.Bool.{and_parts, leb-true}
use Rattle.std.proofs.lemmas.Int.{ints}
use Rattle.lines.specs.Vertex.{at, InRange}
use Rattle.lines.specs.declared.level.Level.{Level as JobLevel}
use Rattle.lines.specs.declared.vertex.Vertex.{Vertex as LineVertex}
use Rattle.words.specs.Signed.{signed_of}
use Rattle.words.specs.Words.{words_of}
use Rattle.texts.specs.Statement.{measure_of, price_of, of_one, coordinate_of, vertex_in, level_in, level_stated, stated, vertices_in, line_string_in, said_by, statements_in, inside, parts}
use Rattle.texts.specs.declared.error.Expected.TheVariants.{MeasureName, PriceName, WeightInRange, VertexNumbers, LineString}
use Rattle.texts.specs.declared.statement.Statement.{Statement}
use Rattle.texts.specs.declared.statement.Statement.TheVariants.{Measure, Price, Level, Vertex}
use Rattle.texts.proofs.Steps.{onward_ok, ok_or_ok, mapped, chained, either, passed, kept, same}

-- a weight is from 1 to 1000 and a vertex in range
abbrev pub Fine : Statement → Type 0
Fine (Measure m) = Unit {0}
Fine (Price p) = Unit {0}
Fine (Level l) = (1 ≤ l.weight) × (l.weight ≤ 1000)
Fine (Vertex v) = InRange v

above : (a z : ℤ) → int_le a z ≡ true → a ≤ℤ z
above a z h = grind (arith, ints)

coordinate_fine : (word : List ℕ) (z : ℤ) → coordinate_of word ≡ Some z → (negsuc 16383 ≤ℤ z) × (z ≤ℤ pos 16383)
coordinate_fine word z h =
    let p = chained _ (signed_of word) z h in
    let k = kept _ p.0 z p.2 in
    let t = and_parts _ _ k.0 in
    let P : ℤ → Type 0 = λ y. (negsuc 16383 ≤ℤ y) × (y ≤ℤ pos 16383) in
    subst P k.1 (above (negsuc 16383) p.0 t.0, above p.0 (pos 16383) t.1)

vertex_fine : (words : List (List ℕ)) (v : LineVertex) → vertex_in words ≡ Some v → InRange v
vertex_fine [] v h = cc
vertex_fine (x ∷ []) v h = cc
vertex_fine (x ∷ y ∷ []) v h =
    let p = chained _ (coordinate_of x) v h in
    let q = mapped (at p.0) (coordinate_of y) v p.2 in
    let a = coordinate_fine x p.0 p.1 in
    let b = coordinate_fine y q.0 q.1 in
    subst InRange q.2 (a.0, a.1, b.0, b.1)
vertex_fine (x ∷ y ∷ more ∷ words) v h = cc

vertices_fine : (texts : List (List ℕ)) (vs : List LineVertex) → vertices_in texts ≡ Some vs → AllByRecursion Fine (map Vertex vs)
vertices_fine [] vs h = subst (λ ws. AllByRecursion Fine (map Vertex ws)) (let e : ◌≡◌ {A = List LineVertex} [] vs = cc in e) tt
vertices_fine (text ∷ texts) vs h =
    let p = chained _ (vertex_in (words_of text)) vs h in
    let q = mapped (λ ws. p.0 ∷ ws) (vertices_in texts) vs p.2 in
    subst (λ ws. AllByRecursion Fine (map Vertex ws)) q.2 (vertex_fine (words_of text) p.0 p.1, vertices_fine texts q.0 q.1)

level_fine : (o : Option JobLevel) (s : Statement) → level_stated o ≡ Ok s → Fine s
level_fine (Some l) s h =
    let p = passed _ _ WeightInRange s h in
    let t = and_parts _ _ p.0 in
    subst Fine (same (Level l) s p.1) (leb-true _ _ t.0, leb-true _ _ t.1)
level_fine None s h = let z : ◌≡◌ {A = ℕ} 0 1 = cc in absurd (omega arith)

stated_fine : (word : List ℕ) (words : List (List ℕ)) (s : Statement) → stated word words ≡ Ok s → Fine s
stated_fine word words s h =
    either (bytes_eq word (codes "measure")) _ _ _ h (λ k. let m = mapped Measure (of_one measure_of words) s (ok_or_ok _ MeasureName s k) in subst Fine m.2 tt) (λ h.
    either (bytes_eq word (codes "price")) _ _ _ h (λ k. let m = mapped Price (of_one price_of words) s (ok_or_ok _ PriceName s k) in subst Fine m.2 tt) (λ h.
    either (bytes_eq word (codes "level")) _ _ _ h (λ k. level_fine (level_in words) s k) (λ h.
    either (bytes_eq word (codes "vertex")) _ _ _ h
    (λ k. let m = mapped Vertex (vertex_in words) s (ok_or_ok _ VertexNumbers s k) in subst Fine m.2 (vertex_fine words m.0 m.1))
    (λ h. let z : ◌≡◌ {A = ℕ} 0 1 = cc in absurd (omega arith)))))

said_fine : (line : List ℕ) (words : List (List ℕ)) (ss : List Statement) → said_by line words ≡ Ok ss → AllByRecursion Fine ss
said_fine line [] ss h = subst (AllByRecursion Fine) (same [] ss h) tt
said_fine line (word ∷ words) ss h =
    either (slice_index word 0 == 35) _ _ _ h (λ k. subst (AllByRecursion Fine) (same [] ss k) tt) (λ h.
    either (starts_with (λ c d. c == d) word (codes "LINESTRING")) _ _ _ h
    (λ k.
    let m = mapped (map Vertex) (line_string_in line) ss (ok_or_ok _ LineString ss k) in
    let p = chained _ (inside line) m.0 m.1 in
    subst (AllByRecursion Fine) m.2 (vertices_fine (parts 44 p.0) m.0 p.2))
    (λ k. let m = onward_ok (stated word words) (λ s. Ok (s ∷ [])) ss k in subst (AllByRecursion Fine) (same (m.0 ∷ []) ss m.2) (stated_fine word words m.0 m.1, tt)))

pub statements_fine : (line : List ℕ) (ss : List Statement) → statements_in line ≡ Ok ss → AllByRecursion Fine ss
statements_fine line ss h = said_fine line (words_of line) ss h
