-- Measures that ask about each skipped vertex by itself. Assumes nothing.
-- Proofs of laws: they stand here since the code of an `impl` names them. No contract reads them.
use Rattle.std.specs.Prelude.{◌≡◌, ℕ, zero, suc, ◌+◌, ◌-◌, ◌<◌, ◌≤◌, Bool, true, false, List, nat_le, nat_lt, slice_index_or, refl}
use Rattle.std.proofs.Common.{subst, ⊎_elim, arith, eq-or-lt_of_le}
use Rattle.std.proofs.lemmas.Bool.{and_parts, and_from, and_left, and_right}
use Rattle.std.proofs.lemmas.Bool.Decides.{nat_tests}
use Rattle.lines.specs.declared.vertex.Vertex.{Vertex}
use Rattle.lines.specs.Vertex.{origin}
use Rattle.lines.specs.Line.{is_link}
use Rattle.measures.specs.Measure.{Rules}
use Rattle.measures.specs.Plane.{every, each_skipped, all_near}
use Rattle.measures.specs.Rising.{Rises}

every_rises : (f g : ℕ → Bool) (k n : ℕ) → ((i : ℕ) → f i ≡ true → g i ≡ true) → every f k n ≡ true → every g k n ≡ true
every_rises f g k zero r y = refl
every_rises f g k (suc n) r y =
    let b = and_parts (every f k n) (f (k + n)) y in
    and_from (every g k n) (g (k + n)) (every_rises f g k n r b.0) (r (k + n) b.1)

-- one that fails is enough
pub every_fails : (f : ℕ → Bool) (k n i : ℕ) → i < n → f (k + i) ≡ false → every f k n ≡ false
every_fails f k zero i h y = absurd (omega (arith, h))
every_fails f k (suc n) i h y =
    ⊎_elim
    (λ (e : i ≡ n). and_right (every f k n) (f (k + n)) (subst (λ (x : ℕ). f (k + x) ≡ false) e y))
    (λ (l : i < n). and_left (every f k n) (f (k + n)) (every_fails f k n i l y))
    (eq-or-lt_of_le {n = i} {m = n} (omega (arith, h)))

-- one more that passes
every_more : (f : ℕ → Bool) (i k : ℕ) → i ≤ k → every f i (k - i) ≡ true → f k ≡ true → every f i ((k + 1) - i) ≡ true
every_more f i k h y z =
    let e : (k + 1) - i ≡ suc (k - i) = omega arith in
    let d : i + (k - i) ≡ k = omega arith in
    rw e (and_from (every f i (k - i)) _ y (rw d z))

-- the test of the skipped vertex k of the link i → j
abbrev pub tested : (Vertex → Vertex → Vertex → ℕ → Bool) → List Vertex → ℕ → ℕ → ℕ → ℕ → Bool
tested near vs i j t k = near (slice_index_or vs i origin) (slice_index_or vs j origin) (slice_index_or vs k origin) t

-- the same test, asked with vertices and a tolerance that are those of the link
pub test_is : (near : Vertex → Vertex → Vertex → ℕ → Bool) (vs : List Vertex) (i j t k : ℕ) (p q : Vertex) (u : ℕ) (b : Bool) →
    p ≡ slice_index_or vs i origin → q ≡ slice_index_or vs j origin → u ≡ t → b ≡ near p q (slice_index_or vs k origin) u → tested near vs i j t k ≡ b
test_is near vs i j t k p q u b ep eq eu e = cc

-- the pass over the skipped vertices has come to k, and all before it are near
abbrev pub Passed : (Vertex → Vertex → Vertex → ℕ → Bool) → List Vertex → ℕ → ℕ → ℕ → ℕ → Type 0
Passed near vs i j t k = every (tested near vs i j t) (i + 1) (k - (i + 1)) ≡ true

-- one that fails: not all are near
pub vertex_fails : (near : Vertex → Vertex → Vertex → ℕ → Bool) (vs : List Vertex) (i j t k : ℕ) → i + 1 ≤ k → k < j →
    tested near vs i j t k ≡ false → all_near near vs i j t ≡ false
vertex_fails near vs i j t k h l y =
    let d : k ≡ (i + 1) + (k - (i + 1)) = omega arith in
    every_fails (tested near vs i j t) (i + 1) (j - (i + 1)) (k - (i + 1)) (omega arith) (subst (λ (x : ℕ). tested near vs i j t x ≡ false) d y)

-- and the link is refused
pub link_fails : (near : Vertex → Vertex → Vertex → ℕ → Bool) (largest : ℕ) (vs : List Vertex) (i j t : ℕ) →
    all_near near vs i j t ≡ false → each_skipped largest near vs i j t ≡ false
link_fails near largest vs i j t f = and_right (is_link vs i j) _ (and_right (nat_le t largest) _ f)

-- one more that passes
pub vertex_passes : (near : Vertex → Vertex → Vertex → ℕ → Bool) (vs : List Vertex) (i j t k : ℕ) → i + 1 ≤ k →
    Passed near vs i j t k → tested near vs i j t k ≡ true → Passed near vs i j t (k + 1)
vertex_passes near vs i j t k h p y = every_more (tested near vs i j t) (i + 1) k h p y

-- such a measure keeps the rules of measures
pub each_skipped_rules : (largest : ℕ) (near : Vertex → Vertex → Vertex → ℕ → Bool) → Rises near → Rules largest (each_skipped largest near)
each_skipped_rules largest near rises = record {
  next_allowed = λ vs i t lawful h b.
      let e : (i + 1) - (i + 1) ≡ 0 = omega arith in
      rw e (and_from (is_link vs i (i + 1)) _ (grind (arith, nat_tests)) (and_from (nat_le t largest) true (grind (arith, nat_tests)) refl));
  stays_allowed = λ vs i j s t lawful h b y.
      let y0 = and_parts (is_link vs i j) _ y in
      let y1 = and_parts (nat_le s largest) _ y0.1 in
      and_from (is_link vs i j) _ y0.0
      (and_from (nat_le t largest) _ (grind (arith, nat_tests))
      (every_rises (tested near vs i j s) (tested near vs i j t) (i + 1) (j - (i + 1)) (λ k. rises _ _ _ s t h) y1.1));
  links_only = λ vs i j t lawful y.
      let y0 = and_parts (is_link vs i j) _ y in
      let y1 = and_parts (nat_le t largest) _ y0.1 in
      let l = and_parts (nat_lt i j) _ y0.0 in
      (grind (arith, nat_tests), grind (arith, nat_tests), grind (arith, nat_tests));
}
