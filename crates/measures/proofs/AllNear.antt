-- Measures that ask about each skipped vertex by itself. Assumes nothing.
use Rattle.std.proofs.Common.{◌≡◌, ℕ, suc, ◌+◌, ◌-◌, ◌<◌, ◌≤◌, max, Bool, true, false, ◌&&◌, leb, List, length, get_or, Option, sym, refl, ap, ◌∙◌, ap₂, ⊎_elim, arith}
use Rattle.std.proofs.lemmas.Bool.{and_left, and_right, cases_lt}
use Rattle.std.proofs.lemmas.Bool.Decides.{nat_tests}
use Rattle.lines.specs.declared.vertex.Vertex.{Vertex}
use Rattle.lines.specs.Vertex.{origin}
use Rattle.lines.specs.Line.{is_link}
use Rattle.lines.specs.declared.level.Level.{Level}
use Rattle.measures.specs.Measure.{level_in, first_passing, first_allowing}
use Rattle.measures.specs.declared.apart.Apart.{Apart}
use Rattle.measures.specs.Plane.{Near, every, all_near, each_skipped}
use Rattle.measures.specs.Apart.{apart_within}
use Rattle.measures.specs.Skipped.{tested, test_is, Passed, vertex_fails, vertex_passes, link_fails}
use Rattle.measures.proofs.Grades.{same_level}
use Rattle.measures.proofs.Distances.{within_falls, within_both}

-- one more
every_more : (f : ℕ → Bool) (i k : ℕ) → i ≤ k → every f i ((k + 1) - i) ≡ (every f i (k - i) && f k)
every_more f i k h =
    let e : (k + 1) - i ≡ suc (k - i) = omega arith in
    let d : i + (k - i) ≡ k = omega arith in
    ap (every f i) e ∙ ap (λ x. every f i (k - i) && f x) d

-- the pass over the skipped vertices has come to k: those before it are near at t, and `most` tells at which tolerances they are
abbrev pub Passing : Near → List Vertex → ℕ → ℕ → ℕ → Apart → ℕ → Type 0
Passing near vs i j t most k =
    Passed near vs i j t k ×
    ((s : ℕ) → every (tested near vs i j s) (i + 1) (k - (i + 1)) ≡ apart_within most (get_or vs i origin) (get_or vs j origin) s)

-- vertex k lies `a` apart from the link p → q
module _ (near : Near) (vs : List Vertex) (i j t k : ℕ) (a : Apart) (p q : Vertex) (h : i + 1 ≤ k)
    (start : p ≡ get_or vs i origin)
    (end : q ≡ get_or vs j origin)
    (told : (s : ℕ) → near p q (get_or vs k origin) s ≡ apart_within a p q s) where
  tested_is : (s : ℕ) → tested near vs i j s k ≡ apart_within a (get_or vs i origin) (get_or vs j origin) s
  tested_is s = test_is near vs i j s k p q s _ start end refl (ap₂ (λ x y. apart_within a x y s) (sym start) (sym end) ∙ sym (told s))

  -- it is not near at t, and so at no smaller tolerance
  pub apart_fails : k < j → apart_within a p q t ≡ false → (s : ℕ) → s ≤ t → all_near near vs i j s ≡ false
  apart_fails l y s b = vertex_fails near vs i j s k h l (tested_is s ∙ ap₂ (λ x z. apart_within a x z s) (sym start) (sym end) ∙ within_falls a p q s t b y)

  -- it is near at t
  pub apart_passes : (most more : Apart) → more.far ≡ max most.far a.far → more.off ≡ max most.off a.off →
      apart_within a p q t ≡ true → Passing near vs i j t most k → Passing near vs i j t more (k + 1)
  apart_passes most more far off y before = (
    vertex_passes near vs i j t k h before.0 (tested_is t ∙ ap₂ (λ x z. apart_within a x z t) (sym start) (sym end) ∙ y),
    λ s. every_more (tested near vs i j s) (i + 1) k h ∙ ap₂ ◌&&◌ (before.1 s) (tested_is s) ∙ sym (within_both most a more (get_or vs i origin) (get_or vs j origin) s far off),
  )

-- the first level of a link p → q whose skipped vertices lie `most` apart from it
pub first_found : (largest : ℕ) (near : Near) (vs : List Vertex) (ls : List Level) (i j : ℕ) (p q : Vertex) (most : Apart) (r : Option ℕ) → true ≡ is_link vs i j →
    p ≡ get_or vs i origin → q ≡ get_or vs j origin → ((s : ℕ) → all_near near vs i j s ≡ apart_within most (get_or vs i origin) (get_or vs j origin) s) →
    r ≡ first_passing (λ t. leb t largest && apart_within most p q t) ls → r ≡ first_allowing (each_skipped largest near) vs ls i j
first_found largest near vs ls i j p q most r link start end told e =
    let y = sym link in
    e ∙ ap (level_in (length ls)) (same_level (λ t. leb t largest && apart_within most p q t) (each_skipped largest near vs i j) ls
    (λ t. ap₂ (λ a b. leb t largest && apart_within most a b t) start end ∙ sym (ap₂ (λ x z. x && (leb t largest && z)) y (told t))))

-- where some skipped vertex is not near at w, the link is refused at every tolerance up to w, and above the largest
pub link_refused : (largest : ℕ) (near : Near) (vs : List Vertex) (i j t w : ℕ) → ((s : ℕ) → s ≤ w → all_near near vs i j s ≡ false) → (t ≤ largest → t ≤ w) →
    each_skipped largest near vs i j t ≡ false
link_refused largest near vs i j t w far inside =
    ⊎_elim
    (λ (above : largest < t). and_right (is_link vs i j) _ (and_left (leb t largest) _ (grind (arith, nat_tests))))
    (λ (upto : t ≤ largest). link_fails near largest vs i j t (far t (inside upto)))
    (cases_lt largest t)
