-- The first level that is allowed. Assumes nothing.
use Rattle.std.proofs.Common.{◌≡◌, ℕ, zero, suc, ◌+◌, ◌<◌, ◌≤◌, Bool, true, false, cond, ◌&&◌, T, leb, List, length, Some, None, Option, sym, refl, ◌∙◌, subst, ⊎_elim, arith, leb→le}
use Rattle.std.proofs.lemmas.Bool.{cases_lt, le-leb, and_from}
use native.Mathlib.Decide.{dec_lt}
use Rattle.families.specs.Least.{first}
use Rattle.families.proofs.Bools.{right}
use Rattle.families.proofs.Next.{first_range}
use Rattle.lines.specs.declared.vertex.Vertex.{Vertex}
use Rattle.lines.specs.declared.level.Level.{Level}
use Rattle.measures.specs.Measure.{Answer, allowed_by, level_in, first_allowing, FirstAllowed}

-- the first passes, unless it is the last
first_passes : (test : ℕ → Bool) (v more : ℕ) → first test v more < v + more → T (test (first test v more))
first_passes test v zero h = absurd (omega arith)
first_passes test v (suc more) h = go (test v) refl (λ l. first_passes test (suc v) more l) h
  where
    go : (x : Bool) → test v ≡ x → (first test (suc v) more < suc v + more → T (test (first test (suc v) more))) →
        cond x v (first test (suc v) more) < v + suc more → T (test (cond x v (first test (suc v) more)))
    go true e ih l = subst T (sym e) tt
    go false e ih l = ih (omega arith)

-- none before the first passes
none_before : (test : ℕ → Bool) (v more w : ℕ) → v ≤ w → w < first test v more → T (test w) → ⊥
none_before test v zero w a b t = omega arith
none_before test v (suc more) w a b t = go (test v) refl (λ c d. none_before test (suc v) more w c d t) b
  where
    later : test v ≡ false → Dec (v < w) → v < w
    later e (yes l) = l
    later e (no l) = let q : w ≡ v = omega arith in absurd (subst T e (subst (λ x. T (test x)) q t))

    go : (x : Bool) → test v ≡ x → (suc v ≤ w → w < first test (suc v) more → ⊥) → w < cond x v (first test (suc v) more) → ⊥
    go true e ih l = omega arith
    go false e ih l = ih (later e (dec_lt v w)) l

-- the first of m numbers that passes, as a level
pub first_allowed : (test : ℕ → Bool) (m : ℕ) → FirstAllowed test m (level_in m (first test 1 m))
first_allowed test m = go (leb 1 g && leb g m) refl
  where
    g : ℕ
    g = first test 1 m

    r : (1 ≤ g) × (g ≤ 1 + m)
    r = first_range test 1 m

    go : (x : Bool) → (leb 1 g && leb g m) ≡ x → FirstAllowed test m (cond x (Some g) None)
    go true q =
        let t : T (leb 1 g && leb g m) = subst T (sym q) tt in
        let high = leb→le g m (right (leb 1 g) (leb g m) t) in (
          r.0,
          high,
          first_passes test 1 m (omega arith),
          λ h p l s. none_before test 1 m h p l s,
        )
    go false q = λ k p l s.
        ⊎_elim
        (λ (h : k < g). none_before test 1 m k p h s)
        (λ (h : g ≤ k). subst T (sym (and_from _ _ (le-leb 1 g r.0) (le-leb g m (omega arith))) ∙ q) tt)
        (cases_lt k g)

-- an answer that is the first level that allows a link
pub tells_first : (says : Answer) (vs : List Vertex) (ls : List Level) (i j : ℕ) (r : Option ℕ) → r ≡ first_allowing says vs ls i j →
    FirstAllowed (λ k. allowed_by says vs ls k i j) (length ls) r
tells_first says vs ls i j r e =
    subst (FirstAllowed (λ k. allowed_by says vs ls k i j) (length ls)) (sym e) (first_allowed (λ k. allowed_by says vs ls k i j) (length ls))
