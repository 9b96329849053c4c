-- The first level that passes a test. Assumes nothing.
use Rattle.std.proofs.Common.{◌≡◌, ℕ, zero, suc, ◌+◌, ◌-◌, ◌<◌, ◌≤◌, Bool, true, false, cond, ◌&&◌, leb, ◌⊎◌, inl, inr, List, length, get_or, Some, None, Option, sym, refl, ap, ◌∙◌, subst, add-one, arith}
use Rattle.std.specs.List.{AllWithin, HoldsAt}
use Rattle.std.specs.Option.{MatchOption, option_map, unwrap_or}
use Rattle.std.proofs.lemmas.Bool.{cond-true, cond-false, and_from, le-leb, cases_lt}
use Rattle.std.proofs.lemmas.Bool.Decides.{nat_tests}
use Rattle.families.specs.Least.{first}
use Rattle.families.proofs.Next.{first_range}
use Rattle.lines.specs.declared.level.Level.{Level}
use Rattle.lines.specs.Level.{level, level_of}
use Rattle.measures.specs.Measure.{first_level, level_in, first_passing}

-- the test of level k
abbrev passed : (ℕ → Bool) → List Level → ℕ → Bool
passed passes ls k = passes (level_of ls k).tolerance

-- the loop over the levels has come to level k + 1, and none before it passes
abbrev pub Refused : (ℕ → Bool) → List Level → ℕ → Type 0
Refused passes ls k = first_level passes ls ≡ first (passed passes ls) (k + 1) (length ls - k)

step : (passes : ℕ → Bool) (ls : List Level) (k : ℕ) → k < length ls → Refused passes ls k →
    first_level passes ls ≡ cond (passes (get_or ls k (level 0 0)).tolerance) (k + 1) (first (passed passes ls) (suc (k + 1)) (length ls - (k + 1)))
step passes ls k h before =
    let e : length ls - k ≡ suc (length ls - (k + 1)) = omega arith in
    let d : k + 1 - 1 ≡ k = omega arith in
    before ∙ ap (first (passed passes ls) (k + 1)) e ∙
    ap (λ z. cond (passes (get_or ls z (level 0 0)).tolerance) (k + 1) (first (passed passes ls) (suc (k + 1)) (length ls - (k + 1)))) d

-- level k + 1 passes
pub level_allows : (passes : ℕ → Bool) (ls : List Level) (k : ℕ) → k < length ls → Refused passes ls k →
    true ≡ passes (get_or ls k (level 0 0)).tolerance → k + 1 ≡ first_level passes ls
level_allows passes ls k h before y = sym (step passes ls k h before ∙ cond-true _ _ _ (sym y))

-- level k + 1 does not pass
pub level_refuses : (passes : ℕ → Bool) (ls : List Level) (k : ℕ) → k < length ls → Refused passes ls k →
    false ≡ passes (get_or ls k (level 0 0)).tolerance → Refused passes ls (k + 1)
level_refuses passes ls k h before y =
    step passes ls k h before ∙ cond-false _ _ _ (sym y) ∙ ap (λ z. first (passed passes ls) z (length ls - (k + 1))) (sym (add-one (k + 1)))

first_none : (test : ℕ → Bool) (more v : ℕ) → ((k : ℕ) → v ≤ k → k < v + more → test k ≡ false) → first test v more ≡ v + more
first_none test zero v fails = omega arith
first_none test (suc more) v fails =
    let e : suc v + more ≡ v + suc more = omega arith in
    cond-false (test v) _ _ (fails v (omega arith) (omega arith)) ∙ first_none test more (suc v) (λ k h l. fails k (omega arith) (omega arith)) ∙ e

-- no level passes
pub all_refuse : (passes : ℕ → Bool) (ls : List Level) → ((k : ℕ) → k < length ls → passes (get_or ls k (level 0 0)).tolerance ≡ false) →
    length ls + 1 ≡ first_level passes ls
all_refuse passes ls fails =
    let e : 1 + length ls ≡ length ls + 1 = omega arith in
    sym (first_none (passed passes ls) (length ls) 1 (λ k h l. fails (k - 1) (omega arith)) ∙ e)

first_same : (f g : ℕ → Bool) → ((k : ℕ) → f k ≡ g k) → (more v : ℕ) → first f v more ≡ first g v more
first_same f g same zero v = refl
first_same f g same (suc more) v = ap (λ x. cond x v (first f (suc v) more)) (same v) ∙ ap (λ x. cond (g v) v x) (first_same f g same more (suc v))

-- tests with the same answers
pub same_level : (f g : ℕ → Bool) (ls : List Level) → ((t : ℕ) → f t ≡ g t) → first_level f ls ≡ first_level g ls
same_level f g ls same = first_same (passed f ls) (passed g ls) (λ k. same (level_of ls k).tolerance) (length ls) 1

-- the loop over the levels has come to level k + 1 when those before it do not pass
refused_upto : (passes : ℕ → Bool) (ls : List Level) (k : ℕ) → k ≤ length ls → ((h : ℕ) → h < k → passes (get_or ls h (level 0 0)).tolerance ≡ false) → Refused passes ls k
refused_upto passes ls zero b fails = let e : length ls - 0 ≡ length ls = omega arith in ap (first (passed passes ls) 1) (sym e)
refused_upto passes ls (suc k) b fails =
    subst (Refused passes ls) (add-one k)
    (level_refuses passes ls k (omega (arith, b)) (refused_upto passes ls k (omega (arith, b)) (λ h l. fails h (omega (arith, l)))) (sym (fails k (omega arith))))

-- a grade as a level
in_levels : (m g : ℕ) → 1 ≤ g → g ≤ m → level_in m g ≡ Some g
in_levels m g a b = cond-true _ _ _ (and_from _ _ (le-leb 1 g a) (le-leb g m b))

-- level k + 1 passes, and none before it
first_is : (passes : ℕ → Bool) (ls : List Level) (k : ℕ) → k < length ls → passes (get_or ls k (level 0 0)).tolerance ≡ true →
    ((h : ℕ) → h < k → passes (get_or ls h (level 0 0)).tolerance ≡ false) → Some (k + 1) ≡ first_passing passes ls
first_is passes ls k h y fails =
    let e = level_allows passes ls k h (refused_upto passes ls k (omega (arith, h)) fails) (sym y) in
    sym (in_levels (length ls) (k + 1) (omega arith) (omega (arith, h))) ∙ ap (level_in (length ls)) e

-- no level passes
pub none_is : (passes : ℕ → Bool) (ls : List Level) → ((k : ℕ) → k < length ls → passes (get_or ls k (level 0 0)).tolerance ≡ false) →
    None ≡ first_passing passes ls
none_is passes ls fails =
    let e = all_refuse passes ls fails in
    let above : (leb 1 (length ls + 1) && leb (length ls + 1) (length ls)) ≡ false = grind (arith, nat_tests) in
    sym (cond-false _ _ _ above) ∙ ap (level_in (length ls)) e

-- what `position` finds, as a level
pub found_first : (passes : ℕ → Bool) (ls : List Level) (r : Option ℕ) →
    MatchOption r (AllWithin (λ l. passes l.tolerance ≡ false) ls 0 (length ls)) (λ k. (k < length ls) × HoldsAt (λ l. passes l.tolerance ≡ true) ls k × AllWithin (λ l. passes l.tolerance ≡ false) ls 0 k) →
    option_map (λ k. k + 1) r ≡ first_passing passes ls
found_first passes ls None f = none_is passes ls (λ k h. f k (level 0 0) (omega arith) h)
found_first passes ls (Some k) f = first_is passes ls k f.0 (f.1 (level 0 0)) (λ h l. f.2 h (level 0 0) (omega arith) l)

-- the first level, or else one more than there are levels, is the grade
pub grade_back : (passes : ℕ → Bool) (ls : List Level) → unwrap_or (first_passing passes ls) (length ls + 1) ≡ first_level passes ls
grade_back passes ls = go (cases_lt (length ls) (first_level passes ls))
  where
    r : (1 ≤ first_level passes ls) × (first_level passes ls ≤ 1 + length ls)
    r = first_range (passed passes ls) 1 (length ls)

    go : (length ls < first_level passes ls) ⊎ (first_level passes ls ≤ length ls) → unwrap_or (first_passing passes ls) (length ls + 1) ≡ first_level passes ls
    go (inl above) =
        let out : (leb 1 (first_level passes ls) && leb (first_level passes ls) (length ls)) ≡ false = grind (arith, nat_tests) in
        ap (λ o. unwrap_or o (length ls + 1)) (cond-false _ _ _ out) ∙ omega (arith, r.1, above)
    go (inr upto) = ap (λ o. unwrap_or o (length ls + 1)) (in_levels (length ls) (first_level passes ls) r.0 upto)
