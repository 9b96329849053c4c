-- Judging accepts exactly families. Assumes nothing.
use Rattle.std.proofs.Common.{◌≡◌, ℕ, zero, suc, ◌+◌, ◌-◌, ◌<◌, ◌≤◌, Bool, true, false, cond, not, T, ◌↔◌, List, [], ◌∷◌, length, get_or, Some, None, Ok, Err, Option, Result, sym, refl, subst, inl, inr, arith}
use Rattle.std.specs.List.{AllByRecursion}
use Rattle.std.proofs.ByRecursion.{All-weaker}
use Rattle.std.proofs.lemmas.Bool.Decides.{nat_tests}
use Rattle.std.proofs.lemmas.Float.{T_from_true}
use lib.Ieee.Bits.{is_true}
use Rattle.families.specs.Chain.{Rises, Chain, Has, has, links}
use Rattle.families.specs.Family.{Family}
use Rattle.families.proofs.Rising.{has_means}
use Rattle.lines.specs.Fault.{then}
use Rattle.lines.specs.Level.{level, level_of}
use Rattle.lines.specs.declared.fault.Fault.{Fault}
use Rattle.lines.specs.declared.fault.Cause.{Cause}
use Rattle.lines.specs.declared.fault.Cause.TheVariants.{Order, Nesting, Link}
use Rattle.lines.specs.declared.level.Level.{Level}
use Rattle.marker.specs.Records.{chain_of}
use Rattle.marker.specs.Judge.{first_failing, in_order, disorder_from, disorder, missing, forbidden, none_or, judged_chain, judged_from}
use Rattle.marker.specs.Judged.{JudgesFamilies}

-- a test and the search after it find nothing
finds_none : (b : Bool) (i : ℕ) (r : Option ℕ) → (cond b r (Some i) ≡ None) ↔ ((b ≡ true) × (r ≡ None))
finds_none true i r = (λ e. (refl, e), λ p. p.1)
finds_none false i r = (λ e. (cc, cc), λ p. let q = p.0 in cc)

in_order_means : (n count i low x : ℕ) → (in_order n count i low x ≡ true) ↔ ((low ≤ x) × (i ≡ 0 → x ≡ 0) × (i + 1 ≡ count → x + 1 ≡ n))
in_order_means n count i low x = (
  λ e. (grind (arith, nat_tests), λ z. grind (arith, nat_tests), λ z. grind (arith, nat_tests)),
  λ p. let a = p.0 in let b = p.1 in let c = p.2 in grind (arith, nat_tests),
)

-- from position i on there is order exactly when the numbers rise to the last vertex
ordered_from : (n count i low x : ℕ) (xs : List ℕ) → 1 ≤ n → count ≡ i + length (x ∷ xs) →
    (disorder_from n count i low (x ∷ xs) ≡ None) ↔ ((low ≤ x) × (i ≡ 0 → x ≡ 0) × Rises x (n - 1) xs)
ordered_from n count i low x [] h len =
    let means = in_order_means n count i low x in let here = finds_none (in_order n count i low x) i None in (
      λ e. let p = means.0 (here.0 e).0 in let l = p.2 (omega arith) in (p.0, p.1, omega arith),
      λ p. let l = p.2 in here.1 (means.1 (p.0, p.1, λ z. omega arith), refl),
    )
ordered_from n count i low x (y ∷ ys) h len =
    let means = in_order_means n count i low x in
    let here = finds_none (in_order n count i low x) i (disorder_from n count (i + 1) (x + 1) (y ∷ ys)) in
    let rest = ordered_from n count (i + 1) (x + 1) y ys h (omega arith) in (
      λ e. let f = here.0 e in let p = means.0 f.0 in let q = rest.0 f.1 in let l = q.0 in (p.0, p.1, (omega arith, q.2)),
      λ p. let l = p.2.0 in here.1 (means.1 (p.0, p.1, λ z. omega arith), rest.1 (omega arith, λ z. omega arith, p.2.1)),
    )

ordered : (n : ℕ) (c : List ℕ) → 1 ≤ n → 1 ≤ length c → (disorder n c ≡ None) ↔ Chain n c
ordered n [] h k = absurd (omega arith)
ordered n (x ∷ xs) h k =
    let means = ordered_from n (length (x ∷ xs)) 0 0 x xs h (omega arith) in
    (λ e. let p = means.0 e in (p.1 refl, p.2), λ p. means.1 (omega arith, λ z. p.0, p.1))

finds_first : (b : Bool) (i : ℕ) (r : Option ℕ) → (cond (not b) (Some i) r ≡ None) ↔ ((b ≡ true) × (r ≡ None))
finds_first true i r = (λ e. (refl, e), λ p. p.1)
finds_first false i r = (λ e. (cc, cc), λ p. let q = p.0 in cc)

all_pass : {X : Type 0} (test : X → Bool) (i : ℕ) (xs : List X) → (first_failing test i xs ≡ None) ↔ AllByRecursion (λ x. test x ≡ true) xs
all_pass test i [] = (λ e. tt, λ p. refl)
all_pass test i (x ∷ xs) =
    let here = finds_first (test x) i (first_failing test (i + 1) xs) in let rest = all_pass test (i + 1) xs in
    (λ e. let f = here.0 e in (f.0, rest.0 f.1), λ p. here.1 (p.0, rest.1 p.1))

-- what holds of every number of a list, by the numbers that it has
all_had : (P : ℕ → Type 0) (xs : List ℕ) → AllByRecursion P xs → (v : ℕ) → Has xs v → P v
all_had P [] p v h = absurd h
all_had P (x ∷ xs) p v (inl e) = subst P (sym e) p.0
all_had P (x ∷ xs) p v (inr h) = all_had P xs p.1 v h

had_all : (P : ℕ → Type 0) (xs : List ℕ) → ((v : ℕ) → Has xs v → P v) → AllByRecursion P xs
had_all P [] f = tt
had_all P (x ∷ xs) f = (f x (inl refl), had_all P xs (λ v h. f v (inr h)))

nested : (finer c : List ℕ) → (missing finer c ≡ None) ↔ ((v : ℕ) → Has c v → Has finer v)
nested finer c = (
  λ e v h. (has_means finer v).0 (all_had (λ w. has finer w ≡ true) c ((all_pass (has finer) 0 c).0 e) v h),
  λ f. (all_pass (has finer) 0 c).1 (had_all (λ w. has finer w ≡ true) c (λ v h. (has_means finer v).1 (f v h))),
)

linked : (allowed : ℕ → ℕ → Bool) (c : List ℕ) → (forbidden allowed c ≡ None) ↔ AllByRecursion (λ l. T (allowed l.0 l.1)) (links c)
linked allowed c =
    let test : ℕ × ℕ → Bool = λ l. allowed l.0 l.1 in (
      λ e. All-weaker (λ l. test l ≡ true) (λ l. T (test l)) (λ l. T_from_true (test l)) (links c) ((all_pass test 0 (links c)).0 e),
      λ p. (all_pass test 0 (links c)).1 (All-weaker (λ l. T (test l)) (λ l. test l ≡ true) (λ l. is_true (test l)) (links c) p),
    )

both_ok : (r : Result (Unit {0}) Fault) (f : Unit {0} → Result (Unit {0}) Fault) → (then r f ≡ Ok tt) ↔ ((r ≡ Ok tt) × (f tt ≡ Ok tt))
both_ok (Ok x) f = (λ e. (refl, e), λ p. p.1)
both_ok (Err y) f = (λ e. (cc, cc), λ p. let q = p.0 in cc)

none_ok : (o : Option ℕ) (cause : Cause) (k : ℕ) → (none_or o cause k ≡ Ok tt) ↔ (o ≡ None)
none_ok None cause k = (λ e. refl, λ e. refl)
none_ok (Some spot) cause k = (λ e. cc, λ e. cc)

-- what one level of a family asks of its chain
record LevelHolds (allowed : ℕ → ℕ → Bool) (n : ℕ) (finer c : List ℕ) : Type 0 where
  rises : Chain n c
  within : (v : ℕ) → Has c v → Has finer v
  allows : AllByRecursion (λ l. T (allowed l.0 l.1)) (links c)

judged_level : (allowed : ℕ → ℕ → Bool) (n k : ℕ) (finer c : List ℕ) → 1 ≤ n → 1 ≤ length c →
    (judged_chain allowed n k finer c ≡ Ok tt) ↔ LevelHolds allowed n finer c
judged_level allowed n k finer c h some =
    let last = none_or (forbidden allowed c) Link k in
    let all = both_ok (none_or (disorder n c) Order k) (λ _. then (none_or (missing finer c) Nesting k) (λ _. last)) in
    let rest = both_ok (none_or (missing finer c) Nesting k) (λ _. last) in
    let order = none_ok (disorder n c) Order k in
    let nesting = none_ok (missing finer c) Nesting k in
    let link = none_ok (forbidden allowed c) Link k in (
      λ e. let p = all.0 e in let q = rest.0 p.1 in
          record {
            rises = (ordered n c h some).0 (order.0 p.0);
            within = (nested finer c).0 (nesting.0 q.0);
            allows = (linked allowed c).0 (link.0 q.1);
          },
      λ s. all.1 (order.1 ((ordered n c h some).1 s.rises), rest.1 (nesting.1 ((nested finer c).1 s.within), link.1 ((linked allowed c).1 s.allows))),
    )

-- every level holds: the levels ls, one for each of the chains, whose first is under `finer`
abbrev LevelsHold : (ℕ → ℕ → ℕ → Bool) → ℕ → List ℕ → List (List ℕ) → List Level → Type 0
LevelsHold allowed n finer cs ls =
    (j : ℕ) → j < length ls → LevelHolds (allowed (get_or ls j (level 0 0)).tolerance) n (get_or (finer ∷ cs) j []) (get_or cs j [])

judged_levels : (allowed : ℕ → ℕ → ℕ → Bool) (n k : ℕ) (finer : List ℕ) (cs : List (List ℕ)) (ls : List Level) →
    1 ≤ n → length cs ≡ length ls → AllByRecursion (λ c. 1 ≤ length c) cs → (judged_from allowed n k finer cs ls ≡ Ok tt) ↔ LevelsHold allowed n finer cs ls
judged_levels allowed n k finer [] [] h len some = (λ e j l. absurd (omega arith), λ f. refl)
judged_levels allowed n k finer [] (l ∷ ls) h len some = absurd (omega arith)
judged_levels allowed n k finer (c ∷ cs) [] h len some = absurd (omega arith)
judged_levels allowed n k finer (c ∷ cs) (l ∷ ls) h len some =
    let here = judged_level (allowed l.tolerance) n k finer c h some.0 in
    let rest = judged_levels allowed n (k + 1) c cs ls h (omega arith) some.1 in
    let both = both_ok (judged_chain (allowed l.tolerance) n k finer c) (λ _. judged_from allowed n (k + 1) c cs ls) in (
      λ e. let p = both.0 e in at (here.0 p.0) (rest.0 p.1),
      λ f. both.1 (here.1 (f 0 (omega arith)), rest.1 (λ j b. f (suc j) (omega arith))),
    )
  where
    at : LevelHolds (allowed l.tolerance) n finer c → LevelsHold allowed n c cs ls → LevelsHold allowed n finer (c ∷ cs) (l ∷ ls)
    at s f zero b = s
    at s f (suc j) b = f j (omega arith)

-- the levels of a family, by number and by place; the finest chain is under itself
module _ (allowed : ℕ → ℕ → ℕ → Bool) (n : ℕ) (c : List ℕ) (cs : List (List ℕ)) (ls : List Level) where
  abbrev Numbered : Type 0
  Numbered = Family (λ k i j. allowed (level_of ls k).tolerance i j) (length ls) n (chain_of (c ∷ cs))

  number : LevelsHold allowed n c (c ∷ cs) ls → Numbered
  number f = record {
    chains = λ k a b. (f (k - 1) (omega arith)).rises;
    nested = λ k a b.
        let e : suc k - 1 ≡ suc (k - 1) = omega arith in
        subst (λ i. (v : ℕ) → Has (get_or (c ∷ cs) i []) v → Has (get_or (c ∷ cs) (k - 1) []) v) (sym e) (f (suc (k - 1)) (omega arith)).within;
    links_allowed = λ k a b. (f (k - 1) (omega arith)).allows;
  }

  place : Numbered → LevelsHold allowed n c (c ∷ cs) ls
  place fam j b =
      let e : suc j - 1 ≡ j = omega arith in
      record {
        rises = subst (λ i. Chain n (get_or (c ∷ cs) i [])) e (fam.chains (suc j) (omega arith) b);
        within = under j b;
        allows = subst (λ i. AllByRecursion (λ l. T (allowed (get_or ls i (level 0 0)).tolerance l.0 l.1)) (links (get_or (c ∷ cs) i []))) e
            (fam.links_allowed (suc j) (omega arith) b);
      }
    where
      under : (j : ℕ) → j < length ls → (v : ℕ) → Has (get_or (c ∷ cs) j []) v → Has (get_or (c ∷ c ∷ cs) j []) v
      under zero b v h = h
      under (suc i) b v h =
          let p : suc (suc i) - 1 ≡ suc i = omega arith in let q : suc i - 1 ≡ i = omega arith in
          subst (λ k. Has (get_or (c ∷ cs) k []) v) q
          (fam.nested (suc i) (omega arith) b v (subst (λ k. Has (get_or (c ∷ cs) k []) v) (sym p) h))

pub judges_families : JudgesFamilies
judges_families allowed n [] [] h len some = (
  λ e. record {
    chains = λ k a b. absurd (omega arith);
    nested = λ k a b. absurd (omega arith);
    links_allowed = λ k a b. absurd (omega arith);
  },
  λ fam. refl,
)
judges_families allowed n [] (l ∷ ls) h len some = absurd (omega arith)
judges_families allowed n (c ∷ cs) ls h len some =
    let judged = judged_levels allowed n 1 c (c ∷ cs) ls h len some in
    (λ e. number allowed n c cs ls (judged.0 e), λ fam. judged.1 (place allowed n c cs ls fam))
