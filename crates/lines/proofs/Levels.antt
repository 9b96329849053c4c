-- Judging levels accepts exactly the lawful ones. Assumes nothing.
use Rattle.std.proofs.Common.{◌≡◌, ℕ, zero, suc, ◌+◌, ◌<◌, ◌≤◌, Bool, true, false, cond, ◌&&◌, leb, List, [], ◌∷◌, length, get_or, drop, is_ok, Ok, Err, Decides, Result, refl, ◌∙◌, arith}
use Rattle.std.proofs.lemmas.List.{at_drop_more}
use Rattle.std.proofs.lemmas.Bool.{and_parts, and_from, leb-true, le-leb, cond-true, cond-false}
use Rattle.lines.specs.declared.fault.Fault.{Fault}
use Rattle.lines.specs.declared.fault.Cause.TheVariants.{Tolerance, Weight}
use Rattle.lines.specs.declared.fault.Layer.{Layer}
use Rattle.lines.specs.declared.level.Level.{Level}
use Rattle.lines.specs.Fault.{fault, then}
use Rattle.lines.specs.Level.{level, LawfulLevels, judged_from, judged_levels}

-- a test passed, and what came after it was fine
pub passed : {X : Type 0} (b : Bool) (r : Result X Fault) (e : Fault) → is_ok (cond b r (Err e)) ≡ true → (b ≡ true) × (is_ok r ≡ true)
passed true r e h = (refl, h)
passed false r e h = (h, cc)

-- both parts of what is judged one after the other
pub both_granted : {X : Type 0} (a : Result (Unit {0}) Fault) (b : Unit {0} → Result X Fault) → is_ok (then a b) ≡ true → (is_ok a ≡ true) × (is_ok (b tt) ≡ true)
both_granted (Ok x) b h = (refl, h)
both_granted (Err e) b h = (h, cc)

sound : (largest : ℕ) (layer : Layer) (k least : ℕ) (ls : List Level) → is_ok (judged_from largest layer k least ls) ≡ true →
    (0 < length ls → least ≤ (get_or ls 0 (level 0 0)).tolerance) × LawfulLevels largest ls
sound largest layer k least [] h = (λ z. absurd (omega arith), record { rising = λ i z. absurd (omega arith); bounded = λ i z. absurd (omega arith); weighted = λ i z. absurd (omega arith) })
sound largest layer k least (l ∷ ls) h =
    let p = passed _ _ _ h in
    let q = passed _ _ _ p.1 in
    let t = and_parts _ _ p.0 in
    let w = and_parts _ _ q.0 in
    let rest = sound largest layer (k + 1) (l.tolerance + 1) ls q.1 in
    (λ _. leb-true _ _ t.0, step (leb-true _ _ t.1) (leb-true _ _ w.0, leb-true _ _ w.1) rest.0 rest.1)
  where
    step : l.tolerance ≤ largest → (1 ≤ l.weight) × (l.weight ≤ 1000) → (0 < length ls → l.tolerance + 1 ≤ (get_or ls 0 (level 0 0)).tolerance) → LawfulLevels largest ls → LawfulLevels largest (l ∷ ls)
    step b w f r = record { rising = rising; bounded = bounded; weighted = weighted }
      where
        rising : (i : ℕ) → suc i < length (l ∷ ls) → (get_or (l ∷ ls) i (level 0 0)).tolerance < (get_or (l ∷ ls) (suc i) (level 0 0)).tolerance
        rising zero z = omega (arith, f (omega arith))
        rising (suc i) z = r.rising i (omega arith)

        bounded : (i : ℕ) → i < length (l ∷ ls) → (get_or (l ∷ ls) i (level 0 0)).tolerance ≤ largest
        bounded zero z = b
        bounded (suc i) z = r.bounded i (omega arith)

        weighted : (i : ℕ) → i < length (l ∷ ls) → (1 ≤ (get_or (l ∷ ls) i (level 0 0)).weight) × ((get_or (l ∷ ls) i (level 0 0)).weight ≤ 1000)
        weighted zero z = w
        weighted (suc i) z = r.weighted i (omega arith)

pub complete : (largest : ℕ) (layer : Layer) (k least : ℕ) (ls : List Level) → (0 < length ls → least ≤ (get_or ls 0 (level 0 0)).tolerance) → LawfulLevels largest ls →
    judged_from largest layer k least ls ≡ Ok tt
complete largest layer k least [] f r = refl
complete largest layer k least (l ∷ ls) f r =
    let a = and_from _ _ (le-leb least l.tolerance (f (omega arith))) (le-leb l.tolerance largest (r.bounded 0 (omega arith))) in
    let b = and_from _ _ (le-leb 1 l.weight (r.weighted 0 (omega arith)).0) (le-leb l.weight 1000 (r.weighted 0 (omega arith)).1) in
    let rest = complete largest layer (k + 1) (l.tolerance + 1) ls
    (λ z. let q = r.rising 0 (omega arith) in omega arith)
    (record { rising = λ i z. r.rising (suc i) (omega arith); bounded = λ i z. r.bounded (suc i) (omega arith); weighted = λ i z. r.weighted (suc i) (omega arith) }) in
    rw (a, b) rest

pub judged_means : (largest : ℕ) (layer : Layer) (ls : List Level) → Decides (is_ok (judged_levels largest layer ls)) (LawfulLevels largest ls)
judged_means largest layer ls = (λ h. (sound largest layer 1 0 ls h).1, λ r. rw (complete largest layer 1 0 ls (λ _. omega arith) r) refl)

pub lawful_from : (largest : ℕ) (layer : Layer) (ls : List Level) (r : Result (Unit {0}) Fault) → r ≡ judged_levels largest layer ls → Decides (is_ok r) (LawfulLevels largest ls)
lawful_from largest layer ls r e = rw e (judged_means largest layer ls)

-- one level more, from place i of the levels
module _ (largest : ℕ) (layer : Layer) (least i : ℕ) (ls : List Level) (h : i < length ls) where
  abbrev t : ℕ
  t = (get_or ls i (level 0 0)).tolerance

  abbrev w : ℕ
  w = (get_or ls i (level 0 0)).weight

  opened : judged_from largest layer (i + 1) least (drop i ls) ≡
      cond (leb least t && leb t largest)
      (cond (leb 1 w && leb w 1000) (judged_from largest layer (i + 1 + 1) (t + 1) (drop (i + 1) ls)) (Err (fault Weight layer (i + 1))))
      (Err (fault Tolerance layer (i + 1)))
  opened = at_drop_more (judged_from largest layer (i + 1) least) ls i (level 0 0) h

  pub bad_tolerance : (leb least t && leb t largest) ≡ false → judged_from largest layer (i + 1) least (drop i ls) ≡ Err (fault Tolerance layer (i + 1))
  bad_tolerance b = opened ∙ cond-false _ _ _ b

  pub bad_weight : (leb least t && leb t largest) ≡ true → (leb 1 w && leb w 1000) ≡ false → judged_from largest layer (i + 1) least (drop i ls) ≡ Err (fault Weight layer (i + 1))
  bad_weight a b = opened ∙ cond-true _ _ _ a ∙ cond-false _ _ _ b
