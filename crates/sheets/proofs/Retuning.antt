-- A level is retuned exactly where the levels stay lawful. Assumes nothing.
use Rattle.std.proofs.Common.{◌≡◌, ℕ, suc, ◌+◌, ◌-◌, ◌<◌, ◌≤◌, true, ◌⊎◌, List, length, get_or, is_ok, Decides, arith, length-set}
use Rattle.std.proofs.lemmas.List.{get_or-set_same, get_or-set_other}
use Rattle.std.proofs.lemmas.Bool.{cases_eq}
use Rattle.std.proofs.lemmas.Bool.Decides.{nat_tests}
use Rattle.lines.specs.Level.{level, level_of, LawfulLevels}
use Rattle.lines.specs.declared.level.Level.{Level}
use Rattle.sheets.specs.Levels.{retune_answer, retuned, Retunable}

module _ (largest : ℕ) (ls : List Level) (k t : ℕ) where
  -- what a granted retuning says
  record Granted : Type 0 where
    is_level : (1 ≤ k) × (k ≤ length ls)
    above : (k ≡ 1) ⊎ ((level_of ls (k - 1)).tolerance < t)
    under : (length ls ≡ k) ⊎ (t < (level_of ls (k + 1)).tolerance)
    most : t ≤ largest

  granted : is_ok (retune_answer largest ls k t) ≡ true → Granted
  granted e = record {
    is_level = (grind (arith, nat_tests), grind (arith, nat_tests));
    above = grind (arith, nat_tests);
    under = grind (arith, nat_tests);
    most = grind (arith, nat_tests);
  }

  grants : Granted → is_ok (retune_answer largest ls k t) ≡ true
  grants g = let a = g.is_level in let b = g.above in let c = g.under in let d = g.most in grind (arith, nat_tests)

  -- the levels after it, one by one
  abbrev at : ℕ → Level
  at i = get_or ls i (level 0 0)

  abbrev after : ℕ → Level
  after i = get_or (retuned ls k t) i (level 0 0)

  here : 1 ≤ k → k ≤ length ls → after (k - 1) ≡ level t (level_of ls k).weight
  here a b = get_or-set_same ls (k - 1) (level t (level_of ls k).weight) (level 0 0) (omega arith)

  elsewhere : (i : ℕ) → (i ≡ k - 1 → ⊥) → after i ≡ at i
  elsewhere i ne = get_or-set_other ls (k - 1) i (level t (level_of ls k).weight) (level 0 0) ne

  pub stays_lawful : LawfulLevels largest ls → is_ok (retune_answer largest ls k t) ≡ true → LawfulLevels largest (retuned ls k t)
  stays_lawful lawful e =
      let g = granted e in
      let is_level = g.is_level in
      let above = g.above in
      let under = g.under in
      let most = g.most in
      let same_length = length-set ls (k - 1) (level t (level_of ls k).weight) in
      let same = here is_level.0 is_level.1 in
      record {
        rising = λ i h.
            let rise = lawful.rising i (omega (arith, h, same_length)) in
            let one = cases_eq i (k - 1) in
            let two = cases_eq (suc i) (k - 1) in
            let other = elsewhere i in
            let others = elsewhere (suc i) in
            grind (arith, nat_tests);
        bounded = λ i h.
            let bound = lawful.bounded i (omega (arith, h, same_length)) in
            let one = cases_eq i (k - 1) in
            let other = elsewhere i in
            grind (arith, nat_tests);
        weighted = λ i h.
            let weight = lawful.weighted i (omega (arith, h, same_length)) in
            let one = cases_eq i (k - 1) in
            let other = elsewhere i in
            grind (arith, nat_tests);
      }

  pub retunes : LawfulLevels largest ls → Decides (is_ok (retune_answer largest ls k t)) (Retunable largest ls k t)
  retunes lawful = (
    λ e. record { is_level = (granted e).is_level; lawful_after = stays_lawful lawful e },
    λ r.
        let a = r.is_level in
        let same_length = length-set ls (k - 1) (level t (level_of ls k).weight) in
        let same = here a.0 a.1 in
        let before = elsewhere (k - 1 - 1) in
        let behind = elsewhere k in
        let bound = r.lawful_after.bounded (k - 1) (omega (arith, a, same_length)) in
        let low : 1 < k → (at (k - 1 - 1)).tolerance < t =
        λ h. let rise = r.lawful_after.rising (k - 1 - 1) (omega (arith, a, same_length)) in let e : suc (k - 1 - 1) ≡ k - 1 = omega arith in let b = before (omega arith) in grind (arith, nat_tests) in
        let high : k < length ls → t < (at k).tolerance =
        λ h. let rise = r.lawful_after.rising (k - 1) (omega (arith, same_length)) in let e : suc (k - 1) ≡ k = omega arith in let b = behind (omega arith) in grind (arith, nat_tests) in
        grants (record { is_level = a; above = grind (arith, nat_tests); under = grind (arith, nat_tests); most = grind (arith, nat_tests) }),
  )
