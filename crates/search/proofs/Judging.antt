-- A search is granted exactly when levels are lawful and the memory suffices. Assumes nothing.
use Rattle.std.proofs.Common.{◌≡◌, ℕ, ◌*◌, Bool, true, false, cond, List, length, is_ok, Ok, Err, Decides, Result, sym, refl, ap, ◌∙◌}
use Rattle.std.proofs.lemmas.Bool.{and_parts, and_from, leb-true, le-leb}
use Rattle.lines.specs.Fault.{then}
use Rattle.lines.specs.Level.{judged_count, judged_levels}
use Rattle.lines.specs.declared.fault.Fault.{Fault}
use Rattle.lines.specs.declared.fault.Layer.TheVariants.{Sheet}
use Rattle.lines.specs.declared.level.Level.{Level}
use Rattle.lines.proofs.Levels.{passed, both_granted, judged_means}
use Rattle.search.specs.Search.{judged_memory, judged_search, Searchable}

both_grant : {X : Type 0} (a : Result (Unit {0}) Fault) (b : Unit {0} → Result X Fault) → is_ok a ≡ true → is_ok (b tt) ≡ true → is_ok (then a b) ≡ true
both_grant (Ok x) b p q = q
both_grant (Err e) b p q = p

pass : {X : Type 0} (b : Bool) (r : Result X Fault) (e : Fault) → b ≡ true → is_ok r ≡ true → is_ok (cond b r (Err e)) ≡ true
pass true r e p q = q
pass false r e p q = p

module _ (largest : ℕ) (ls : List Level) (n grades prices stays : ℕ) where
  pub granted_means : Decides (is_ok (judged_search largest ls n grades prices stays)) (Searchable largest ls n grades prices stays)
  granted_means = (to, from)
    where
      rest : Unit {0} → Result (Unit {0}) Fault
      rest _ = then (judged_levels largest Sheet ls) (λ _. judged_memory (length ls) n grades prices stays)

      to : is_ok (judged_search largest ls n grades prices stays) ≡ true → Searchable largest ls n grades prices stays
      to h =
          let p = both_granted (judged_count Sheet (length ls)) rest h in
          let q = both_granted (judged_levels largest Sheet ls) (λ _. judged_memory (length ls) n grades prices stays) p.1 in
          let count = and_parts _ _ (passed _ _ _ p.0).0 in
          let a = passed _ _ _ q.1 in
          let b = passed _ _ _ a.1 in
          let c = passed _ _ _ b.1 in
          record {
            level_count = (leb-true _ _ count.0, leb-true _ _ count.1);
            levels_lawful = (judged_means largest Sheet ls).0 q.0;
            grade_room = leb-true _ _ a.0;
            price_room = leb-true _ _ b.0;
            stay_room = leb-true _ _ c.0;
          }

      from : Searchable largest ls n grades prices stays → is_ok (judged_search largest ls n grades prices stays) ≡ true
      from s =
          both_grant (judged_count Sheet (length ls)) rest
          (pass _ _ _ (and_from _ _ (le-leb 1 (length ls) s.level_count.0) (le-leb (length ls) 8 s.level_count.1)) refl)
          (both_grant (judged_levels largest Sheet ls) (λ _. judged_memory (length ls) n grades prices stays) ((judged_means largest Sheet ls).1 s.levels_lawful)
          (pass _ _ _ (le-leb (n * n) grades s.grade_room) (pass _ _ _ (le-leb (length ls * (n * n)) prices s.price_room) (pass _ _ _ (le-leb n stays s.stay_room) refl))))

  -- from the answer of the code
  pub granted : (r : Result (Unit {0}) Fault) → r ≡ judged_search largest ls n grades prices stays → is_ok r ≡ true → Searchable largest ls n grades prices stays
  granted r e h = granted_means.0 (sym (ap is_ok e) ∙ h)
