-- What pinning and releasing leave. Assumes nothing.
use Rattle.std.proofs.Common.{◌≡◌, ℕ, ◌-◌, ◌<◌, ◌≤◌, true, false, ◌⊎◌, List, [], ◌∷◌, ◌++◌, length, subst, inr, ⊎_elim, arith, length-append}
use Rattle.std.proofs.lemmas.Bool.Decides.{nat_tests}
use Rattle.families.specs.Chain.{Has, has}
use Rattle.layers.specs.Pins.{is_inner, without, Distinct, LawfulPins, Adds, TakesOut}

-- the test `has`, read as a statement
has_not : (ps : List ℕ) (v : ℕ) → has ps v ≡ false → ¬ Has ps v
has_not [] v e h = h
has_not (p ∷ ps) v e h = let more = has_not ps v in grind (arith, nat_tests)

has_first : (ps : List ℕ) (v : ℕ) → (p : ℕ) → Has (ps ++ (v ∷ [])) p → (p ≡ v) ⊎ Has ps p
has_first [] v p h = grind (arith, nat_tests)
has_first (x ∷ ps) v p h = let more = has_first ps v p in grind (arith, nat_tests)

has_last : (ps : List ℕ) (v : ℕ) → (p : ℕ) → (p ≡ v) ⊎ Has ps p → Has (ps ++ (v ∷ [])) p
has_last [] v p h = grind (arith, nat_tests)
has_last (x ∷ ps) v p h = let more = has_last ps v p in grind (arith, nat_tests)

pub adds : (v : ℕ) (pins : List ℕ) → Adds v pins (pins ++ (v ∷ []))
adds v pins = record { pinned = λ p. (has_first pins v p, has_last pins v p) }

distinct_more : (ps : List ℕ) (v : ℕ) → Distinct ps → ¬ Has ps v → Distinct (ps ++ (v ∷ []))
distinct_more [] v d n = (λ h. h, tt)
distinct_more (p ∷ ps) v d n =
    let more : Distinct (ps ++ (v ∷ [])) = distinct_more ps v d.1 (λ h. n (inr h)) in
    let first = has_first ps v p in
    grind (arith, nat_tests)

pub lawful_more : (n v : ℕ) (pins : List ℕ) → LawfulPins n pins → is_inner n v ≡ true → has pins v ≡ false → length pins < 32 → LawfulPins n (pins ++ (v ∷ []))
lawful_more n v pins l i h f =
    let inside : (0 < v) × (v < n - 1) = grind (arith, nat_tests) in
    record {
      inner = λ p q. ⊎_elim (λ e. rw e inside) (l.inner p) (has_first pins v p q);
      distinct = distinct_more pins v l.distinct (has_not pins v h);
      few = simp length-append (omega arith);
    }

-- what is there without v was there before
stays : (v : ℕ) (ps : List ℕ) (p : ℕ) → Has (without v ps) p → Has ps p
stays v [] p h = h
stays v (x ∷ ps) p h = let more = stays v ps p in grind (arith, nat_tests)

-- v itself is gone
gone : (v : ℕ) (ps : List ℕ) → Distinct ps → ¬ Has (without v ps) v
gone v [] d h = h
gone v (x ∷ ps) d h = let more = gone v ps d.1 in grind (arith, nat_tests)

-- the others are there still
others : (v : ℕ) (ps : List ℕ) (p : ℕ) → Has ps p → ¬ (p ≡ v) → Has (without v ps) p
others v [] p h n = h
others v (x ∷ ps) p h n = let more : Has ps p → Has (without v ps) p = λ k. others v ps p k n in grind (arith, nat_tests)

pub takes_out : (v : ℕ) (pins : List ℕ) → Distinct pins → TakesOut v pins (without v pins)
takes_out v pins d = record {
  pinned = λ p. (
    λ h. (stays v pins p h, λ e. gone v pins d (subst (Has (without v pins)) e h)),
    λ k. others v pins p k.0 k.1,
  );
}

distinct_less : (v : ℕ) (ps : List ℕ) → Distinct ps → Distinct (without v ps)
distinct_less v [] d = d
distinct_less v (x ∷ ps) d = let less = distinct_less v ps d.1 in let more = stays v ps x in grind (arith, nat_tests)

no_more : (v : ℕ) (ps : List ℕ) → length (without v ps) ≤ length ps
no_more v [] = omega arith
no_more v (x ∷ ps) = let less = no_more v ps in grind (arith, nat_tests)

pub lawful_less : (n v : ℕ) (pins : List ℕ) → LawfulPins n pins → LawfulPins n (without v pins)
lawful_less n v pins l = record {
  inner = λ p h. l.inner p (stays v pins p h);
  distinct = distinct_less v pins l.distinct;
  few = omega (arith, no_more v pins, l.few);
}
