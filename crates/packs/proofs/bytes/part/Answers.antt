use Rattle.std.proofs.Common.{◌≡◌, ℕ, zero, suc, ◌+◌, ◌-◌, ◌^◌, ◌<◌, ◌≤◌, min, ◌⊎◌, List, length, get_or, sym, ap, ◌∙◌, inl, inr, subst, arith, rules, tests}
use Rattle.std.specs.Array.{IsFromFnResultFrom}
use Rattle.std.specs.Fn.{Called}
use denote.Param.Members.{Mut}
use Rattle.std.proofs.lemmas.List.{get_or_past}
use Rattle.std.proofs.lemmas.Bool.{cases_lt}
use Rattle.packs.proofs.bytes.part.Goals as goal

-- what a closure that stays as it is put at each index
made : {F : Type 0} (call : Mut F (ℕ × Unit {0}) ℕ) (f : F) (of : ℕ → ℕ) → ((x y : ℕ) (q : F) → Called call f (x, tt) y q → (q ≡ f) × (y ≡ of x)) →
    (ys : List ℕ) (i n : ℕ) → IsFromFnResultFrom call f ys i n → (k j : ℕ) → k < n → i + k ≡ j → get_or ys j 0 ≡ of j
made call f of a ys i zero r k j h e = absurd (omega arith)
made call f of a ys i (suc n) r zero j h e =
    let z : i ≡ j = omega arith in
    let P : ℕ → Type 0 = λ x. get_or ys x 0 ≡ of x in
    subst P z (r.2.1 0 ∙ (a i r.1 r.0 r.3).1)
made call f of a ys i (suc n) r (suc k) j h e = made call f of a ys (i + 1) n (subst (λ p. IsFromFnResultFrom call p ys (i + 1) n) (a i r.1 r.0 r.3).0 r.4) k j (omega arith) (omega arith)

-- a place that stops at the largest number reads as the place itself
stopped : (p : ℕ) (bs : List ℕ) → length bs < 2 ^ 64 → get_or bs (min p (2 ^ 64 - 1)) 0 ≡ get_or bs p 0
stopped p bs h = go (cases_lt p (2 ^ 64 - 1))
  where
    go : (p < 2 ^ 64 - 1) ⊎ (2 ^ 64 - 1 ≤ p) → get_or bs (min p (2 ^ 64 - 1)) 0 ≡ get_or bs p 0
    go (inl l) = let d : min p (2 ^ 64 - 1) ≡ p = omega arith in ap (λ x. get_or bs x 0) d
    go (inr l) = get_or_past bs _ 0 (omega arith) ∙ sym (get_or_past bs p 0 (omega arith))

pub returns : goal.returns
returns g c = λ i h.
    let bs = c.args.bytes.now in
    let at = c.args.at in
    made _ _ (λ k. get_or bs (min (at + k) (2 ^ 64 - 1)) 0) (λ x y q k. search (rules, tests)) c.from_fn.result 0 g.row.N c.from_fn.ensures.items.each i i h (omega arith) ∙ stopped (at + i) bs (omega arith)
