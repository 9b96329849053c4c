-- Pins and the links that skip them. Assumes nothing.
use Rattle.std.proofs.Common.{ℕ, ◌-◌, ◌<◌, ◌≤◌, not, ◌&&◌, T, ltb, ◌⊎◌, List, [], ◌∷◌, refl, inl, inr, ⊎_elim, arith, ltb→lt, lt→ltb, T_not}
use native.Mathlib.Decide.{dec_lt, dec_le}
use lib.Dec.{not_T}
use Rattle.std.specs.List.{AllByRecursion}
use Rattle.std.proofs.ByRecursion.{All-weaker}
use Rattle.families.specs.Chain.{Rises, Has, links_from, links}
use Rattle.families.specs.Pin.{Skips, clear, pinned}
use Rattle.families.specs.Theorems.{PinsOnChain, PinsOnFamily}
use Rattle.families.proofs.Bools.{both, left, right}
use Rattle.families.proofs.Rising.{rises_least}

-- the test `clear`, read as a statement
pub clear_says : (pins : List ℕ) (i j : ℕ) → T (clear pins i j) → (p : ℕ) → Has pins p → ¬ Skips (i, j) p
clear_says [] i j t p h s = absurd h
clear_says (x ∷ ps) i j t p (inl e) s =
    T_not (ltb i x && ltb x j) (left (not (ltb i x && ltb x j)) (clear ps i j) t)
    (both (ltb i x) (ltb x j) (lt→ltb i x (omega (arith, s.0))) (lt→ltb x j (omega (arith, s.1))))
clear_says (x ∷ ps) i j t p (inr h) s = clear_says ps i j (right (not (ltb i x && ltb x j)) (clear ps i j) t) p h s

pub says_clear : (pins : List ℕ) (i j : ℕ) → ((p : ℕ) → Has pins p → ¬ Skips (i, j) p) → T (clear pins i j)
says_clear [] i j f = tt
says_clear (x ∷ ps) i j f =
    both (not (ltb i x && ltb x j)) (clear ps i j)
    (not_T (ltb i x && ltb x j) (λ t. f x (inl refl) (ltb→lt i x (left (ltb i x) (ltb x j) t), ltb→lt x j (right (ltb i x) (ltb x j) t))))
    (says_clear ps i j (λ p h. f p (inr h)))

-- a rise that has every pin past its start skips none
skips_from : (pins : List ℕ) (a e : ℕ) (bs : List ℕ) → Rises a e bs → ((p : ℕ) → Has pins p → (p ≤ a) ⊎ Has bs p) →
    AllByRecursion (λ l. (p : ℕ) → Has pins p → ¬ Skips l p) (links_from a bs)
skips_from pins a e [] r f = tt
skips_from pins a e (b ∷ bs) r f = (λ p h s. none p s (f p h), skips_from pins b e bs r.1 (λ p h. onward p (f p h)))
  where
    onward : (p : ℕ) → (p ≤ a) ⊎ Has (b ∷ bs) p → (p ≤ b) ⊎ Has bs p
    onward p (inl x) = let l = r.0 in inl (omega arith)
    onward p (inr (inl x)) = inl (omega arith)
    onward p (inr (inr x)) = inr x

    none : (p : ℕ) → Skips (a, b) p → (p ≤ a) ⊎ Has (b ∷ bs) p → ⊥
    none p s (inl x) = let l = s.0 in omega arith
    none p s (inr x) = let l = s.1 in let k = rises_least b e p bs r.1 x in omega arith

-- a rise that skips no pin has each pin between its ends
has_from : (pins : List ℕ) (a e : ℕ) (bs : List ℕ) → Rises a e bs → AllByRecursion (λ l. (p : ℕ) → Has pins p → ¬ Skips l p) (links_from a bs) →
    (p : ℕ) → Has pins p → a ≤ p → p ≤ e → Has (a ∷ bs) p
has_from pins a e [] r q p h low high = inl (omega arith)
has_from pins a e (b ∷ bs) r q p h low high = go (dec_le p a) (dec_lt p b) (λ l. has_from pins b e bs r.1 q.1 p h l high)
  where
    go : Dec (p ≤ a) → Dec (p < b) → (b ≤ p → Has (b ∷ bs) p) → Has (a ∷ b ∷ bs) p
    go (yes x) y f = inl (omega arith)
    go (no x) (yes y) f = absurd (q.0 p h (omega arith, y))
    go (no x) (no y) f = inr (f (omega arith))

pub pins_on_chain : PinsOnChain
pins_on_chain n pins [] inner r = absurd r
pins_on_chain n pins (a ∷ bs) inner r = (
  λ f. skips_from pins a (n - 1) bs r.1 (λ p h. ⊎_elim (λ e. inl (omega arith)) inr (f p h)),
  λ q p h. let l = inner p h in has_from pins a (n - 1) bs r.1 q p h (omega arith) (omega arith),
)

all_zip : {X : Type 0} (P Q R : X → Type 0) → ((x : X) → P x → Q x → R x) → (xs : List X) → AllByRecursion P xs → AllByRecursion Q xs → AllByRecursion R xs
all_zip P Q R f [] p q = tt
all_zip P Q R f (x ∷ xs) p q = (f x p.0 q.0, all_zip P Q R f xs p.1 q.1)

pub pins_on_family : PinsOnFamily
pins_on_family allowed m n chain pins inner = (
  λ fam. (
    record {
      chains = fam.chains;
      nested = fam.nested;
      links_allowed = λ k a b. All-weaker (λ l. T (pinned pins allowed k l.0 l.1)) (λ l. T (allowed k l.0 l.1))
          (λ l t. left (allowed k l.0 l.1) (clear pins l.0 l.1) t) (links (chain k)) (fam.links_allowed k a b);
    },
    λ k a b. (pins_on_chain n pins (chain k) inner (fam.chains k a b)).1
        (All-weaker (λ l. T (pinned pins allowed k l.0 l.1)) (λ l. (p : ℕ) → Has pins p → ¬ Skips l p)
        (λ l t. clear_says pins l.0 l.1 (right (allowed k l.0 l.1) (clear pins l.0 l.1) t)) (links (chain k)) (fam.links_allowed k a b)),
  ),
  λ r. let fam = r.0 in
      record {
        chains = fam.chains;
        nested = fam.nested;
        links_allowed = λ k a b. all_zip (λ l. T (allowed k l.0 l.1)) (λ l. (p : ℕ) → Has pins p → ¬ Skips l p) (λ l. T (pinned pins allowed k l.0 l.1))
            (λ l t f. both (allowed k l.0 l.1) (clear pins l.0 l.1) t (says_clear pins l.0 l.1 f))
            (links (chain k)) (fam.links_allowed k a b) ((pins_on_chain n pins (chain k) inner (fam.chains k a b)).0 (r.1 k a b));
      },
)
