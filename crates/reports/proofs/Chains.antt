-- Chains end to end: where each of them lies. Assumes nothing.
use Rattle.std.proofs.Common.{◌≡◌, ℕ, zero, suc, ◌+◌, ◌<◌, ◌≤◌, List, [], ◌∷◌, length, get_or, take, drop, sum, sym, refl, ap, ◌∙◌, arith}
use Rattle.std.proofs.lemmas.List.Sums.{sum_by-cons}
use Rattle.std.proofs.Math.Seq.{drop-drop}
use Rattle.writer.specs.Family.{chains_of}

sum-cons : (x : ℕ) (xs : List ℕ) → sum (x ∷ xs) ≡ x + sum xs
sum-cons x xs = sum_by-cons (λ y. y) x xs

-- the counts up to one of them are not more than all
pub within : (counts : List ℕ) (i : ℕ) → sum (take i counts) + get_or counts i 0 ≤ sum counts
within [] zero = omega arith
within [] (suc i) = omega arith
within (c ∷ cs) zero = omega (arith, sum-cons c cs)
within (c ∷ cs) (suc i) = omega (arith, sum-cons c cs, sum-cons c (take i cs), within cs i)

-- the chain at a place lies after those before it
pub chain_lies : (counts numbers : List ℕ) (i : ℕ) → i < length counts → take (get_or counts i 0) (drop (sum (take i counts)) numbers) ≡ get_or (chains_of counts numbers) i []
chain_lies [] numbers i h = absurd (omega arith)
chain_lies (c ∷ cs) numbers zero h = refl
chain_lies (c ∷ cs) numbers (suc i) h =
    ap (λ n. take (get_or cs i 0) (drop n numbers)) (sum-cons c (take i cs)) ∙ ap (take (get_or cs i 0)) (sym (drop-drop (sum (take i cs)) c numbers)) ∙
    chain_lies cs (drop c numbers) i (omega arith)
