-- Chains that lie end to end, one after another. Assumes nothing.
use Rattle.std.proofs.Common.{ap₂, map, ◌≤◌, All, ◌≡◌, ℕ, suc, ◌+◌, ◌<◌, List, [], ◌∷◌, length, get_or, take, drop, sum, sym, refl, ap, ◌∙◌, arith, length-append, length-take-le, length-drop, ◌*◌}
use Rattle.std.proofs.lemmas.List.{drop_more, take_at, drop_at}
use Rattle.std.proofs.lemmas.List.Elements.{All-take, All-drop}
use Rattle.std.proofs.lemmas.List.Sums.{sum_by-drop_more, sum_by-cons}
use Rattle.std.specs.List.{flat_map, concat, AllByRecursion}
use Rattle.packs.specs.Bytes.{le}
use Rattle.packs.proofs.ItemTrips.{length_joined}
use Rattle.marker.specs.Records.{chain_record}
use Rattle.marker.specs.Reader.{ChainFits}
use Rattle.writer.specs.Family.{chains_of}

pub chains_length : (counts numbers : List ℕ) → length (chains_of counts numbers) ≡ length counts
chains_length [] numbers = refl
chains_length (c ∷ cs) numbers = ap suc (chains_length cs (drop c numbers))

module _ (counts : List ℕ) (all : List (List ℕ)) (i : ℕ) (h : i < length counts) (g : i < length all) (numbers : List ℕ) where
  abbrev c : ℕ
  c = get_or counts i 0

  split : chains_of (drop i counts) numbers ≡ drop i all → take c numbers ∷ chains_of (drop (i + 1) counts) (drop c numbers) ≡ get_or all i [] ∷ drop (i + 1) all
  split e = ap (λ z. chains_of z numbers) (sym (drop_more counts i 0 h)) ∙ e ∙ drop_more all i [] g

  -- the chain at i, and those after it
  pub chain_here : chains_of (drop i counts) numbers ≡ drop i all → take c numbers ≡ get_or all i []
  chain_here e = ap (λ (z : List (List ℕ)). get_or z 0 []) (split e)

  pub chains_after : chains_of (drop i counts) numbers ≡ drop i all → chains_of (drop (i + 1) counts) (drop c numbers) ≡ drop (i + 1) all
  chains_after e = ap (λ (z : List (List ℕ)). drop 1 z) (split e)

  -- how many vertices they have
  pub sum_more : sum (drop i counts) ≡ c + sum (drop (i + 1) counts)
  sum_more = sum_by-drop_more (λ x. x) counts i 0 h

  pub sum_after : sum (drop i counts) ≡ length numbers → sum (drop (i + 1) counts) ≡ length (drop c numbers)
  sum_after e = omega (arith, e, sum_more, length-drop c numbers)

-- how many bytes the records of chains take
chain_length : (chain : List ℕ) → length (chain_record chain) ≡ 6 + 2 * length chain
chain_length chain = omega (arith, length_joined 2 (le 2) (λ _. refl) chain)

pub joined_length : (counts numbers : List ℕ) → sum counts ≡ length numbers → length (flat_map chain_record (chains_of counts numbers)) ≡ 6 * length counts + 2 * length numbers
joined_length [] numbers e = omega (arith, e)
joined_length (c ∷ cs) numbers e =
    let more : sum (c ∷ cs) ≡ c + sum cs = sum_by-cons (λ x. x) c cs in
    let rest = joined_length cs (drop c numbers) (omega (arith, e, more, length-drop c numbers)) in
    let front = length-take-le c numbers (omega (arith, e, more)) in
    length-append (chain_record (take c numbers)) (flat_map chain_record (chains_of cs (drop c numbers))) ∙
    omega (arith, chain_length (take c numbers), rest, front, length-drop c numbers, e, more)

-- chains that are joined lie end to end
pub chains_back : (chains : List (List ℕ)) → chains_of (map length chains) (concat chains) ≡ chains
chains_back [] = refl
chains_back (c ∷ cs) =
    ap₂ (λ x xs. x ∷ chains_of (map length cs) xs) (take_at c (concat cs) (length c) refl) (drop_at c (concat cs) (length c) refl) ∙ ap (λ xs. c ∷ xs) (chains_back cs)

pub sum_lengths : (chains : List (List ℕ)) → sum (map length chains) ≡ length (concat chains)
sum_lengths [] = refl
sum_lengths (c ∷ cs) = sum_by-cons (λ x. x) (length c) (map length cs) ∙ ap (λ n. length c + n) (sum_lengths cs) ∙ sym (length-append c (concat cs))

-- chains whose counts fit are held by records
pub chains_fit : (n : ℕ) (counts numbers : List ℕ) → sum counts ≡ length numbers → ((i : ℕ) → i < length counts → (2 ≤ get_or counts i 0) × (get_or counts i 0 ≤ n)) →
    All (λ v. v < 65536) numbers → AllByRecursion (ChainFits n) (chains_of counts numbers)
chains_fit n [] numbers e each small = tt
chains_fit n (c ∷ cs) numbers e each small =
    let more : sum (c ∷ cs) ≡ c + sum cs = sum_by-cons (λ x. x) c cs in
    let front = length-take-le c numbers (omega (arith, e, more)) in
    let first = each 0 (omega arith) in (
      (omega arith, omega arith, All-take (λ v. v < 65536) c numbers small),
      chains_fit n cs (drop c numbers) (omega (arith, e, more, length-drop c numbers)) (λ i h. each (suc i) (omega arith)) (All-drop (λ v. v < 65536) c numbers small),
    )
