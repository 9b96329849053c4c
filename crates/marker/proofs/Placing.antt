-- Chains that are put end to end into a place, one after another. Assumes nothing.
use Rattle.std.proofs.Common.{◌≡◌, ℕ, ◌+◌, ◌*◌, ◌≤◌, map, All, List, [], ◌∷◌, ◌++◌, length, take, drop, sym, ap, ◌∙◌, arith, length-append, length-take-le}
use Rattle.std.specs.List.{concat}
use Rattle.std.proofs.lemmas.List.{append-nil, take_more, map_more}
use Rattle.std.proofs.lemmas.List.Folds.{concat-append}
use Rattle.std.proofs.lemmas.List.Elements.{All-head, All-tail, All-take}
use Rattle.marker.proofs.Stepping.{Next, next_of}

short : (cs : List (List ℕ)) → All (λ c. length c ≤ 256) cs → length (concat cs) ≤ 256 * length cs
short [] all = omega arith
short (c ∷ cs) all =
    let few : length c ≤ 256 = All-head (λ x. length x ≤ 256) c cs all in
    let rest = short cs (All-tail (λ x. length x ≤ 256) c cs all) in
    omega (arith, few, rest, length-append c (concat cs))

-- the chain after the first k is c
module _ (cs : List (List ℕ)) (k : ℕ) (c : List ℕ) (others : List (List ℕ)) (here : drop k cs ≡ c ∷ others) where
  abbrev next : Next cs k c others
  next = next_of cs k c others here

  more : take (k + 1) cs ≡ take k cs ++ c ∷ []
  more = take_more cs k [] next.inside ∙ ap (λ x. take k cs ++ x ∷ []) (next.here [])

  pub joined_more : concat (take k cs) ++ c ≡ concat (take (k + 1) cs)
  joined_more = sym (ap concat more ∙ concat-append (take k cs) (c ∷ []) ∙ ap (λ x. concat (take k cs) ++ x) (append-nil c))

  pub counted_more : map length (take k cs) ++ length c ∷ [] ≡ map length (take (k + 1) cs)
  counted_more = sym (map_more (length {A = ℕ}) cs k [] next.inside ∙ ap (λ x. map length (take k cs) ++ length x ∷ []) (next.here []))

  -- there is room for it
  pub room_for : length cs ≤ 8 → All (λ x. length x ≤ 256) cs → length (concat (take k cs)) + length c ≤ 2048
  room_for few all =
      let inside = next.inside in
      let long = short (take (k + 1) cs) (All-take (λ x. length x ≤ 256) (k + 1) cs all) in
      let len = length-take-le (k + 1) cs (omega arith) in
      omega (arith, long, len, length-append (concat (take k cs)) c, ap length joined_more)
