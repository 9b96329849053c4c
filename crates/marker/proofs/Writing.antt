-- One write after another. Assumes nothing.
use Rattle.std.proofs.Common.{◌≡◌, ℕ, ◌+◌, ◌<◌, ◌≤◌, List, [], ◌∷◌, ◌++◌, length, get_or, set, take, drop, sym, ap, ap₂, ◌∙◌, subst, add-one, arith, length-append, length-take-le}
use Rattle.std.specs.List.{flat_map}
use Rattle.std.proofs.lemmas.List.{append_assoc, take-append-drop, take_at, drop_at, drop-drop, take_more, flat_map_more, set_split}
use Rattle.marker.specs.Wrote.{Wrote}

-- nothing is written
pub wrote_none : (at : ℕ) (a : List ℕ) → Wrote at a a [] at
wrote_none at a = record { ends = omega arith; whole = sym (take-append-drop at a) }

pub wrote_both : (at m e : ℕ) (a b c xs ys : List ℕ) → m ≤ length a → Wrote at a b xs m → Wrote m b c ys e → Wrote at a c (xs ++ ys) e
wrote_both at m e a b c xs ys room first second =
    let one = first.ends in
    let two = second.ends in
    let front : List ℕ = take at a ++ xs in
    let long : length front ≡ m = length-append (take at a) xs ∙ ap (λ z. z + length xs) (length-take-le at a (omega arith)) ∙ sym one in
    let split : b ≡ front ++ drop m a = first.whole ∙ sym (append_assoc (take at a) xs (drop m a)) in
    let before : take m b ≡ front = ap (take m) split ∙ take_at front (drop m a) m long in
    let behind : drop m b ≡ drop m a = ap (drop m) split ∙ drop_at front (drop m a) m long in
    let rest : drop e b ≡ drop e a =
    ap (λ z. drop z b) two ∙ sym (drop-drop (length ys) m b) ∙ ap (drop (length ys)) behind ∙ drop-drop (length ys) m a ∙ ap (λ z. drop z a) (sym two) in
    record {
      ends = two ∙ ap (λ z. z + length ys) one ∙ (omega (arith, length-append xs ys));
      whole = second.whole ∙ ap₂ (λ x y. x ++ (ys ++ y)) before rest ∙ append_assoc (take at a) xs (ys ++ drop e a) ∙ ap (λ z. take at a ++ z) (sym (append_assoc xs ys (drop e a)));
    }

-- one item more
pub one_more : {X : Type 0} (f : X → List ℕ) (xs : List X) (i : ℕ) (d : X) (at m e : ℕ) (a b c : List ℕ) → i < length xs → m ≤ length a → Wrote at a b (flat_map f (take i xs)) m →
    Wrote m b c (f (get_or xs i d)) e → Wrote at a c (flat_map f (take (i + 1) xs)) e
one_more f xs i d at m e a b c h room first second =
    subst (λ ys. Wrote at a c ys e) (flat_map_more f [] (take i xs) (get_or xs i d) ∙ ap (flat_map f) (sym (take_more xs i d h)))
    (wrote_both at m e a b c (flat_map f (take i xs)) (f (get_or xs i d)) room first second)

-- one number more
pub wrote_more : (at m e v : ℕ) (a b xs ys : List ℕ) → m < length a → m < length b → e ≡ m + 1 → xs ++ v ∷ [] ≡ ys → Wrote at a b xs m → Wrote at a (set b m v) ys e
wrote_more at m e v a b xs ys room inside next more first =
    let split : set b m v ≡ take m b ++ (v ∷ drop e b) = set_split b m v inside ∙ ap (λ k. take m b ++ (v ∷ drop k b)) (sym (next ∙ add-one m)) in
    subst (λ zs. Wrote at a (set b m v) zs e) more (wrote_both at m e a b (set b m v) xs (v ∷ []) (omega arith) first (record { ends = next; whole = split }))
