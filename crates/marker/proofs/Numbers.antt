-- The numbers of a chain, one by one. Assumes nothing.
use Rattle.std.proofs.Common.{◌≡◌, ℕ, zero, suc, ◌+◌, ◌-◌, ◌/◌, ◌<◌, ◌≤◌, true, false, cond, ◌||◌, eqb, map, List, [], ◌∷◌, length, get_or, take, drop, Option, Some, sym, refl, ap, ◌∙◌, ap₂, subst, arith}
use Rattle.std.specs.List.{zip, list_any}
use Rattle.std.specs.Simd.{first_chunks}
use Rattle.std.specs.Slice.Iter.{windows_rest, windows_size}
use Rattle.std.specs.Iterator.Adapters.{windows_steps_back}
use Rattle.std.specs.declared.slice.Windows.{Windows}
use denote.Ref.{Bor}
use Rattle.std.proofs.lemmas.List.{at_drop_more, get_or-map, length-map, length-take-le, get_or-take, get_or-drop, take-take}
use Rattle.std.proofs.lemmas.Bool.{cond-true, cond-false}
use Rattle.families.specs.Chain.{has, links_from, links}
use Rattle.families.specs.Family.{cost}
use Rattle.families.specs.Price.{Kind}
use Rattle.families.proofs.Links.{length_links, get_or_links}
use Rattle.packs.specs.Bytes.{little}
use Rattle.packs.specs.Job.{items}
use Rattle.packs.proofs.Items.{length_items}
use Rattle.marker.specs.Records.{number_from, numbers}
use Rattle.marker.specs.Judge.{in_order, disorder_from}

pub length_numbers : (body : List ℕ) → length (numbers body) ≡ length body / 2
length_numbers body = length_items 2 number_from (length body / 2) body

-- the numbers that a body's pairs of bytes write
pub pairs_read : (k : ℕ) (body : List ℕ) → map little (first_chunks 2 k body) ≡ items 2 number_from k body
pairs_read zero body = refl
pairs_read (suc k) body = ap (λ xs. number_from body ∷ xs) (pairs_read k (drop 2 body))

-- a search that stops at v
pub any_has : (xs : List ℕ) (v : ℕ) → list_any (eqb v) xs ≡ has xs v
any_has [] v = refl
any_has (x ∷ xs) v = ap (λ b. eqb v x || b) (any_has xs v)

-- the numbers and those that follow them, as links
zip_from : (v : ℕ) (ws : List ℕ) → zip (v ∷ ws) ws ≡ links_from v ws
zip_from v [] = refl
zip_from v (w ∷ ws) = ap (λ ls. (v, w) ∷ ls) (zip_from w ws)

pub zip_links : (ps : List (List ℕ)) → zip (map little ps) (map little (drop 1 ps)) ≡ links (map little ps)
zip_links [] = refl
zip_links (p ∷ ps) = zip_from (little p) (map little ps)

-- the number at a position
number_at : (ps : List (List ℕ)) (i v : ℕ) → i < length ps → v ≡ little (get_or ps i []) → get_or (map little ps) i 0 ≡ v
number_at ps i v h e = get_or-map little ps i [] 0 h ∙ sym e

-- looking for disorder from position i on
module _ (n low : ℕ) (ps : List (List ℕ)) (i v : ℕ) (h : i < length ps) (e : v ≡ little (get_or ps i [])) where
  abbrev xs : List ℕ
  xs = map little ps

  ordered : disorder_from n (length xs) i low (drop i xs) ≡
      cond (in_order n (length ps) i low v) (disorder_from n (length xs) (i + 1) (v + 1) (drop (i + 1) xs)) (Some i)
  ordered =
      let l = length-map ps little in
      at_drop_more (disorder_from n (length xs) i low) xs i 0 (omega arith)
      ∙ ap₂ (λ x k. cond (in_order n k i low x) (disorder_from n (length xs) (i + 1) (x + 1) (drop (i + 1) xs)) (Some i)) (number_at ps i v h e) l

  pub disorder_here : in_order n (length ps) i low v ≡ false → disorder_from n (length xs) i low (drop i xs) ≡ Some i
  disorder_here b = ordered ∙ cond-false _ _ _ b

  pub disorder_further : in_order n (length ps) i low v ≡ true → disorder_from n (length xs) i low (drop i xs) ≡ disorder_from n (length xs) (i + 1) (v + 1) (drop (i + 1) xs)
  disorder_further b = ordered ∙ cond-true _ _ _ b

pub length_pair_links : (ps : List (List ℕ)) → length (links (map little ps)) ≡ length ps - 1
length_pair_links ps = omega (arith, length_links (map little ps), length-map ps little)

-- the prices of the links from position i on
pub cost_more : {P : Type 0} (K : Kind P) (price : ℕ → ℕ → ℕ → P) (k : ℕ) (ps : List (List ℕ)) (i a b : ℕ) → i + 1 < length ps → a ≡ little (get_or ps i []) → b ≡ little (get_or ps (i + 1) []) →
    cost K price k (drop i (links (map little ps))) ≡ K.join (price k a b) (cost K price k (drop (i + 1) (links (map little ps))))
cost_more K price k ps i a b h ea eb =
    let l = length-map ps little in
    let c : get_or (links (map little ps)) i (0, 0) ≡ (a, b) =
    get_or_links (map little ps) i (omega arith) ∙ ap₂ (λ x y. (x, y)) (number_at ps i a (omega arith) ea) (number_at ps (i + 1) b h eb) in
    at_drop_more (cost K price k) (links (map little ps)) i (0, 0) (omega (arith, length_pair_links ps))
    ∙ ap (λ p. K.join (price k p.0 p.1) (cost K price k (drop (i + 1) (links (map little ps))))) c

-- a window of two that comes off the back, where the front of ps was left
pub record OffBack {A : Type 0} (ps : List A) (s t : Windows A) (w : Bor (List A)) : Type 0 where
  pub two : windows_size t ≡ 2
  pub shorter : length (windows_rest t) + 1 ≡ length (windows_rest s)
  pub some : 1 ≤ length (windows_rest t)
  pub front_left : windows_rest t ≡ take (length (windows_rest t)) ps
  pub first : (d : A) → get_or w.now 0 d ≡ get_or ps (length (windows_rest t) - 1) d
  pub second : (d : A) → get_or w.now 1 d ≡ get_or ps (length (windows_rest t)) d

pub off_back : {A : Type 0} (ps : List A) (s t : Windows A) (r : Option (Bor (List A))) (w : Bor (List A)) → r ≡ Some w → windows_steps_back s r t →
    windows_size s ≡ 2 → length (windows_rest s) ≤ length ps → windows_rest s ≡ take (length (windows_rest s)) ps → OffBack ps s t w
off_back {A} ps s t r w is steps z fits e =
    let P : Option (Bor (List A)) → Type 0 = λ q. windows_steps_back s q t in
    let h = subst P is steps in
    let n = length (windows_rest s) in
    let some : 2 ≤ n = rw z at h.1.0 in
    let len : length (windows_rest t) ≡ n - 1 = ap length h.1.2 ∙ length-take-le (n - 1) (windows_rest s) (omega arith) in
    let at : (k : ℕ) (d : A) → k < n → get_or (windows_rest s) k d ≡ get_or ps k d = λ k d l. ap (λ xs. get_or xs k d) e ∙ get_or-take n ps k d l in
    let from : (k : ℕ) (d : A) → get_or w.now k d ≡ get_or (windows_rest s) (n - 2 + k) d =
    λ k d. ap (λ xs. get_or xs k d) h.1.1 ∙ ap (λ m. get_or (drop (n - m) (windows_rest s)) k d) z ∙ get_or-drop (n - 2) (windows_rest s) k d in
    record {
      two = h.0 ∙ z;
      shorter = omega arith;
      some = omega arith;
      front_left = h.1.2 ∙ ap (take (n - 1)) e ∙ take-take (n - 1) n ps (omega arith) ∙ ap (λ k. take k ps) (sym len);
      first = λ d. let a : n - 2 + 0 ≡ length (windows_rest t) - 1 = omega arith in from 0 d ∙ at (n - 2 + 0) d (omega arith) ∙ ap (λ k. get_or ps k d) a;
      second = λ d. let a : n - 2 + 1 ≡ length (windows_rest t) = omega arith in from 1 d ∙ at (n - 2 + 1) d (omega arith) ∙ ap (λ k. get_or ps k d) a;
    }
