-- From level to level: the judgement and the total of the next level. Assumes nothing.
use Rattle.std.proofs.Common.{◌≡◌, ℕ, zero, suc, ◌+◌, ◌-◌, ◌<◌, Bool, ◌⊎◌, inl, inr, List, [], ◌∷◌, length, get_or, drop, Option, Some, None, Ok, Err, Result, unwrap_or, sym, refl, ap, ◌∙◌, ap₂, add-one, arith, length-drop}
use Rattle.std.proofs.lemmas.List.{drop-drop, get_or-drop}
use Rattle.families.specs.Chain.{links}
use Rattle.families.specs.Family.{cost, total}
use Rattle.families.specs.Price.{Kind}
use Rattle.lines.specs.Fault.{then}
use Rattle.lines.specs.Level.{level, level_of}
use Rattle.lines.specs.declared.fault.Fault.{Fault}
use Rattle.lines.specs.declared.level.Level.{Level}
use Rattle.lines.specs.declared.vertex.Vertex.{Vertex}
use Rattle.packs.specs.Bytes.{field}
use Rattle.prices.specs.Price.{LinkPrice, price_by}
use Rattle.marker.specs.declared.chain.Chain.{Chain}
use Rattle.marker.specs.Chain.{numbers_of}
use Rattle.marker.specs.Records.{chains_in, chain_of}
use Rattle.lines.specs.declared.fault.Cause.TheVariants.{Order, Nesting, Link}
use Rattle.marker.specs.Judge.{disorder, missing, forbidden, none_or, judged_chain, judged_from}

module _ (allowed : ℕ → ℕ → ℕ → Bool) (n : ℕ) where
  -- the judgement of the levels after the first k, where the chain before them was `finer`
  abbrev pub resumed : ℕ → Option Chain → List (List ℕ) → List Level → Result (Unit {0}) Fault
  resumed k None [] ls = Ok tt
  resumed k None (c ∷ cs) ls = judged_from allowed n (k + 1) c (c ∷ cs) ls
  resumed k (Some f) cs ls = judged_from allowed n (k + 1) (numbers_of f) cs ls

  resumed_more : (k : ℕ) (finer : Option Chain) (c : Chain) (l : Level) (cs : List (List ℕ)) (ls : List Level) →
      resumed k finer (numbers_of c ∷ cs) (l ∷ ls) ≡
      then (judged_chain (allowed l.tolerance) n (k + 1) (numbers_of (unwrap_or finer c)) (numbers_of c)) (λ _. resumed (k + 1) (Some c) cs ls)
  resumed_more k None c l cs ls = refl
  resumed_more k (Some f) c l cs ls = refl

  -- no chain is left, or no level
  pub resumed_done : (k : ℕ) (finer : Option Chain) (cs : List (List ℕ)) (ls : List Level) → (cs ≡ []) ⊎ (length ls ≡ 0) → Ok tt ≡ resumed k finer cs ls
  resumed_done k None [] ls h = refl
  resumed_done k None (c ∷ cs) [] h = refl
  resumed_done k (Some f) [] ls h = refl
  resumed_done k (Some f) (c ∷ cs) [] h = refl
  resumed_done k finer (c ∷ cs) (l ∷ ls) (inl e) = cc
  resumed_done k finer (c ∷ cs) (l ∷ ls) (inr e) = absurd (omega arith)

  -- the chain of the next level is c: it is refused, or it passes
  module _ (k : ℕ) (finer : Option Chain) (c : Chain) (l : Level) (all cs : List (List ℕ)) (levels ls : List Level) (chains : all ≡ numbers_of c ∷ cs) (rest : levels ≡ l ∷ ls) where
    abbrev below : List ℕ
    below = numbers_of (unwrap_or finer c)

    next : resumed k finer all levels ≡ then (judged_chain (allowed l.tolerance) n (k + 1) below (numbers_of c)) (λ _. resumed (k + 1) (Some c) cs ls)
    next = ap₂ (resumed k finer) chains rest ∙ resumed_more k finer c l cs ls

    module _ (order : Ok tt ≡ none_or (disorder n (numbers_of c)) Order (k + 1)) where
      pub nesting_refused : (f : Fault) → Err f ≡ none_or (missing below (numbers_of c)) Nesting (k + 1) → Err f ≡ resumed k finer all levels
      nesting_refused f e = sym (next ∙ rw (sym order, sym e) refl)

      module _ (nesting : Ok tt ≡ none_or (missing below (numbers_of c)) Nesting (k + 1)) where
        pub link_refused : (f : Fault) → Err f ≡ none_or (forbidden (allowed l.tolerance) (numbers_of c)) Link (k + 1) → Err f ≡ resumed k finer all levels
        link_refused f e = sym (next ∙ rw (sym order, sym nesting, sym e) refl)

        pub passed : (j : ℕ) → j ≡ k + 1 → Ok tt ≡ none_or (forbidden (allowed l.tolerance) (numbers_of c)) Link (k + 1) → resumed j (Some c) cs ls ≡ resumed k finer all levels
        passed j d e = ap (λ m. resumed m (Some c) cs ls) d ∙ sym (next ∙ rw (sym order, sym nesting, sym e) refl)

pub length_chains : (m : ℕ) (bs : List ℕ) → length (chains_in m bs) ≡ m
length_chains zero bs = refl
length_chains (suc m) bs = ap suc (length_chains m (drop (6 + field 4 0 bs) bs))

-- what the first of the others says of the list
pub record Next {A : Type 0} (l : List A) (k : ℕ) (x : A) (xs : List A) : Type 0 where
  pub inside : k < length l
  pub here : (d : A) → get_or l k d ≡ x
  pub others : drop (k + 1) l ≡ xs

pub next_of : {A : Type 0} (l : List A) (k : ℕ) (x : A) (xs : List A) → drop k l ≡ x ∷ xs → Next l k x xs
next_of l k x xs e =
    let n = length-drop k l in
    let m = ap length e in
    let z : k + 0 ≡ k = omega arith in
    record {
      inside = omega arith;
      here = λ d. sym (ap (λ i. get_or l i d) z) ∙ sym (get_or-drop k l 0 d) ∙ ap (λ ys. get_or ys 0 d) e;
      others = sym (drop-drop 1 k l) ∙ ap (drop 1) e;
    }

-- the price of a level's links at its weight
cost_at : {P : Type 0} (K : Kind P) (link : LinkPrice P) (vs : List Vertex) (ls : List Level) (k w : ℕ) → w ≡ (level_of ls k).weight → (lks : List (ℕ × ℕ)) →
    cost K (λ _ i j. link vs i j w) 0 lks ≡ cost K (price_by link vs ls) k lks
cost_at K link vs ls k w e [] = refl
cost_at K link vs ls k w e (l ∷ lks) = ap₂ K.join (ap (link vs l.0 l.1) e) (cost_at K link vs ls k w e lks)

-- the total of one level more
pub total_more : {P : Type 0} (K : Kind P) (link : LinkPrice P) (vs : List Vertex) (ls : List Level) (cs : List (List ℕ)) (i w : ℕ) (chain : List ℕ) → (get_or ls i (level 0 0)).weight ≡ w → get_or cs i [] ≡ chain →
    K.join (cost K (λ _ a b. link vs a b w) 0 (links chain)) (total K (price_by link vs ls) i (chain_of cs)) ≡ total K (price_by link vs ls) (i + 1) (chain_of cs)
total_more K link vs ls cs i w chain f e =
    let z : suc i - 1 ≡ i = omega arith in
    let v : w ≡ (level_of ls (suc i)).weight = sym f ∙ ap (λ k. (get_or ls k (level 0 0)).weight) (sym z) in
    let c : chain ≡ chain_of cs (suc i) = sym e ∙ ap (λ k. get_or cs k []) (sym z) in
    ap (λ x. K.join x (total K (price_by link vs ls) i (chain_of cs))) (cost_at K link vs ls (suc i) w v (links chain) ∙ ap (λ x. cost K (price_by link vs ls) (suc i) (links x)) c)
    ∙ ap (λ k. total K (price_by link vs ls) k (chain_of cs)) (sym (add-one i))
