-- What the marks of a family draw: the line and its chains. Assumes nothing.
use Rattle.std.proofs.Common.{◌≡◌, ℕ, zero, suc, ◌+◌, ◌-◌, ◌<◌, ◌≤◌, min, Bool, true, false, cond, not, leb, ltb, ◌==◌, ◌≢◌, ◌⊎◌, List, [], ◌∷◌, ◌++◌, length, get_or, sym, refl, ap, ap₂, ◌∙◌, inl, inr, arith, eq-eqb, ne_eqb, le-ltb}
use Rattle.std.specs.List.{concat, flat_map}
use Rattle.std.proofs.lemmas.Bool.{cases_eq}
use Rattle.std.proofs.lemmas.Bool.Decides.{nat_tests}
use Rattle.families.specs.Chain.{Rises, Chain, Has, has}
use Rattle.families.specs.Family.{Family}
use Rattle.families.specs.Stay.{stay, staying}
use Rattle.families.proofs.Rising.{has_means}
use Rattle.families.proofs.Stays.{say_all}
use Rattle.lines.specs.Vertex.{origin}
use Rattle.lines.specs.declared.vertex.Vertex.{Vertex}
use Rattle.marker.specs.Records.{chain_of}
use Rattle.pictures.specs.declared.frame.Frame.{Frame}
use Rattle.pictures.specs.declared.picture.Mark.{Mark}
use Rattle.pictures.specs.Drawn.{DrawsChains}
use Rattle.pictures.specs.Family.{count_on, stay_of, marks_from}
use Rattle.pictures.specs.Shapes.{place_text, points_text}

count_append : (c : ℕ) (xs ys : List ℕ) (v : ℕ) → count_on c (xs ++ ys) v ≡ count_on (count_on c xs v) ys v
count_append c [] ys v = refl
count_append c (x ∷ xs) ys v = count_append (cond (x == v) (c + 1) c) xs ys v

-- numbers that rise from v or above it have no v
count_above : (c i j : ℕ) (vs : List ℕ) (v : ℕ) → Rises i j vs → v ≤ i → count_on c vs v ≡ c
count_above c i j [] v r h = refl
count_above c i j (w ∷ ws) v r h =
    let l : i < w = r.0 in
    rw (ne_eqb w v (λ e. omega arith)) (count_above c w j ws v r.1 (omega arith))

count_more : (c w : ℕ) (ws : List ℕ) (v : ℕ) → (v ≡ w) ⊎ (v ≢ w) → (v ≤ w → count_on (c + 1) ws v ≡ c + 1) →
    count_on c ws v ≡ cond (has ws v) (c + 1) c → count_on c (w ∷ ws) v ≡ cond (has (w ∷ ws) v) (c + 1) c
count_more c w ws v (inl e) f g = rw (eq-eqb w v (sym e), eq-eqb v w e) (f (omega arith))
count_more c w ws v (inr n) f g = rw (ne_eqb w v (λ e. n (sym e)), ne_eqb v w n) g

count_rising : (c i j : ℕ) (vs : List ℕ) (v : ℕ) → Rises i j vs → count_on c vs v ≡ cond (has vs v) (c + 1) c
count_rising c i j [] v r = refl
count_rising c i j (w ∷ ws) v r = count_more c w ws v (cases_eq v w) (count_above (c + 1) w j ws v r.1) (count_rising c w j ws v r.1)

-- a chain has a vertex once or not at all
count_chain : (n c : ℕ) (xs : List ℕ) (v : ℕ) → Chain n xs → count_on c xs v ≡ cond (has xs v) (c + 1) c
count_chain n c [] v r = absurd r
count_chain n c (x ∷ xs) v r =
    count_more c x xs v (cases_eq v x) (count_above (c + 1) x (n - 1) xs v r.1) (count_rising c x (n - 1) xs v r.1)

module _ (allowed : ℕ → ℕ → ℕ → Bool) (m n : ℕ) (chain : ℕ → List ℕ) (fam : Family allowed m n chain) where
  -- a vertex of a chain is on all finer ones
  full : (j v : ℕ) → suc j ≤ m → Has (chain (suc j)) v → stay chain j v ≡ j
  full zero v h o = refl
  full (suc j) v h o = rw ((has_means (chain (suc j)) v).1 (fam.nested (suc j) (omega arith) h v o))

  count_level : (j v : ℕ) → suc j ≤ m → count_on (stay chain j v) (chain (suc j)) v ≡ stay chain (suc j) v
  count_level j v h =
      count_chain n (stay chain j v) (chain (suc j)) v (fam.chains (suc j) (omega arith) h) ∙
      go (has (chain (suc j)) v) (λ e. full j v h ((has_means (chain (suc j)) v).0 e))
    where
      go : (b : Bool) → (b ≡ true → stay chain j v ≡ j) → cond b (stay chain j v + 1) (stay chain j v) ≡ cond b (suc j) (stay chain j v)
      go true f = omega (arith, f refl)
      go false f = refl

  -- the chains from level j + 1 on
  count_levels : (cs : List (List ℕ)) (j v : ℕ) → ((i : ℕ) → i < length cs → get_or cs i [] ≡ chain (suc (j + i))) → j + length cs ≡ m →
      count_on (stay chain j v) (concat cs) v ≡ stay chain m v
  count_levels [] j v f e = let z : j ≡ m = omega arith in ap (λ h. stay chain h v) z
  count_levels (c ∷ cs) j v f e =
      let z : suc (j + 0) ≡ suc j = omega arith in
      let first : c ≡ chain (suc j) = f 0 (omega arith) ∙ ap chain z in
      let here : count_on (stay chain j v) c v ≡ stay chain (suc j) v = ap (λ xs. count_on (stay chain j v) xs v) first ∙ count_level j v (omega arith) in
      count_append (stay chain j v) c (concat cs) v ∙ ap (λ k. count_on k (concat cs) v) here ∙
      count_levels cs (suc j) v (λ i h. let y : suc (j + suc i) ≡ suc (suc j + i) = omega arith in f (suc i) (omega arith) ∙ ap chain y) (omega arith)

-- on how many chains a vertex lies is its stay
count_is : (allowed : ℕ → ℕ → ℕ → Bool) (m n : ℕ) (cs : List (List ℕ)) (v : ℕ) → length cs ≡ m → Family allowed m n (chain_of cs) →
    count_on 0 (concat cs) v ≡ stay (chain_of cs) m v
count_is allowed m n cs v e fam =
    count_levels allowed m n (chain_of cs) fam cs 0 v (λ i h. let z : i ≡ suc (0 + i) - 1 = omega arith in ap (λ k. get_or cs k []) z) (omega arith)

tested : (c t k s : ℕ) → k ≤ t → c ≡ s → ltb (min c t) k ≡ not (leb k s)
tested c t k s h e = grind (arith, nat_tests)

text_more : (b : Bool) (p rest : List ℕ) (g : ℕ → List ℕ) (v : ℕ) (vs : List ℕ) → p ≡ g v → rest ≡ flat_map g vs →
    cond (not b) [] p ++ rest ≡ flat_map g (cond b (v ∷ vs) vs)
text_more true p rest g v vs e h = ap₂ (λ x y. x ++ y) e h
text_more false p rest g v vs e h = h

module _ (f : Frame) (k top : ℕ) (numbers : List ℕ) (vs : List Vertex) (stays : ℕ → ℕ) (low : k ≤ top) (same : (v : ℕ) → count_on 0 numbers v ≡ stays v) where
  -- the places of the vertices that stay to level k, from v on
  points_from : (ws : List Vertex) (v : ℕ) → ((i : ℕ) → i < length ws → get_or ws i origin ≡ get_or vs (v + i) origin) →
      points_text f k (marks_from v ws numbers top) ≡ flat_map (λ u. place_text f (get_or vs u origin)) (staying stays k v (length ws))
  points_from [] v at = refl
  points_from (w ∷ ws) v at =
      let z : v + 0 ≡ v = omega arith in
      let here : w ≡ get_or vs v origin = at 0 (omega arith) ∙ ap (λ i. get_or vs i origin) z in
      let rest = points_text f k (marks_from (suc v) ws numbers top) in
      ap (λ b. cond b [] (place_text f w) ++ rest) (tested (count_on 0 numbers v) top k (stays v) low (same v)) ∙
      text_more (leb k (stays v)) (place_text f w) rest (λ u. place_text f (get_or vs u origin)) v (staying stays k (suc v) (length ws))
      (ap (place_text f) here)
      (points_from ws (suc v) (λ i h. let y : v + suc i ≡ suc v + i = omega arith in at (suc i) (omega arith) ∙ ap (λ j. get_or vs j origin) y))

-- level 0 has all vertices
line_from : (f : Frame) (numbers : List ℕ) (top v : ℕ) (ws : List Vertex) → points_text f 0 (marks_from v ws numbers top) ≡ flat_map (place_text f) ws
line_from f numbers top v [] = refl
line_from f numbers top v (w ∷ ws) =
    let rest = points_text f 0 (marks_from (suc v) ws numbers top) in
    ap (λ b. cond b [] (place_text f w) ++ rest) (le-ltb (stay_of numbers v top) 0 (omega arith)) ∙
    ap (λ t. place_text f w ++ t) (line_from f numbers top (suc v) ws)

-- marks with the stays of a family draw its chains
pub draws_chains : (vs : List Vertex) (numbers : List ℕ) (top : ℕ) (marks : List Mark) → marks ≡ marks_from 0 vs numbers top → DrawsChains vs numbers top marks
draws_chains vs numbers top marks e = record {
  line = λ f. ap (points_text f 0) e ∙ line_from f numbers top 0 vs;
  chains = λ f m cs some given k a b c.
      let here : (v : ℕ) → count_on 0 numbers v ≡ stay (chain_of cs) m v =
      λ v. ap (λ xs. count_on 0 xs v) given.joined ∙ count_is given.allowed m (length vs) cs v given.one_each given.family in
      ap (points_text f k) e ∙
      points_from f k top numbers vs (stay (chain_of cs) m) b here vs 0 (λ i h. let z : i ≡ 0 + i = omega arith in ap (λ j. get_or vs j origin) z) ∙
      ap (flat_map (λ v. place_text f (get_or vs v origin))) (say_all given.allowed m (length vs) (chain_of cs) some given.family k a c);
}
