-- The stays of a family say all of it, and those of the first least family are least. Assumes nothing.
use Rattle.std.proofs.Common.{◌≡◌, ℕ, zero, suc, ◌+◌, ◌-◌, ◌<◌, ◌≤◌, Bool, true, false, cond, leb, List, [], ◌∷◌, sym, refl, ap, ◌∙◌, subst, ap₂, inl, inr, arith}
use native.Mathlib.Decide.{dec_lt, dec_le}
use Rattle.std.proofs.lemmas.Bool.{false≢true, le-leb, lt-leb}
use Rattle.families.specs.Price.{Kind, Rules, Same}
use Rattle.families.specs.Chain.{Rises, Chain, Has, has, links}
use Rattle.families.specs.Family.{Family, cost, total}
use Rattle.families.specs.Least.{L, first_least}
use Rattle.families.specs.Theorems.{NextAllowed, StaysSayAll}
use Rattle.families.specs.Stay.{stay, staying, read_off}
use Rattle.families.proofs.Rising.{rises_least, rises_up, has_means}
use Rattle.families.proofs.NothingSmaller.{through}
use Rattle.families.proofs.FirstLeast.{stands}

-- the vertices, in their order, that are on a chain
staying_is : (stays : ℕ → ℕ) (k more v a e : ℕ) (bs : List ℕ) → Rises a e bs → v ≤ a → suc e ≡ v + more →
    ((w : ℕ) → v ≤ w → w ≤ e → k ≤ stays w → Has (a ∷ bs) w) → ((w : ℕ) → Has (a ∷ bs) w → k ≤ stays w) → staying stays k v more ≡ a ∷ bs
staying_is stays k zero v a e bs r h s f g = absurd (omega (arith, rises_up a e bs r))
staying_is stays k (suc more) v a e bs r h s f g =
    go (λ a bs r h f g. staying_is stays k more (suc v) a e bs r h (omega arith) f g) (dec_lt v a)
  where
    Rest : Type 0
    Rest = (a : ℕ) (bs : List ℕ) → Rises a e bs → suc v ≤ a →
        ((w : ℕ) → suc v ≤ w → w ≤ e → k ≤ stays w → Has (a ∷ bs) w) → ((w : ℕ) → Has (a ∷ bs) w → k ≤ stays w) →
        staying stays k (suc v) more ≡ a ∷ bs

    out : v < a → Dec (k ≤ stays v) → stays v < k
    out l (yes x) = absurd (omega (arith, rises_least a e v bs r (f v (omega arith) (omega (arith, rises_up a e bs r)) x)))
    out l (no x) = omega arith

    other : (x y : ℕ) (xs : List ℕ) → y < x → Has (y ∷ xs) x → Has xs x
    other x y xs l (inl z) = absurd (omega arith)
    other x y xs l (inr z) = z

    tail : v ≡ a → Rest → (bs : List ℕ) → Rises a e bs → ((w : ℕ) → v ≤ w → w ≤ e → k ≤ stays w → Has (a ∷ bs) w) →
        ((w : ℕ) → Has (a ∷ bs) w → k ≤ stays w) →
        staying stays k (suc v) more ≡ bs
    tail q ih [] r f g = let z : more ≡ 0 = omega arith in ap (staying stays k (suc v)) z
    tail q ih (b ∷ bs) r f g =
        ih b bs r.1 (omega (arith, r.0)) (λ w x y z. other w a (b ∷ bs) (omega arith) (f w (omega arith) y z)) (λ w o. g w (inr o))

    go : Rest → Dec (v < a) → cond (leb k (stays v)) (v ∷ staying stays k (suc v) more) (staying stays k (suc v) more) ≡ a ∷ bs
    go ih (yes l) = rw (lt-leb k (stays v) (out l (dec_le k (stays v)))) (ih a bs r l (λ w x y z. f w (omega arith) y z) g)
    go ih (no l) =
        let q : v ≡ a = omega arith in
        rw (le-leb k (stays v) (g v (inl q))) (ap₂ {C = List ℕ} (λ x xs. x ∷ xs) q (tail q ih bs r f g))

module _ (allowed : ℕ → ℕ → ℕ → Bool) (m n : ℕ) (chain : ℕ → List ℕ) (fam : Family allowed m n chain) where
  -- a vertex that stays to level k is on its chain
  stay_on : (h k v : ℕ) → h ≤ m → 1 ≤ k → k ≤ stay chain h v → Has (chain k) v
  stay_on zero k v q a b = absurd (omega arith)
  stay_on (suc h) k v q a b = go (stay_on h k v (omega arith) a) (has (chain (suc h)) v) (has_means (chain (suc h)) v).0 b
    where
      go : (k ≤ stay chain h v → Has (chain k) v) → (x : Bool) → (x ≡ true → Has (chain (suc h)) v) → k ≤ cond x (suc h) (stay chain h v) →
          Has (chain k) v
      go ih true f b = through allowed m n chain fam (suc h) v q (f refl) k a b
      go ih false f b = ih b

  on_stay : (h k v : ℕ) → 1 ≤ k → k ≤ h → Has (chain k) v → k ≤ stay chain h v
  on_stay zero k v a b o = absurd (omega arith)
  on_stay (suc h) k v a b o = go (dec_le k h) (λ c. on_stay h k v a c o) (has (chain (suc h)) v) refl
    where
      go : Dec (k ≤ h) → (k ≤ h → k ≤ stay chain h v) → (x : Bool) → has (chain (suc h)) v ≡ x → k ≤ cond x (suc h) (stay chain h v)
      go d ih true e = b
      go (yes c) ih false e = ih c
      go (no c) ih false e =
          let q : k ≡ suc h = omega arith in
          absurd (false≢true (sym e ∙ (has_means (chain (suc h)) v).1 (subst (λ z. Has (chain z) v) q o)))

read_chain : (n k : ℕ) (stays : ℕ → ℕ) (c : List ℕ) → 1 ≤ n → Chain n c → ((w : ℕ) → w < n → k ≤ stays w → Has c w) →
    ((w : ℕ) → Has c w → k ≤ stays w) → read_off stays n k ≡ c
read_chain n k stays [] h r f g = absurd r
read_chain n k stays (a ∷ bs) h r f g =
    staying_is stays k n 0 a (n - 1) bs r.1 (omega arith) (omega arith) (λ w x y z. f w (omega arith) z) g

pub say_all : StaysSayAll
say_all allowed m n chain h fam k a b =
    read_chain n k (stay chain m) (chain k) h (fam.chains k a b) (λ w l s. stay_on allowed m n chain fam m k w (omega arith) a s)
    (λ w o. on_stay allowed m n chain fam m k w a b o)

module _ (n : ℕ) (stays stays' : ℕ → ℕ) (same : (v : ℕ) → v < n → stays v ≡ stays' v) where
  pub staying_same : (k more v : ℕ) → v + more ≤ n → staying stays k v more ≡ staying stays' k v more
  staying_same k zero v h = refl
  staying_same k (suc more) v h = rw (same v (omega arith), staying_same k more (suc v) (omega arith))

module _ (allowed : ℕ → ℕ → ℕ → Bool) (m n : ℕ) (c d : ℕ → List ℕ) (same : (k : ℕ) → 1 ≤ k → k ≤ m → d k ≡ c k) where
  pub family_same : Family allowed m n c → Family allowed m n d
  family_same fam = record {
    chains = λ k a b. rw (same k a b) (fam.chains k a b);
    nested = λ k a b v. rw (same k a (omega arith), same (suc k) (omega arith) b) (fam.nested k a b v);
    links_allowed = λ k a b. rw (same k a b) (fam.links_allowed k a b);
  }

  pub total_same : {P : Type 0} (K : Kind P) (price : ℕ → ℕ → ℕ → P) (h : ℕ) → h ≤ m → total K price h d ≡ total K price h c
  total_same K price zero q = refl
  total_same K price (suc h) q =
      ap₂ K.join (ap (λ x. cost K price (suc h) (links x)) (same (suc h) (omega arith) q)) (total_same K price h (omega arith))

module _ {P : Type 0} {K : Kind P} (rules : Rules K) (price : ℕ → ℕ → ℕ → P) (allowed : ℕ → ℕ → ℕ → Bool) (m n : ℕ)
    (some : 1 ≤ n) (near : NextAllowed allowed m n)
    (stays : ℕ → ℕ) (are : (v : ℕ) → v < n → stays v ≡ stay (first_least K price allowed m n) m v) where
  pub stays_least : Family allowed m n (read_off stays n) × Same K (total K price m (read_off stays n)) (L K price allowed m 0 (n - 1))
  stays_least =
      let first = first_least K price allowed m n in
      let r = stands rules price allowed m n near in
      let same = λ (k : ℕ) (a : 1 ≤ k) (b : k ≤ m). staying_same n stays (stay first m) are k n 0 (omega arith) ∙
      say_all allowed m n first some r.0 k a b in (
        family_same allowed m n first (read_off stays n) same r.0,
        ap K.form (total_same allowed m n first (read_off stays n) same K price m (omega arith)) ∙ r.1,
      )
