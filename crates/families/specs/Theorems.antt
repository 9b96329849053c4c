-- What is proved of chains, families and pins, of the least total, and of the first least family and its stays. Assumes nothing.
use Rattle.std.specs.Prelude.{◌≡◌, ℕ, suc, ◌-◌, ◌<◌, ◌≤◌, Bool, T, ◌↔◌, List, [], ◌∷◌, ◌++◌}
use Rattle.families.specs.Price.{Kind, Rules, NotDearer, Same}
use Rattle.families.specs.Chain.{Chain, Has}
use Rattle.families.specs.Family.{Family, total}
use Rattle.families.specs.Pin.{pinned, Inner, HasPins, SkipsNone}
use Rattle.families.specs.Least.{L, via, next, walk, first_least}
use Rattle.families.specs.Stay.{stay, read_off}

-- A chain has every pin exactly when none of its links skips one.
abbrev pub PinsOnChain : Type 0
PinsOnChain =
    (n : ℕ) (pins chain : List ℕ) → Inner n pins → Chain n chain → HasPins pins chain ↔ SkipsNone pins chain

-- The families under pins are the families each of whose chains has every pin.
abbrev pub PinsOnFamily : Type 0
PinsOnFamily =
    (allowed : ℕ → ℕ → ℕ → Bool) (m n : ℕ) (chain : ℕ → List ℕ) (pins : List ℕ) → Inner n pins →
    Family (pinned pins allowed) m n chain ↔ (Family allowed m n chain × ((k : ℕ) → 1 ≤ k → k ≤ m → HasPins pins (chain k)))

-- Every level allows the link from each vertex to the one after it.
abbrev pub NextAllowed : (ℕ → ℕ → ℕ → Bool) → ℕ → ℕ → Type 0
NextAllowed allowed m n = (k i : ℕ) → 1 ≤ k → k ≤ m → suc i < n → T (allowed k i (suc i))

-- The least total is neutral without levels and from a vertex to itself, and is else the cheapest over an allowed first link.
abbrev pub Recurrence : Type 0 → Type 0
Recurrence P =
    (K : Kind P) → Rules K → (price : ℕ → ℕ → ℕ → P) (allowed : ℕ → ℕ → ℕ → Bool) →
    ((i j : ℕ) → L K price allowed 0 i j ≡ K.neutral) ×
    ((k i : ℕ) → L K price allowed k i i ≡ K.neutral) ×
    ((k i j v : ℕ) → i < v → v ≤ j → T (allowed (suc k) i v) →
    NotDearer K (L K price allowed (suc k) i j)
    (K.join (K.join (price (suc k) i v) (L K price allowed k i v)) (L K price allowed (suc k) v j))) ×
    ((k i j : ℕ) → i < j → T (allowed (suc k) i (suc i)) →
    (v : ℕ) × (i < v) × (v ≤ j) × T (allowed (suc k) i v) ×
    (L K price allowed (suc k) i j ≡
    K.join (K.join (price (suc k) i v) (L K price allowed k i v)) (L K price allowed (suc k) v j)))

-- No family costs less than the least total.
abbrev pub NothingSmaller : Type 0 → Type 0
NothingSmaller P =
    (K : Kind P) → Rules K → (price : ℕ → ℕ → ℕ → P) (allowed : ℕ → ℕ → ℕ → Bool) (m n : ℕ) (chain : ℕ → List ℕ) →
    Family allowed m n chain → NotDearer K (L K price allowed m 0 (n - 1)) (total K price m chain)

-- The first least family is a family, and it costs the least total.
abbrev pub FirstLeastStands : Type 0 → Type 0
FirstLeastStands P =
    (K : Kind P) → Rules K → (price : ℕ → ℕ → ℕ → P) (allowed : ℕ → ℕ → ℕ → Bool) (m n : ℕ) → NextAllowed allowed m n →
    Family allowed m n (first_least K price allowed m n) ×
    Same K (total K price m (first_least K price allowed m n)) (L K price allowed m 0 (n - 1))

-- The next vertex is the smallest that an allowed link reaches and over which the least total is paid.
abbrev pub NextIsFirst : Type 0 → Type 0
NextIsFirst P =
    (K : Kind P) → Rules K → (price : ℕ → ℕ → ℕ → P) (allowed : ℕ → ℕ → ℕ → Bool) (m n : ℕ) → NextAllowed allowed m n →
    (k i j : ℕ) → k < m → i < j → j < n →
    let v = next K price allowed k i j in
    (i < v) × (v ≤ j) × T (allowed (suc k) i v) × Same K (via K price allowed k i j v) (L K price allowed (suc k) i j) ×
    ((w : ℕ) → i < w → w ≤ j → T (allowed (suc k) i w) →
    Same K (via K price allowed k i j w) (L K price allowed (suc k) i j) → v ≤ w)

-- Where less is allowed, the least total is no cheaper.
abbrev pub TighterIsNoCheaper : Type 0 → Type 0
TighterIsNoCheaper P =
    (K : Kind P) → Rules K → (price : ℕ → ℕ → ℕ → P) (loose tight : ℕ → ℕ → ℕ → Bool) (m n : ℕ) → NextAllowed tight m n →
    ((k i j : ℕ) → 1 ≤ k → k ≤ m → i < j → j < n → T (tight k i j) → T (loose k i j)) →
    NotDearer K (L K price loose m 0 (n - 1)) (L K price tight m 0 (n - 1))

-- With more pins the least total is no cheaper.
abbrev pub MorePinsNoCheaper : Type 0 → Type 0
MorePinsNoCheaper P =
    (K : Kind P) → Rules K → (price : ℕ → ℕ → ℕ → P) (allowed : ℕ → ℕ → ℕ → Bool) (m n : ℕ) → NextAllowed allowed m n →
    (fewer more : List ℕ) → ((p : ℕ) → Has fewer p → Has more p) →
    NotDearer K (L K price (pinned fewer allowed) m 0 (n - 1)) (L K price (pinned more allowed) m 0 (n - 1))

-- With lower tolerances the least total is no cheaper, where `yes t i j` says whether the tolerance t allows the link i → j.
abbrev pub LowerNoCheaper : Type 0 → Type 0
LowerNoCheaper P =
    (K : Kind P) → Rules K → (price : ℕ → ℕ → ℕ → P) (yes : ℕ → ℕ → ℕ → Bool) (m n largest : ℕ) →
    ((t i : ℕ) → t ≤ largest → suc i < n → T (yes t i (suc i))) →
    ((t u i j : ℕ) → t ≤ u → u ≤ largest → T (yes t i j) → T (yes u i j)) →
    (low high : ℕ → ℕ) → ((k : ℕ) → 1 ≤ k → k ≤ m → (low k ≤ high k) × (high k ≤ largest)) →
    NotDearer K (L K price (λ k i j. yes (high k) i j) m 0 (n - 1)) (L K price (λ k i j. yes (low k) i j) m 0 (n - 1))

-- The first least family goes to the next vertex and on from there, and each finer level fills that link in.
abbrev pub FirstLeastReads : Type 0 → Type 0
FirstLeastReads P =
    (K : Kind P) (price : ℕ → ℕ → ℕ → P) (allowed : ℕ → ℕ → ℕ → Bool) →
    ((k l i : ℕ) → walk K price allowed k l i i ≡ []) ×
    ((k i j : ℕ) → i < j →
    walk K price allowed (suc k) (suc k) i j ≡
    next K price allowed k i j ∷ walk K price allowed (suc k) (suc k) (next K price allowed k i j) j) ×
    ((k l i j : ℕ) → l ≤ k → i < j →
    walk K price allowed (suc k) l i j ≡
    walk K price allowed k l i (next K price allowed k i j) ++ walk K price allowed (suc k) l (next K price allowed k i j) j)

-- The stays of a family say all of it: each of its chains is read off them.
abbrev pub StaysSayAll : Type 0
StaysSayAll =
    (allowed : ℕ → ℕ → ℕ → Bool) (m n : ℕ) (chain : ℕ → List ℕ) → 1 ≤ n → Family allowed m n chain →
    (k : ℕ) → 1 ≤ k → k ≤ m → read_off (stay chain m) n k ≡ chain k

-- What is read off the stays of the first least family is a family, and it costs the least total.
abbrev pub StaysAreLeast : Type 0 → Type 0
StaysAreLeast P =
    (K : Kind P) → Rules K → (price : ℕ → ℕ → ℕ → P) (allowed : ℕ → ℕ → ℕ → Bool) (m n : ℕ) →
    1 ≤ n → NextAllowed allowed m n →
    (stays : ℕ → ℕ) → ((v : ℕ) → v < n → stays v ≡ stay (first_least K price allowed m n) m v) →
    Family allowed m n (read_off stays n) ×
    Same K (total K price m (read_off stays n)) (L K price allowed m 0 (n - 1))
