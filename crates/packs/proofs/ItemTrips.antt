-- Items of one width written and read back. Assumes nothing.
use Rattle.std.proofs.Common.{◌≡◌, ℕ, zero, suc, ◌+◌, ◌*◌, ◌<◌, ◌≤◌, List, [], ◌∷◌, ◌++◌, length, take, drop, ℤ, pos, negsuc, ◌≤ℤ◌, sym, refl, ap, ◌∙◌, add_comm, mul-zero, mul-suc, arith, length-drop, take-add}
use lib.Signed.{mag}
use Rattle.std.specs.List.{flat_map, AllByRecursion}
use Rattle.std.proofs.lemmas.List.{append_assoc, length-append, drop_at}
use Rattle.std.proofs.lemmas.Int.{ints}
use Rattle.lines.specs.Vertex.{at, InRange}
use Rattle.lines.specs.declared.vertex.Vertex.{Vertex}
use Rattle.lines.specs.declared.level.Level.{Level}
use Rattle.packs.specs.Bytes.{Octets, le, field, signed, unsigned}
use Rattle.packs.specs.Job.{items, vertex_bytes, level_bytes, vertex_from, level_from}
use Rattle.packs.proofs.LittleEndian.{octets_drop, little_le, field_small, le_field, le_fields}
use Rattle.packs.proofs.Signs.{signed_unsigned, unsigned_small, unsigned_signed}

pub length_joined : {X : Type 0} (w : ℕ) (to : X → List ℕ) → ((x : X) → length (to x) ≡ w) → (xs : List X) → length (flat_map to xs) ≡ w * length xs
length_joined w to l [] = sym (mul-zero w)
length_joined w to l (x ∷ xs) =
    let m = mul-suc w (length xs) in
    let a = l x in
    let b = length_joined w to l xs in
    length-append (to x) (flat_map to xs) ∙ omega arith

module _ {X : Type 0} (w : ℕ) (from : List ℕ → X) (to : X → List ℕ) where
  -- writing what was read
  pub joined_items : ((bs : List ℕ) → Octets bs → w ≤ length bs → to (from bs) ≡ take w bs) →
      (k : ℕ) (bs : List ℕ) → Octets bs → w * k ≤ length bs → flat_map to (items w from k bs) ≡ take (w * k) bs
  joined_items t zero bs o h = rw (mul-zero w) refl
  joined_items t (suc k) bs o h =
      let m : w * suc k ≡ w + w * k = mul-suc w k ∙ add_comm (w * k) w in
      let a = t bs o (omega arith) in
      let b = joined_items t k (drop w bs) (octets_drop w bs o) (rw (length-drop w bs) (omega arith)) in
      ap (λ xs. xs ++ flat_map to (items w from k (drop w bs))) a ∙ ap (λ xs. take w bs ++ xs) b ∙ sym (take-add w (w * k) bs) ∙ ap (λ n. take n bs) (sym m)

  -- reading what was written
  pub items_joined : (P : X → Type 0) → ((x : X) (rest : List ℕ) → P x → from (to x ++ rest) ≡ x) → ((x : X) → length (to x) ≡ w) →
      (xs : List X) (rest : List ℕ) → AllByRecursion P xs → items w from (length xs) (flat_map to xs ++ rest) ≡ xs
  items_joined P f l [] rest a = refl
  items_joined P f l (x ∷ xs) rest a =
      let e = append_assoc (to x) (flat_map to xs) rest in
      let b = f x (flat_map to xs ++ rest) a.0 in
      let d = drop_at (to x) (flat_map to xs ++ rest) w (l x) in
      ap (λ bs. items w from (suc (length xs)) bs) e ∙ ap (λ y. y ∷ items w from (length xs) (drop w (to x ++ (flat_map to xs ++ rest)))) b ∙
      ap (λ bs. x ∷ items w from (length xs) bs) d ∙ ap (λ ys. x ∷ ys) (items_joined P f l xs rest a.1)

-- vertices
pub vertex_written : (bs : List ℕ) → Octets bs → 4 ≤ length bs → vertex_bytes (vertex_from bs) ≡ take 4 bs
vertex_written bs o h =
    ap (λ n. le 2 n ++ le 2 (unsigned (signed (field 2 2 bs)))) (unsigned_signed (field 2 0 bs) (field_small 2 0 bs o)) ∙
    ap (λ n. le 2 (field 2 0 bs) ++ le 2 n) (unsigned_signed (field 2 2 bs) (field_small 2 2 bs o)) ∙ le_fields 2 2 bs o h

near : (z : ℤ) → negsuc 16383 ≤ℤ z → z ≤ℤ pos 16383 → mag z < 32768
near (pos n) a b = omega (arith, ints)
near (negsuc n) a b = omega (arith, ints)

coordinate_trip : (z : ℤ) → mag z < 32768 → signed (field 2 0 (le 2 (unsigned z))) ≡ z
coordinate_trip z h = ap signed (little_le 2 (unsigned z) (unsigned_small z h)) ∙ signed_unsigned z h

pub vertex_read : (v : Vertex) (rest : List ℕ) → InRange v → vertex_from (vertex_bytes v ++ rest) ≡ v
vertex_read v rest r =
    ap (λ x. at x (signed (field 2 0 (le 2 (unsigned v.y))))) (coordinate_trip v.x (near v.x r.0 r.1)) ∙
    ap (λ y. at v.x y) (coordinate_trip v.y (near v.y r.2 r.3))

-- levels
pub level_written : (bs : List ℕ) → Octets bs → 8 ≤ length bs → level_bytes (level_from bs) ≡ take 8 bs
level_written bs o h = le_fields 4 4 bs o h

-- A level that 32 bits hold.
abbrev pub SmallLevel : Level → Type 0
SmallLevel l = (l.tolerance < 4294967296) × (l.weight < 4294967296)

pub level_read : (l : Level) (rest : List ℕ) → SmallLevel l → level_from (level_bytes l ++ rest) ≡ l
level_read l rest s =
    ap (λ t. record { tolerance = t; weight = field 4 0 (le 4 l.weight) }) (little_le 4 l.tolerance s.0) ∙
    ap (λ w. record { tolerance = l.tolerance; weight = w }) (little_le 4 l.weight s.1)

-- numbers of w bytes each
pub number_written : (w : ℕ) (bs : List ℕ) → Octets bs → w ≤ length bs → le w (field w 0 bs) ≡ take w bs
number_written w bs o h = le_field w 0 bs o (omega arith)
