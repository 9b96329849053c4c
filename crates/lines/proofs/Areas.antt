-- The walk round a link, step by step. Assumes nothing.
use Rattle.std.proofs.Common.{◌≡◌, ℕ, suc, ◌+◌, ◌-◌, ◌*◌, ◌<◌, ◌≤◌, List, length, take, drop, get_or, ℤ, ◌+ℤ◌, nat_abs, sym, ap, ◌∙◌, ap₂, subst, add-zero, arith, w64, to_z, of_z}
use Rattle.std.proofs.lemmas.List.{length-take-le, length-drop, get_or-take, get_or-drop}
use Rattle.lines.specs.declared.vertex.Vertex.{Vertex}
use Rattle.lines.specs.Vertex.{origin}
use Rattle.lines.specs.Area.{step, walked}
use Rattle.lines.proofs.Integers.{back64, nat_abs_add}

-- one step more in the running sum z, as the code adds it
pub added : (z r : ℤ) (k : ℕ) → k ≤ 256 → nat_abs z ≤ k * 2147483648 → nat_abs r ≤ 2147483648 →
    (to_z w64 (of_z w64 (z +ℤ to_z w64 (of_z w64 r))) ≡ z +ℤ r) × (nat_abs (z +ℤ r) ≤ (k + 1) * 2147483648)
added z r k few hz hr =
    let s : nat_abs (z +ℤ r) ≤ (k + 1) * 2147483648 = omega (arith, nat_abs_add z r) in
    (rw (back64 r (omega arith)) (back64 (z +ℤ r) (omega arith)), s)

-- the walk along xs = vs[i..=j] by pairs of neighbours: what is left is its end, and the sum is over the steps before
pub record Walking (vs : List Vertex) (i : ℕ) (xs rest : List Vertex) (sum : ℤ) : Type 0 where
  pub some : 1 ≤ length rest
  pub within : length rest ≤ length xs
  pub is_end : rest ≡ drop (length xs - length rest) xs
  pub sums : sum ≡ walked vs i (length xs - length rest)
  pub small : nat_abs sum ≤ (length xs - length rest) * 2147483648

-- the vertices from i to j, and how many they are
abbrev pub along : List Vertex → ℕ → ℕ → List Vertex
along vs i j = take (j + 1 - i) (drop i vs)

pub along_length : (vs : List Vertex) (i j : ℕ) → i < j → j < length vs → length (along vs i j) ≡ j + 1 - i
along_length vs i j h l = length-take-le (j + 1 - i) (drop i vs) (omega (arith, length-drop i vs))

-- the vertex at a place of them
along_at : (vs : List Vertex) (i j a : ℕ) → a < j + 1 - i → get_or (along vs i j) a origin ≡ get_or vs (i + a) origin
along_at vs i j a h = get_or-take (j + 1 - i) (drop i vs) a origin h ∙ get_or-drop i vs a origin

-- one pair of neighbours more
module _ (vs : List Vertex) (i j : ℕ) (h : i < j) (l : j < length vs) (rest next pair : List Vertex) (z r total : ℤ) where
  abbrev xs : List Vertex
  xs = along vs i j

  pub walked_on : Walking vs i xs rest z → length next + 1 ≡ length rest → next ≡ drop (length xs - length next) xs → 2 ≤ length rest →
      ((k : ℕ) (d : Vertex) → k < 2 → get_or pair k d ≡ get_or xs (length xs - length rest + k) d) →
      r ≡ step (get_or pair 0 origin) (get_or pair 1 origin) → total ≡ z +ℤ r → nat_abs (z +ℤ r) ≤ ((length xs - length rest) + 1) * 2147483648 →
      Walking vs i xs next total
  walked_on before less end two ends value sum small =
      let n = along_length vs i j h l in
      let at = length xs - length rest in
      let past : length xs - length next ≡ suc at = omega (arith, less, before.within) in
      let p : get_or pair 0 origin ≡ get_or vs (i + at) origin = ends 0 origin (omega arith) ∙ ap (λ x. get_or xs x origin) (add-zero at) ∙ along_at vs i j at (omega (arith, n, two)) in
      let e : i + (at + 1) ≡ i + at + 1 = omega arith in
      let q : get_or pair 1 origin ≡ get_or vs (i + at + 1) origin = ends 1 origin (omega arith) ∙ along_at vs i j (at + 1) (omega (arith, n, two)) ∙ ap (λ x. get_or vs x origin) e in
      record {
        some = omega (arith, less, two);
        within = omega (arith, less, before.within);
        is_end = end;
        sums = sum ∙ ap₂ ◌+ℤ◌ before.sums (value ∙ ap₂ step p q) ∙ sym (ap (walked vs i) past);
        small = rw sum (subst (λ (x : ℕ). nat_abs (z +ℤ r) ≤ x * 2147483648) (omega (arith, past)) small);
      }
