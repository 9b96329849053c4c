-- Stays: how far up the levels each vertex is kept. Assumes nothing.
use Rattle.std.specs.Prelude.{ℕ, zero, suc, cond, List, [], ◌∷◌, nat_le}
use Rattle.families.specs.Chain.{has}

-- The stay of v in a family of m levels: the largest level whose chain has v, or 0 when none has.
abbrev pub stay : (ℕ → List ℕ) → ℕ → ℕ → ℕ
stay chain zero v = 0
stay chain (suc m) v = cond (has (chain (suc m)) v) (suc m) (stay chain m v)

-- Those of v and the vertices after it, `more` in all, whose stay is k or larger.
abbrev pub staying : (ℕ → ℕ) → ℕ → ℕ → ℕ → List ℕ
staying stays k v zero = []
staying stays k v (suc more) = cond (nat_le k (stays v)) (v ∷ staying stays k (suc v) more) (staying stays k (suc v) more)

-- The chain of level k, read off the stays of a line of n vertices.
abbrev pub read_off : (ℕ → ℕ) → ℕ → ℕ → List ℕ
read_off stays n k = staying stays k 0 n
