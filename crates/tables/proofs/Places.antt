-- Where rows lie. Assumes nothing.
use Rattle.std.proofs.Common.{◌≡◌, ℕ, ◌+◌, ◌-◌, ◌*◌, ◌<◌, ◌≤◌, sym, mul-le-mul_right, add-mul, one-mul, arith}
use Rattle.tables.specs.Price.{row}

-- a stretch of n lies whole below the next
pub stretch_below : (n a b : ℕ) → a < b → a * n + n ≤ b * n
stretch_below n a b p =
    let s : a + 1 ≤ b = omega (arith, p) in
    let h : (a + 1) * n ≤ b * n = mul-le-mul_right n s in
    omega (arith, h, add-mul a 1 n, one-mul n)

number_below : (n a b i : ℕ) → a < b → i < n → a * n + i < b * n
number_below n a b i p q = let h = stretch_below n a b p in omega arith

-- the rows are numbered through all levels
pub row_number : (n k i : ℕ) → row n k i ≡ ((k - 1) * n + i) * n
row_number n k i = sym (add-mul ((k - 1) * n) i n)

-- rows of one level lie in the order of their vertices
pub row_after : (n k i v : ℕ) → i < v → row n k i + n ≤ row n k v
row_after n k i v h =
    let b = stretch_below n ((k - 1) * n + i) ((k - 1) * n + v) (omega arith) in
    omega (arith, b, row_number n k i, row_number n k v)

-- a row of a finer level lies before
pub row_before : (n h k i v : ℕ) → 1 ≤ h → h < k → v < n → row n h v + n ≤ row n k i
row_before n h k i v a b c =
    let p = number_below n (h - 1) (k - 1) v (omega arith) c in
    let q = stretch_below n ((h - 1) * n + v) ((k - 1) * n + i) (omega arith) in
    omega (arith, q, row_number n h v, row_number n k i)
