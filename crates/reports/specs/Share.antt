-- Shares per mille. Assumes nothing.
use Rattle.std.specs.Prelude.{ℕ, zero, suc, ◌*◌, ◌/◌, min}

-- How many vertices in a thousand are kept, rounded down, where `kept` of n are; at most the largest number of 64 bits, and 0 of none.
abbrev pub share : ℕ → ℕ → ℕ
share kept zero = 0
share kept (suc n) = min (kept * 1000 / suc n) 18446744073709551615
