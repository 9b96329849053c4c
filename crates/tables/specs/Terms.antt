-- The terms of a search: what a link costs at a level, and whether a level allows it. Assumes nothing.
use Rattle.std.specs.Prelude.{ℕ, Bool}
use Rattle.prices.specs.Price.{LinkPrice, price_by}
use Rattle.tables.specs.Grade.{by_grade}
use Rattle.tables.specs.declared.terms.Terms.{Terms}

-- What the link i → j costs at level k under the terms.
abbrev pub costs : {P : Type 0} → LinkPrice P → Terms → ℕ → ℕ → ℕ → P
costs link t = price_by link t.line.vertices.now t.levels.now

-- The links that level k allows under the terms, read off the grades.
abbrev pub grants : Terms → ℕ → ℕ → ℕ → Bool
grants t = by_grade t.grades.cells.now t.grades.n t.grades.m
