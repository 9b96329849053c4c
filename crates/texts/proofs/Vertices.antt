-- Reading vertices one after another. Assumes nothing.
use Rattle.std.proofs.Common.{ℕ, List, ◌++◌, map, drop, Bor, Some, None, Option}
use Rattle.texts.specs.Statement.{vertices_in, vertices_said}
use Rattle.texts.specs.declared.statement.Statement.{Statement}

-- what was said, before what comes after
abbrev pub onto : List Statement → Option (List Statement) → Option (List Statement)
onto found (Some later) = Some (found ++ later)
onto found None = None

-- what the texts from i on say
abbrev pub behind : List (Bor (List ℕ)) → ℕ → Option (List Statement)
behind texts i = vertices_said (vertices_in (map (λ text. text.now) (drop i texts)))
