-- The lines of a text in bytes, where a line feed has the code 10. Assumes nothing.
use Rattle.std.specs.Prelude.{◌≡◌, ℕ, cond, ◌≢◌, ◌↔◌, List, [], ◌∷◌, ◌++◌, ◌==◌}
use Rattle.std.specs.List.{AllByRecursion, onto_first}

-- The lines of a text: what stands between line feeds, and what follows the last one unless it is empty.
abbrev pub lines_of : List ℕ → List (List ℕ)
lines_of [] = []
lines_of (c ∷ text) = cond (c == 10) ([] ∷ lines_of text) (onto_first c (lines_of text))

-- The parts, each followed by the byte c.
abbrev pub each_with : ℕ → List (List ℕ) → List ℕ
each_with c [] = []
each_with c (part ∷ parts) = part ++ (c ∷ each_with c parts)

-- The text with a line feed added at its end, unless it is empty or ends with one.
abbrev pub ended : List ℕ → List ℕ
ended [] = []
ended (c ∷ []) = cond (c == 10) (c ∷ []) (c ∷ 10 ∷ [])
ended (c ∷ d ∷ text) = c ∷ ended (d ∷ text)

-- A line has no line feed in it.
abbrev pub IsLine : List ℕ → Type 0
IsLine line = AllByRecursion (λ c. c ≢ 10) line

-- The lines read off a text are ls exactly when none of ls has a line feed in it and they, each with a line feed behind it, are the text with
-- a line feed at its end.
abbrev pub ReadsLines : List ℕ → List (List ℕ) → Type 0
ReadsLines text read = (ls : List (List ℕ)) → (read ≡ ls) ↔ (AllByRecursion IsLine ls × (ended text ≡ each_with 10 ls))
