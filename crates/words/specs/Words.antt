-- The words of a line in bytes. Assumes nothing.
use Rattle.std.specs.Prelude.{◌≡◌, ℕ, ◌<◌, Bool, true, cond, not, ◌||◌, ◌↔◌, List, [], ◌∷◌, length, IsFalse, ◌==◌, filter}
use Rattle.std.specs.List.{AllByRecursion, slice_split}
use Rattle.words.specs.Lines.{each_with}

-- A byte is a blank if it is the code of a space, a tab or a carriage return.
abbrev pub is_blank : ℕ → Bool
is_blank c = c == 32 || (c == 9 || c == 13)

-- The words of a line: the parts into which its blanks cut it, but for the empty ones.
abbrev pub words_of : List ℕ → List (List ℕ)
words_of line = filter (λ part. not (length part == 0)) (slice_split is_blank line)

-- No word goes on here: the line ends or a blank comes next.
abbrev pub at_gap : List ℕ → Bool
at_gap [] = true
at_gap (c ∷ line) = is_blank c

-- The line with one space after each word, and no other blank.
abbrev pub spaced : List ℕ → List ℕ
spaced [] = []
spaced (c ∷ line) = cond (is_blank c) (spaced line) (c ∷ cond (at_gap line) (32 ∷ spaced line) (spaced line))

-- A word is not empty and has no blank in it.
abbrev pub IsWord : List ℕ → Type 0
IsWord word = (0 < length word) × AllByRecursion (λ c. IsFalse (is_blank c)) word

-- The words read off a line are ws exactly when each of ws is a word and they, each with a space behind it, are the line with one space after
-- each word and no other blank.
abbrev pub ReadsWords : List ℕ → List (List ℕ) → Type 0
ReadsWords line read = (ws : List (List ℕ)) → (read ≡ ws) ↔ (AllByRecursion IsWord ws × (spaced line ≡ each_with 32 ws))
