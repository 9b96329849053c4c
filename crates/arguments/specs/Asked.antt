-- What arguments ask for. Assumes nothing.
use Rattle.std.specs.Prelude.{◌≡◌, ℕ, Bool, false, cond, List, [], ◌∷◌, length, drop, ◌==◌, bytes_eq, codes, Option, Some, Result, Ok, IfOk, IsNone, IsErr}
use Rattle.std.specs.List.{list_any}
use Rattle.arguments.specs.declared.request.Asked.{Asked}
use Rattle.arguments.specs.declared.request.Asked.TheVariants.{Work, Help, Unknown}

-- One of the arguments is --help.
abbrev pub asks_help : List (List ℕ) → Bool
asks_help words = list_any (λ word. bytes_eq word (codes "--help")) words

-- Whoever writes --help anywhere wants help; else as many arguments as the program takes ask for its work.
abbrev pub asked_by : List (List ℕ) → ℕ → Asked
asked_by words wanted = cond (asks_help words) Help (cond (length words == wanted) Work Unknown)

-- The first of the arguments is --progress.
abbrev pub asks_progress : List (List ℕ) → Bool
asks_progress [] = false
asks_progress (word ∷ words) = bytes_eq word (codes "--progress")

-- The arguments behind a --progress that stands first; or all of them.
abbrev pub behind_progress : {X : Type 0} → Bool → List X → List X
behind_progress asked words = cond asked (drop 1 words) words

-- What a program begins with: the arguments if they ask for its work, nothing once it has told its help, and an error if it does not take them.
abbrev pub BeginsWith : {W E : Type 0} → Asked → W → Result (Option W) E → Type 0
BeginsWith Work words begun = begun ≡ Ok (Some words)
BeginsWith Help words begun = IfOk begun IsNone
BeginsWith Unknown words begun = IsErr begun
