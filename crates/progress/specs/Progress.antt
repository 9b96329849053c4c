-- How far long work is, as text. Assumes nothing.
use Rattle.std.specs.Prelude.{ℕ, ◌-◌, Bool, false, List, ◌++◌, Option, Some, None, nat_le, codes, decimal}

-- So many of so many, or so many where it is not known of how many; and then what they are: 120 of 1000 edits, or 5000 lines.
abbrev pub progress_text : ℕ → Option ℕ → List ℕ → List ℕ
progress_text done None noun = decimal done ++ (codes " " ++ noun)
progress_text done (Some all) noun = decimal done ++ (codes " of " ++ (decimal all ++ (codes " " ++ noun)))

-- Whether a line is to be told at a moment: work is told at all, and a second or more has passed since it was told last. Moments are counted in nanoseconds.
abbrev pub line_due : Option ℕ → ℕ → Bool
line_due None now = false
line_due (Some told) now = nat_le 1_000_000_000 (now - told)
