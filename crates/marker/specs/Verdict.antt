-- Verdicts as text. Assumes nothing.
use Rattle.std.specs.Prelude.{ℕ, List, ◌++◌, Ok, Err, codes, decimal, Result}
use Rattle.lines.specs.Fault.{refused_text}
use Rattle.lines.specs.declared.fault.Fault.{Fault}

-- The line of a valid family: valid F S.
abbrev pub valid_text : ℕ × ℕ → List ℕ
valid_text f = codes "valid " ++ (decimal f.0 ++ (codes " " ++ decimal f.1))

-- The line of a verdict.
abbrev pub verdict_text : Result (ℕ × ℕ) Fault → List ℕ
verdict_text (Ok f) = valid_text f
verdict_text (Err e) = refused_text e
