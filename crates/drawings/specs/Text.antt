-- Drawings as text. Assumes nothing.
use Rattle.std.specs.Prelude.{ℕ, zero, suc, ◌-◌, List, [], ◌∷◌, ◌++◌, length, codes, decimal, slice_index}
use Rattle.std.specs.List.{flat_map}
use Rattle.families.specs.Stay.{read_off}
use Rattle.lines.specs.Fault.{refused_text}
use Rattle.drawings.specs.declared.drawing.DrawError.{DrawError}
use Rattle.drawings.specs.declared.drawing.DrawError.TheVariants.{Refused, OutOfMemory}

-- A vertex, with a space before it.
abbrev pub vertex_text : ℕ → List ℕ
vertex_text v = codes " " ++ decimal v

-- The line of a chain: level K links C: vertices.
abbrev pub level_text : ℕ → List ℕ → List ℕ
level_text k chain =
    codes "level " ++ (decimal k ++ (codes " links " ++ (decimal (length chain - 1) ++ (codes ":" ++ flat_map vertex_text chain))))

-- The line of a total: total F S.
abbrev pub total_text : ℕ × ℕ → List ℕ
total_text f = codes "total " ++ (decimal f.0 ++ (codes " " ++ decimal f.1))

-- A line with the line feed that ends it.
abbrev pub ended : List ℕ → List ℕ
ended line = line ++ (10 ∷ [])

-- The lines of the chains of m levels, level 1 first.
abbrev pub levels_text : ℕ → (ℕ → List ℕ) → List ℕ
levels_text zero chain = []
levels_text (suc m) chain = levels_text m chain ++ ended (level_text (suc m) (chain (suc m)))

-- The lines of a drawing: one for each of m levels, with the chains that are read off the stays, then that of the total.
abbrev pub drawing_text : ℕ → List ℕ → ℕ × ℕ → List ℕ
drawing_text m stays form = levels_text m (read_off (λ v. slice_index stays v) (length stays)) ++ ended (total_text form)

-- Why there is no drawing: the line of the refusal, or that memory ran out.
abbrev pub error_text : DrawError → List ℕ
error_text (Refused f) = refused_text f
error_text OutOfMemory = codes "out of memory"
