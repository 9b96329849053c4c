-- Scripts of edits: the text that writes edits, and the edits that a text orders. Assumes nothing.
use Rattle.std.specs.Prelude.{◌≡◌, ℕ, ◌+◌, ◌≤◌, Bool, true, cond, List, [], ◌∷◌, ◌++◌, Some, None, Ok, Err, Option, Result, Vec, ◌==◌, bytes_eq, codes, decimal, option_map, option_and_then, vec_items, slice_index}
use Rattle.std.specs.List.{AllByRecursion, flat_map}
use Rattle.words.specs.Lines.{lines_of}
use Rattle.words.specs.Numbers.{number_of}
use Rattle.words.specs.Words.{words_of}
use Rattle.drawings.specs.Text.{ended}
use Rattle.edits.specs.declared.script.Edit.{Edit}
use Rattle.edits.specs.declared.script.Edit.TheVariants.{Pin, Release, Retune, Draw}
use Rattle.edits.specs.declared.script.ScriptError.{ScriptError}
use Rattle.edits.specs.declared.script.ScriptError.TheVariants.{Line, OutOfMemory}

-- The line that orders an edit: pin V, release V, retune K T or draw.
abbrev pub edit_text : Edit → List ℕ
edit_text (Pin v) = codes "pin " ++ decimal v
edit_text (Release v) = codes "release " ++ decimal v
edit_text (Retune k t) = codes "retune " ++ (decimal k ++ (codes " " ++ decimal t))
edit_text Draw = codes "draw"

-- The script that orders edits: a line for each.
abbrev pub script_text : List Edit → List ℕ
script_text edits = flat_map (λ edit. ended (edit_text edit)) edits

-- The numbers of an edit are at most 4294967295, the largest that a script can write.
abbrev pub NumbersFit : Edit → Type 0
NumbersFit (Pin v) = v ≤ 4294967295
NumbersFit (Release v) = v ≤ 4294967295
NumbersFit (Retune k t) = (k ≤ 4294967295) × (t ≤ 4294967295)
NumbersFit Draw = Unit {0}

-- The words of a line order nothing if there are none, or if the first begins with #, which has the code 35.
abbrev pub orders_nothing : List (List ℕ) → Bool
orders_nothing [] = true
orders_nothing (word ∷ words) = slice_index word 0 == 35

-- The edit of vertex v that a word orders, or none if the word is neither pin nor release.
abbrev pub vertex_edit_in : List ℕ → ℕ → Option Edit
vertex_edit_in word v = cond (bytes_eq word (codes "pin")) (Some (Pin v)) (cond (bytes_eq word (codes "release")) (Some (Release v)) None)

-- The edit that words order, or none if they order none.
abbrev pub edit_in : List (List ℕ) → Option Edit
edit_in [] = None
edit_in (word ∷ []) = cond (bytes_eq word (codes "draw")) (Some Draw) None
edit_in (word ∷ v ∷ []) = option_and_then (vertex_edit_in word) (number_of v)
edit_in (word ∷ k ∷ t ∷ []) = cond (bytes_eq word (codes "retune")) (option_and_then (λ level. option_map (Retune level) (number_of t)) (number_of k)) None
edit_in (word ∷ k ∷ t ∷ more ∷ words) = None

-- An edit that line n orders, before what the lines after it order; or n, if the line orders none.
abbrev pub first_ordered : ℕ → Option Edit → Result (List Edit) ℕ → Result (List Edit) ℕ
first_ordered n None later = Err n
first_ordered n (Some edit) (Ok edits) = Ok (edit ∷ edits)
first_ordered n (Some edit) (Err m) = Err m

-- The edits that lines order, the first of which is line n; or the number of the first line that cannot be read.
abbrev pub ordered_from : ℕ → List (List ℕ) → Result (List Edit) ℕ
ordered_from n [] = Ok []
ordered_from n (line ∷ lines) =
    cond (orders_nothing (words_of line)) (ordered_from (n + 1) lines) (first_ordered n (edit_in (words_of line)) (ordered_from (n + 1) lines))

-- The edits that a script orders, or the number of its first line that cannot be read, counted from 1.
abbrev pub script_in : List ℕ → Result (List Edit) ℕ
script_in text = ordered_from 1 (lines_of text)

-- What is read is this, or memory runs out.
abbrev pub ReadAs : {A : Type 0} → Result (List Edit) ℕ → Result (Vec Edit A) ScriptError → Type 0
ReadAs ordered (Ok edits) = ordered ≡ Ok (vec_items edits)
ReadAs ordered (Err (Line n)) = ordered ≡ Err n
ReadAs ordered (Err OutOfMemory) = Unit {0}

-- The script of edits whose numbers fit is read as those edits, unless memory runs out.
abbrev pub GivesScriptBack : {A : Type 0} → List ℕ → Result (Vec Edit A) ScriptError → Type 0
GivesScriptBack text result = (edits : List Edit) → AllByRecursion NumbersFit edits → text ≡ script_text edits → ReadAs (Ok edits) result

-- Why a script cannot be read: the line of it, or that memory ran out.
abbrev pub error_text : ScriptError → List ℕ
error_text (Line n) = codes "line " ++ (decimal n ++ codes ": expected pin V, release V, retune K T or draw")
error_text OutOfMemory = codes "out of memory"
