-- Reading a script line by line, and reading back a script of edits. Assumes nothing.
use Rattle.std.proofs.Common.{◌≡◌, ℕ, ◌+◌, ◌<◌, ◌≤◌, true, false, List, [], ◌∷◌, ◌++◌, length, get_or, map, drop, Bor, Vec, Some, None, Ok, Err, Result, sym, refl, ap, ◌∙◌, subst, arith, add-one, append_assoc, append-nil}
use Rattle.std.specs.Prelude.{codes, decimal, option_map, option_and_then}
use Rattle.std.specs.List.{AllByRecursion, join_with_byte}
use Rattle.std.proofs.Math.Seq.{drop-cons}
use Rattle.std.proofs.lemmas.List.{drop_all}
use Rattle.words.specs.Lines.{lines_of, IsLine}
use Rattle.words.specs.Numbers.{number_of}
use Rattle.words.specs.Words.{words_of}
use Rattle.words.proofs.LineTrips.{line_written}
use Rattle.words.proofs.NumberTrips.{decimal_read}
use Rattle.words.proofs.Solid.{Solid, printed_codes, solid_number, are_words, is_line}
use Rattle.words.proofs.WordTrips.{words_joined}
use Rattle.edits.specs.Script.{edit_text, script_text, NumbersFit, orders_nothing, vertex_edit_in, edit_in, first_ordered, ordered_from, script_in, ReadAs, GivesScriptBack}
use Rattle.edits.specs.declared.script.Edit.{Edit}
use Rattle.edits.specs.declared.script.Edit.TheVariants.{Pin, Release, Retune, Draw}
use Rattle.edits.specs.declared.script.ScriptError.{ScriptError}

-- edits that were read, before what the lines after them order
abbrev pub onto : List Edit → Result (List Edit) ℕ → Result (List Edit) ℕ
onto found (Ok edits) = Ok (found ++ edits)
onto found (Err n) = Err n

onto_more : (found : List Edit) (n : ℕ) (edit : Edit) (later : Result (List Edit) ℕ) → onto found (first_ordered n (Some edit) later) ≡ onto (found ++ (edit ∷ [])) later
onto_more found n edit (Ok edits) = ap Ok (sym (append_assoc found (edit ∷ []) edits))
onto_more found n edit (Err m) = refl

-- a first line that orders nothing, and one that orders an edit or cannot be read
passed : (n : ℕ) (line : List ℕ) (lines : List (List ℕ)) → orders_nothing (words_of line) ≡ true → ordered_from n (line ∷ lines) ≡ ordered_from (n + 1) lines
passed n line lines h = rw h refl

ordered : (n : ℕ) (line : List ℕ) (lines : List (List ℕ)) → orders_nothing (words_of line) ≡ false →
    ordered_from n (line ∷ lines) ≡ first_ordered n (edit_in (words_of line)) (ordered_from (n + 1) lines)
ordered n line lines h = rw h refl

abbrev texts : List (Bor (List ℕ)) → List (List ℕ)
texts lines = map (λ l. l.now) lines

-- what the lines behind line i order
abbrev pub later : List (Bor (List ℕ)) → ℕ → Result (List Edit) ℕ
later lines i = ordered_from (i + 1 + 1) (texts (drop (i + 1) lines))

-- line i of lines, and those behind it
module _ (lines : List (Bor (List ℕ))) (i : ℕ) (d : Bor (List ℕ)) (h : i < length lines) where
  abbrev line : List ℕ
  line = (get_or lines i d).now

  next : texts (drop i lines) ≡ line ∷ texts (drop (i + 1) lines)
  next = rw (add-one) (ap texts (drop-cons lines i d h))

  pub passes : (words : List (List ℕ)) → words ≡ words_of line → true ≡ orders_nothing words → ordered_from (i + 1) (texts (drop i lines)) ≡ later lines i
  passes words w n = ap (ordered_from (i + 1)) next ∙ passed (i + 1) line (texts (drop (i + 1) lines)) (ap orders_nothing (sym w) ∙ sym n)

  orders : (words : List (List ℕ)) → words ≡ words_of line → false ≡ orders_nothing words → ordered_from (i + 1) (texts (drop i lines)) ≡ first_ordered (i + 1) (edit_in words) (later lines i)
  orders words w n =
      ap (ordered_from (i + 1)) next ∙ ordered (i + 1) line (texts (drop (i + 1) lines)) (ap orders_nothing (sym w) ∙ sym n) ∙
      ap (λ ws. first_ordered (i + 1) (edit_in ws) (later lines i)) (sym w)

  pub adds : (words : List (List ℕ)) (found : List Edit) (edit : Edit) → words ≡ words_of line → false ≡ orders_nothing words → Some edit ≡ edit_in words →
      onto found (ordered_from (i + 1) (texts (drop i lines))) ≡ onto (found ++ (edit ∷ [])) (later lines i)
  adds words found edit w n e = ap (onto found) (orders words w n ∙ ap (λ o. first_ordered (i + 1) o (later lines i)) (sym e)) ∙ onto_more found (i + 1) edit (later lines i)

  pub stops : (words : List (List ℕ)) (found : List Edit) → words ≡ words_of line → false ≡ orders_nothing words → None ≡ edit_in words →
      onto found (ordered_from (i + 1) (texts (drop i lines))) ≡ Err (i + 1)
  stops words found w n e = ap (onto found) (orders words w n ∙ ap (λ o. first_ordered (i + 1) o (later lines i)) (sym e))

-- once no line is left
pub ends : (lines : List (Bor (List ℕ))) (i : ℕ) (found : List Edit) → length lines ≤ i → onto found (ordered_from (i + 1) (texts (drop i lines))) ≡ Ok found
ends lines i found h = ap (λ ls. onto found (ordered_from (i + 1) (texts ls))) (drop_all i lines h) ∙ ap Ok (append-nil found)

-- the words of the line that orders an edit
abbrev edit_words : Edit → List (List ℕ)
edit_words (Pin v) = codes "pin" ∷ decimal v ∷ []
edit_words (Release v) = codes "release" ∷ decimal v ∷ []
edit_words (Retune k t) = codes "retune" ∷ decimal k ∷ decimal t ∷ []
edit_words Draw = codes "draw" ∷ []

joined : (edit : Edit) → edit_text edit ≡ join_with_byte 32 (edit_words edit)
joined (Pin v) = refl
joined (Release v) = refl
joined (Retune k t) = refl
joined Draw = refl

orders_some : (edit : Edit) → orders_nothing (edit_words edit) ≡ false
orders_some (Pin v) = refl
orders_some (Release v) = refl
orders_some (Retune k t) = refl
orders_some Draw = refl

solid : (edit : Edit) → NumbersFit edit → AllByRecursion Solid (edit_words edit)
solid (Pin v) h = ((omega arith, printed_codes (codes "pin") refl), (solid_number v h, tt))
solid (Release v) h = ((omega arith, printed_codes (codes "release") refl), (solid_number v h, tt))
solid (Retune k t) h = ((omega arith, printed_codes (codes "retune") refl), (solid_number k h.0, (solid_number t h.1, tt)))
solid Draw h = ((omega arith, printed_codes (codes "draw") refl), tt)

edit_read : (edit : Edit) → NumbersFit edit → edit_in (edit_words edit) ≡ Some edit
edit_read (Pin v) h = ap (option_and_then (vertex_edit_in (codes "pin"))) (decimal_read v h)
edit_read (Release v) h = ap (option_and_then (vertex_edit_in (codes "release"))) (decimal_read v h)
edit_read (Retune k t) h =
    ap (option_and_then (λ level. option_map (Retune level) (number_of (decimal t)))) (decimal_read k h.0) ∙ ap (option_map (Retune k)) (decimal_read t h.1)
edit_read Draw h = refl

words_read : (edit : Edit) → NumbersFit edit → words_of (edit_text edit) ≡ edit_words edit
words_read edit h = ap words_of (joined edit) ∙ words_joined (edit_words edit) (are_words (edit_words edit) (solid edit h))

lines_read : (edit : Edit) (edits : List Edit) → NumbersFit edit → lines_of (script_text (edit ∷ edits)) ≡ edit_text edit ∷ lines_of (script_text edits)
lines_read edit edits h =
    ap lines_of (append_assoc (edit_text edit) (10 ∷ []) (script_text edits)) ∙
    line_written (edit_text edit) (script_text edits) (subst IsLine (sym (joined edit)) (is_line (edit_words edit) (solid edit h)))

-- the lines of a script of edits order those edits
script_read : (n : ℕ) (edits : List Edit) → AllByRecursion NumbersFit edits → ordered_from n (lines_of (script_text edits)) ≡ Ok edits
script_read n [] h = refl
script_read n (edit ∷ edits) h =
    let rest = ordered_from (n + 1) (lines_of (script_text edits)) in
    ap (ordered_from n) (lines_read edit edits h.0) ∙
    ordered n (edit_text edit) (lines_of (script_text edits)) (ap orders_nothing (words_read edit h.0) ∙ orders_some edit) ∙
    ap (λ ws. first_ordered n (edit_in ws) rest) (words_read edit h.0) ∙
    ap (λ o. first_ordered n o rest) (edit_read edit h.0) ∙
    ap (first_ordered n (Some edit)) (script_read (n + 1) edits h.1)

-- so what is read as a script orders gives back edits that were written
pub gives_back : {A : Type 0} (text : List ℕ) (r : Result (Vec Edit A) ScriptError) → ReadAs (script_in text) r → GivesScriptBack text r
gives_back text r h edits fit e = subst (λ s. ReadAs s r) (ap script_in e ∙ script_read 1 edits fit) h
