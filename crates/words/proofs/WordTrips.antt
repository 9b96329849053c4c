-- The words of a line are exactly those that it writes. Assumes nothing.
use Rattle.std.proofs.Common.{◌≡◌, ℕ, ◌<◌, Bool, cond, not, eqb, true, false, List, [], ◌∷◌, ◌++◌, length, filter, sym, refl, ap, ◌∙◌, subst, arith}
use Rattle.std.specs.List.{AllByRecursion, onto_first, slice_split, join_with_byte}
use Rattle.std.proofs.lemmas.Bool.Decides.{nat_tests}
use Rattle.std.proofs.lemmas.List.Elements.{All-from_recursion}
use Rattle.std.proofs.lemmas.List.Splits.{slice_split_at, slice_split_none, slice_split-cons_yes, slice_split-cons_no}
use Rattle.words.specs.Lines.{each_with}
use Rattle.words.specs.Words.{is_blank, words_of, at_gap, spaced, IsWord, ReadsWords}

-- the parts that are words
abbrev kept : List (List ℕ) → List (List ℕ)
kept parts = filter (λ part. not (eqb (length part) 0)) parts

filled : (c : ℕ) (part : List ℕ) → eqb (length (c ∷ part)) 0 ≡ false
filled c part = grind (arith, nat_tests)

kept_word : (c : ℕ) (part : List ℕ) (parts : List (List ℕ)) → kept ((c ∷ part) ∷ parts) ≡ (c ∷ part) ∷ kept parts
kept_word c part parts = rw (filled c part) refl

kept_long : (word : List ℕ) (parts : List (List ℕ)) → 0 < length word → kept (word ∷ parts) ≡ word ∷ kept parts
kept_long [] parts h = absurd (omega (arith, h))
kept_long (c ∷ word) parts h = kept_word c word parts

-- a blank in front of a line
blank_first : (c : ℕ) (line : List ℕ) → is_blank c ≡ true → words_of (c ∷ line) ≡ words_of line
blank_first c line h = ap kept (slice_split-cons_yes is_blank c line h)

-- a word of one byte, with a gap behind it
alone : (c : ℕ) (line : List ℕ) → is_blank c ≡ false → at_gap line ≡ true → words_of (c ∷ line) ≡ (c ∷ []) ∷ words_of line
alone c [] h g = ap kept (slice_split-cons_no is_blank c [] h)
alone c (d ∷ line) h g =
    ap kept (slice_split-cons_no is_blank c (d ∷ line) h ∙ ap (onto_first c) (slice_split-cons_yes is_blank d line g)) ∙
    ap (λ ws. (c ∷ []) ∷ ws) (sym (blank_first d line g))

-- a byte more in front of a word
joined : (c d : ℕ) (parts : List (List ℕ)) → kept (onto_first c (onto_first d parts)) ≡ onto_first c (kept (onto_first d parts))
joined c d [] = refl
joined c d (part ∷ parts) = rw (filled c (d ∷ part), filled d part) refl

longer : (c d : ℕ) (line : List ℕ) → is_blank c ≡ false → is_blank d ≡ false → words_of (c ∷ d ∷ line) ≡ onto_first c (words_of (d ∷ line))
longer c d line h g =
    ap kept (slice_split-cons_no is_blank c (d ∷ line) h) ∙
    subst (λ parts. kept (onto_first c parts) ≡ onto_first c (kept parts)) (sym (slice_split-cons_no is_blank d line g)) (joined c d (slice_split is_blank line))

-- words, each with a space behind it, are read as they are
word_written : (word line : List ℕ) → IsWord word → words_of (word ++ (32 ∷ line)) ≡ word ∷ words_of line
word_written word line h =
    ap kept (slice_split_at is_blank word 32 line (All-from_recursion _ word h.1) refl) ∙ kept_long word (slice_split is_blank line) h.0

pub words_written : (ws : List (List ℕ)) → AllByRecursion IsWord ws → words_of (each_with 32 ws) ≡ ws
words_written [] h = refl
words_written (word ∷ ws) h = word_written word (each_with 32 ws) h.0 ∙ ap (λ more. word ∷ more) (words_written ws h.1)

-- words, with one space between two, are read as they are
pub words_joined : (ws : List (List ℕ)) → AllByRecursion IsWord ws → words_of (join_with_byte 32 ws) ≡ ws
words_joined [] h = refl
words_joined (word ∷ []) h = ap kept (slice_split_none is_blank word (All-from_recursion _ word h.0.1)) ∙ kept_long word [] h.0.0
words_joined (word ∷ next ∷ ws) h = word_written word (join_with_byte 32 (next ∷ ws)) h.0 ∙ ap (λ more. word ∷ more) (words_joined (next ∷ ws) h.1)

-- the line with one space after each word is what its words write, and each of them is a word
abbrev Written : List ℕ → List (List ℕ) → Type 0
Written line ws = AllByRecursion IsWord ws × (spaced line ≡ each_with 32 ws)

spaced_blank : (c : ℕ) (line : List ℕ) → is_blank c ≡ true → spaced (c ∷ line) ≡ spaced line
spaced_blank c line h = rw h refl

spaced_alone : (c : ℕ) (line : List ℕ) → is_blank c ≡ false → at_gap line ≡ true → spaced (c ∷ line) ≡ c ∷ 32 ∷ spaced line
spaced_alone c line h g = rw (h, g) refl

spaced_longer : (c : ℕ) (line : List ℕ) → is_blank c ≡ false → at_gap line ≡ false → spaced (c ∷ line) ≡ c ∷ spaced line
spaced_longer c line h g = rw (h, g) refl

spaced_some : (c : ℕ) (line : List ℕ) → is_blank c ≡ false → spaced (c ∷ line) ≡ c ∷ cond (at_gap line) (32 ∷ spaced line) (spaced line)
spaced_some c line h = rw h refl

onward : (c d : ℕ) (line : List ℕ) (ws : List (List ℕ)) → is_blank c ≡ false → is_blank d ≡ false → Written (d ∷ line) ws → Written (c ∷ d ∷ line) (onto_first c ws)
onward c d line [] h g w = let e = spaced_some d line g in let f = w.1 in cc
onward c d line (word ∷ ws) h g w = (((omega arith, (h, w.0.0.1)), w.0.1), spaced_longer c (d ∷ line) h g ∙ ap (λ t. c ∷ t) w.1)

more : (c : ℕ) (line : List ℕ) → Written line (words_of line) → (b : Bool) → is_blank c ≡ b → (a : Bool) → at_gap line ≡ a → Written (c ∷ line) (words_of (c ∷ line))
more c line w true h a g = subst (Written (c ∷ line)) (sym (blank_first c line h)) (w.0, spaced_blank c line h ∙ w.1)
more c line w false h true g =
    subst (Written (c ∷ line)) (sym (alone c line h g)) (((omega arith, (h, tt)), w.0), spaced_alone c line h g ∙ ap (λ t. c ∷ 32 ∷ t) w.1)
more c [] w false h false g = cc
more c (d ∷ line) w false h false g = subst (Written (c ∷ d ∷ line)) (sym (longer c d line h g)) (onward c d line (words_of (d ∷ line)) h g w)

pub line_written : (line : List ℕ) → Written line (words_of line)
line_written [] = (tt, refl)
line_written (c ∷ line) = more c line (line_written line) (is_blank c) refl (at_gap line) refl

-- what equals the words of a line is exactly what the line writes
pub reads : (line : List ℕ) (read : List (List ℕ)) → read ≡ words_of line → ReadsWords line read
reads line read e ws =
    let w = line_written line in (
      λ f. subst (Written line) (sym e ∙ f) w,
      λ v. e ∙ sym (words_written (words_of line) w.0) ∙ ap words_of (sym w.1 ∙ v.1) ∙ words_written ws v.0,
    )
