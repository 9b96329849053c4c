-- The lines of a text are exactly those that it writes. Assumes nothing.
use Rattle.std.proofs.Common.{◌≡◌, ℕ, Bool, cond, eqb, true, false, List, [], ◌∷◌, ◌++◌, length, sym, refl, ap, ◌∙◌, subst, arith, map, ap₂, inl, inr, Option, Bor, MutBor}
use denote.Param.Members.{Once}
use Rattle.std.specs.Fn.{FnOnceReturnsAtMut}
use Rattle.std.specs.List.Retain.{PopsIf}
use Rattle.std.proofs.lemmas.List.{map-append}
use Rattle.std.specs.List.{AllByRecursion, onto_first, slice_split}
use Rattle.std.proofs.lemmas.List.Splits.{length-slice_split}
use Rattle.std.proofs.lemmas.Bool.Decides.{nat_tests}
use Rattle.words.specs.Lines.{lines_of, each_with, ended, IsLine, ReadsLines}

-- a byte in front of lines, the first of which goes on
front_line : (c : ℕ) (line text : List ℕ) (more : List (List ℕ)) → eqb c 10 ≡ false → lines_of text ≡ line ∷ more → lines_of (c ∷ text) ≡ (c ∷ line) ∷ more
front_line c line text more h e = rw (h, e) refl

other : (c : ℕ) → (c ≡ 10 → ⊥) → eqb c 10 ≡ false
other c h = grind (arith, nat_tests)

feed : (c : ℕ) → eqb c 10 ≡ true → c ≡ 10
feed c h = grind (arith, nat_tests)

none : (c : ℕ) → eqb c 10 ≡ false → c ≡ 10 → ⊥
none c h e = grind (arith, nat_tests)

-- the lines of a text that writes a line and then other lines
pub line_written : (line text : List ℕ) → IsLine line → lines_of (line ++ (10 ∷ text)) ≡ line ∷ lines_of text
line_written [] text h = refl
line_written (c ∷ line) text h = front_line c line (line ++ (10 ∷ text)) (lines_of text) (other c h.0) (line_written line text h.1)

-- lines, each with a line feed behind it, are read as they are
pub lines_written : (ls : List (List ℕ)) → AllByRecursion IsLine ls → lines_of (each_with 10 ls) ≡ ls
lines_written [] h = refl
lines_written (line ∷ ls) h = line_written line (each_with 10 ls) h.0 ∙ ap (λ more. line ∷ more) (lines_written ls h.1)

-- the text with a line feed at its end is what its lines write, and none of them has a line feed in it
abbrev Written : List ℕ → List (List ℕ) → Type 0
Written text ls = AllByRecursion IsLine ls × (ended text ≡ each_with 10 ls)

-- a byte more in front of a text that is not empty
fed : (c d : ℕ) (text : List ℕ) (ls : List (List ℕ)) → c ≡ 10 → Written (d ∷ text) ls → Written (c ∷ d ∷ text) ([] ∷ ls)
fed c d text ls e w = ((tt, w.0), let f = w.1 in cc)

not_empty : (d : ℕ) (text : List ℕ) → ended (d ∷ text) ≡ [] → ⊥
not_empty d [] e = grind (arith, nat_tests)
not_empty d (c ∷ text) e = cc

longer : (c d : ℕ) (text : List ℕ) (ls : List (List ℕ)) → (c ≡ 10 → ⊥) → Written (d ∷ text) ls → Written (c ∷ d ∷ text) (onto_first c ls)
longer c d text [] h w = absurd (not_empty d text w.1)
longer c d text (line ∷ ls) h w = (((h, w.0.0), w.0.1), let f = w.1 in cc)

byte : (c : ℕ) → ((b : Bool) → eqb c 10 ≡ b → Written (c ∷ []) (cond b ([] ∷ []) ((c ∷ []) ∷ [])))
byte c true e = ((tt, tt), rw e (ap (λ x. x ∷ []) (feed c e)))
byte c false e = (((none c e, tt), tt), rw e refl)

more : (c d : ℕ) (text : List ℕ) (ls : List (List ℕ)) → Written (d ∷ text) ls → (b : Bool) → eqb c 10 ≡ b → Written (c ∷ d ∷ text) (cond b ([] ∷ ls) (onto_first c ls))
more c d text ls w true e = fed c d text ls (feed c e) w
more c d text ls w false e = longer c d text ls (none c e) w

pub text_written : (text : List ℕ) → Written text (lines_of text)
text_written [] = (tt, refl)
text_written (c ∷ []) = byte c (eqb c 10) refl
text_written (c ∷ d ∷ text) = more c d text (lines_of (d ∷ text)) (text_written (d ∷ text)) (eqb c 10) refl

-- what equals the lines of a text is exactly what the text writes
pub reads : (text : List ℕ) (read : List (List ℕ)) → read ≡ lines_of text → ReadsLines text read
reads text read e ls =
    let w = text_written text in (
      λ f. subst (Written text) (sym e ∙ f) w,
      λ v. e ∙ sym (lines_written (lines_of text) w.0) ∙ ap lines_of (sym w.1 ∙ v.1) ∙ lines_written ls v.0,
    )

-- the parts, but for an empty one at the end
abbrev pub trimmed : List (List ℕ) → List (List ℕ)
trimmed [] = []
trimmed (part ∷ []) = cond (eqb (length part) 0) [] (part ∷ [])
trimmed (part ∷ next ∷ parts) = part ∷ trimmed (next ∷ parts)

abbrev parts_of : List ℕ → List (List ℕ)
parts_of text = slice_split (λ c. eqb c 10) text

some_part : (text : List ℕ) → parts_of text ≡ [] → ⊥
some_part text e = omega (arith, length-slice_split (λ c. eqb c 10) text, ap length e)

filled : (c : ℕ) (part : List ℕ) → eqb (length (c ∷ part)) 0 ≡ false
filled c part = grind (arith, nat_tests)

led : (c : ℕ) (parts : List (List ℕ)) → (parts ≡ [] → ⊥) → trimmed (onto_first c parts) ≡ onto_first c (trimmed parts)
led c [] h = absurd (h refl)
led c ([] ∷ []) h = refl
led c ((d ∷ part) ∷ []) h = rw (filled c (d ∷ part), filled d part) refl
led c (part ∷ next ∷ parts) h = refl

behind : (parts : List (List ℕ)) → (parts ≡ [] → ⊥) → trimmed ([] ∷ parts) ≡ [] ∷ trimmed parts
behind [] h = absurd (h refl)
behind (part ∷ parts) h = refl

-- the parts between line feeds are the lines, but for an empty one at the end
parts_more : (c : ℕ) (text : List ℕ) → trimmed (parts_of text) ≡ lines_of text → (b : Bool) →
    trimmed (cond b ([] ∷ parts_of text) (onto_first c (parts_of text))) ≡ cond b ([] ∷ lines_of text) (onto_first c (lines_of text))
parts_more c text e true = behind (parts_of text) (some_part text) ∙ ap (λ ls. [] ∷ ls) e
parts_more c text e false = led c (parts_of text) (some_part text) ∙ ap (onto_first c) e

parts_trimmed : (text : List ℕ) → trimmed (parts_of text) ≡ lines_of text
parts_trimmed [] = refl
parts_trimmed (c ∷ text) = parts_more c text (parts_trimmed text) (eqb c 10)

front_cond : (part : List ℕ) (front : List (List ℕ)) (last : List ℕ) (b : Bool) →
    ◌≡◌ {A = List (List ℕ)} (part ∷ cond b front (front ++ (last ∷ []))) (cond b (part ∷ front) ((part ∷ front) ++ (last ∷ [])))
front_cond part front last true = refl
front_cond part front last false = refl

last_trimmed : (front : List (List ℕ)) (last : List ℕ) → trimmed (front ++ (last ∷ [])) ≡ cond (eqb (length last) 0) front (front ++ (last ∷ []))
last_trimmed [] last = refl
last_trimmed (part ∷ []) last = front_cond part [] last (eqb (length last) 0)
last_trimmed (part ∷ next ∷ front) last = ap (λ ls. part ∷ ls) (last_trimmed (next ∷ front) last) ∙ front_cond part (next ∷ front) last (eqb (length last) 0)

-- the lines, where the last of the parts goes if it is empty
shown : (text : List ℕ) (front : List (List ℕ)) (last : List ℕ) (xs : List (Bor (List ℕ))) (y : Bor (List ℕ)) (b : Bool) → parts_of text ≡ front ++ (last ∷ []) → map (λ l. l.now) xs ≡ front → y.now ≡ last →
    b ≡ eqb (length last) 0 → map (λ l. l.now) (cond b xs (xs ++ (y ∷ []))) ≡ lines_of text
shown text front last xs y true p e f g = e ∙ sym (sym (parts_trimmed text) ∙ ap trimmed p ∙ last_trimmed front last ∙ ap (λ t. cond t front (front ++ (last ∷ []))) (sym g))
shown text front last xs y false p e f g =
    map-append (λ l. l.now) xs (y ∷ []) ∙ ap₂ (λ ls l. ls ++ (l ∷ [])) e f ∙
    sym (sym (parts_trimmed text) ∙ ap trimmed p ∙ last_trimmed front last ∙ ap (λ t. cond t front (front ++ (last ∷ []))) (sym g))

pub popped : {F : Type 0} (g : Once F (MutBor (Bor (List ℕ)) × Unit {0}) (Bool × (MutBor (Bor (List ℕ)) × Unit {0}))) (text : List ℕ) (olds news : List (Bor (List ℕ))) (f : F) (r : Option (Bor (List ℕ))) →
    map (λ l. l.now) olds ≡ parts_of text → PopsIf g olds news f r →
    ((x y : Bor (List ℕ)) (b : Bool) → FnOnceReturnsAtMut g f x b y → (y.now ≡ x.now) × (b ≡ eqb (length x.now) 0)) → map (λ l. l.now) news ≡ lines_of text
popped g text olds news f r p (inl h) says = absurd (some_part text (sym p ∙ ap (map (λ l. l.now)) h.0))
popped g text olds news f r p (inr h) says =
    let xs = h.0 in
    let x = h.1 in
    let said = says x h.3 h.2 h.5 in
    ap (map (λ l. l.now)) h.7 ∙
    shown text (map (λ l. l.now) xs) x.now xs h.3 h.2 (sym p ∙ ap (map (λ l. l.now)) h.4 ∙ map-append (λ l. l.now) xs (x ∷ [])) refl said.0 said.1
