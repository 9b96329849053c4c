-- A LINESTRING says the vertices that it was written for. Assumes nothing.
use Rattle.std.proofs.Common.{◌≡◌, ℕ, suc, ◌^◌, ◌<◌, ◌≤◌, Bool, ◌||◌, eqb, leb, true, false, List, [], ◌∷◌, ◌++◌, map, Some, Ok, ℤ, pos, negsuc, inl, inr, ◌⊎◌, refl, ap, ◌∙◌, arith}
use Rattle.std.specs.Prelude.{IsFalse, codes, decimal, ok_or, option_map, option_and_then, unsigned_abs}
use Rattle.std.specs.Char.{is_ascii_digit}
use Rattle.std.specs.Fmt.{signed_decimal}
use Rattle.std.specs.List.{AllByRecursion, list_all, onto_first}
use Rattle.std.specs.Str.{all_ascii_digits}
use Rattle.std.proofs.lemmas.Bool.{and_parts, eqb-true, leb-true}
use Rattle.std.proofs.lemmas.Bool.Decides.{nat_tests}
use Rattle.std.proofs.lemmas.Fmt.{digits_decimal}
use Rattle.std.proofs.lemmas.List.Elements.{All-from_recursion}
use Rattle.std.proofs.lemmas.List.Splits.{slice_split_at, slice_split_none}
use Rattle.lines.specs.Vertex.{InRange}
use Rattle.lines.specs.declared.vertex.Vertex.{Vertex as LineVertex}
use Rattle.words.specs.Lines.{IsLine}
use Rattle.words.proofs.NumberTrips.{own}
use Rattle.texts.specs.Statement.{parts, closed, opened, inside, vertices_in, vertices_said, statements_in}
use Rattle.texts.specs.Text.{vertex_text, vertices_text, line_string}
use Rattle.texts.specs.declared.error.Expected.TheVariants.{LineString}
use Rattle.texts.specs.declared.statement.Statement.TheVariants.{Vertex}
use Rattle.texts.proofs.LinesBack.{near, vertex_words}

-- spaces, and bytes from `low` on
abbrev Loose : ℕ → List ℕ → Type 0
Loose low text = AllByRecursion (λ c. (c ≡ 32) ⊎ (low ≤ c)) text

loose_append : (low : ℕ) (a b : List ℕ) → Loose low a → Loose low b → Loose low (a ++ b)
loose_append low [] b p q = q
loose_append low (c ∷ a) b p q = (p.0, loose_append low a b p.1 q)

looser : (low more : ℕ) (text : List ℕ) → low ≤ more → Loose more text → Loose low text
looser low more [] h p = tt
looser low more (c ∷ text) h p = (elim p.0 [ inl e ↦ inl e | inr e ↦ inr (omega (arith, h, e)) ], looser low more text h p.1)

codes_loose : (low : ℕ) (text : List ℕ) → list_all (λ c. eqb c 32 || leb low c) text ≡ true → Loose low text
codes_loose low [] h = tt
codes_loose low (c ∷ text) h =
    let p = and_parts (eqb c 32 || leb low c) (list_all (λ d. eqb d 32 || leb low d) text) h in
    (byte (eqb c 32) refl p.0, codes_loose low text p.1)
  where
    byte : (b : Bool) → eqb c 32 ≡ b → (b || leb low c) ≡ true → (c ≡ 32) ⊎ (low ≤ c)
    byte true e h = inl (eqb-true c 32 e)
    byte false e h = inr (leb-true low c h)

-- a mark below is not among them
other : (low mark c : ℕ) → mark < low → (mark ≡ 32 → ⊥) → (c ≡ 32) ⊎ (low ≤ c) → IsFalse (eqb c mark)
other low mark c h n (inl e) = grind (arith, nat_tests)
other low mark c h n (inr e) = grind (arith, nat_tests)

without : (low mark : ℕ) (text : List ℕ) → mark < low → (mark ≡ 32 → ⊥) → Loose low text → AllByRecursion (λ c. IsFalse (eqb c mark)) text
without low mark [] h n p = tt
without low mark (c ∷ text) h n p = (other low mark c h n p.0, without low mark text h n p.1)

loose_line : (low : ℕ) (text : List ℕ) → 10 < low → Loose low text → IsLine text
loose_line low [] h p = tt
loose_line low (c ∷ text) h p = (elim p.0 [ inl e ↦ λ f. omega (arith, e, f) | inr e ↦ λ f. omega (arith, h, e, f) ], loose_line low text h p.1)

-- the bytes of numbers
digit : (c : ℕ) → is_ascii_digit c ≡ true → 45 ≤ c
digit c h = grind (arith, nat_tests)

digits_loose : (word : List ℕ) → all_ascii_digits word ≡ true → Loose 45 word
digits_loose [] h = tt
digits_loose (c ∷ word) h = let p = and_parts (is_ascii_digit c) (all_ascii_digits word) h in (inr (digit c p.0), digits_loose word p.1)

number_loose : (n : ℕ) → n ≤ 4294967295 → Loose 45 (decimal n)
number_loose n h = let small : n < 2 ^ 64 = omega arith in digits_loose (decimal n) (digits_decimal own n small)

signed_loose : (z : ℤ) → unsigned_abs z ≤ 4294967295 → Loose 45 (signed_decimal z)
signed_loose (pos n) h = number_loose n h
signed_loose (negsuc n) h = (inr (omega arith), number_loose (suc n) h)

vertex_loose : (v : LineVertex) → InRange v → Loose 45 (vertex_text v)
vertex_loose v r =
    loose_append 45 (signed_decimal v.x) (codes " " ++ signed_decimal v.y) (signed_loose v.x (near v.x r.0 r.1)) (inl refl, signed_loose v.y (near v.y r.2 r.3))

vertices_loose : (vs : List LineVertex) → AllByRecursion InRange vs → Loose 44 (vertices_text vs)
vertices_loose [] r = tt
vertices_loose (v ∷ []) r = looser 44 45 (vertex_text v) (omega arith) (vertex_loose v r.0)
vertices_loose (v ∷ next ∷ vs) r =
    loose_append 44 (vertex_text v) (codes ", " ++ vertices_text (next ∷ vs)) (looser 44 45 (vertex_text v) (omega arith) (vertex_loose v r.0))
    (inr (omega arith), (inl refl, vertices_loose (next ∷ vs) r.1))

-- the parts between commas
abbrev spaced : List LineVertex → List (List ℕ)
spaced vs = map (λ v. 32 ∷ vertex_text v) vs

commas : (v : LineVertex) (vs : List LineVertex) → AllByRecursion InRange (v ∷ vs) → parts 44 (vertices_text (v ∷ vs)) ≡ vertex_text v ∷ spaced vs
commas v [] r = slice_split_none (λ c. eqb c 44) (vertex_text v) (All-from_recursion _ (vertex_text v) (without 45 44 (vertex_text v) (omega arith) (λ e. omega arith) (vertex_loose v r.0)))
commas v (next ∷ vs) r =
    slice_split_at (λ c. eqb c 44) (vertex_text v) 44 (32 ∷ vertices_text (next ∷ vs))
    (All-from_recursion _ (vertex_text v) (without 45 44 (vertex_text v) (omega arith) (λ e. omega arith) (vertex_loose v r.0))) refl ∙
    ap (λ ps. vertex_text v ∷ onto_first 32 ps) (commas next vs r.1)

one_read : (v : LineVertex) (texts : List (List ℕ)) (vs : List LineVertex) → InRange v → vertices_in texts ≡ Some vs → vertices_in (vertex_text v ∷ texts) ≡ Some (v ∷ vs)
one_read v texts vs r e = ap (option_and_then (λ w. option_map (λ ws. w ∷ ws) (vertices_in texts))) (vertex_words v r) ∙ ap (option_map (λ ws. v ∷ ws)) e

spaced_read : (vs : List LineVertex) → AllByRecursion InRange vs → vertices_in (spaced vs) ≡ Some vs
spaced_read [] r = refl
spaced_read (v ∷ vs) r = one_read v (spaced vs) vs r.0 (spaced_read vs r.1)

module _ (v : LineVertex) (vs : List LineVertex) (r : AllByRecursion InRange (v ∷ vs)) where
  abbrev text : List ℕ
  text = vertices_text (v ∷ vs)

  ends : parts 41 (text ++ (41 ∷ [])) ≡ text ∷ ([] ∷ [])
  ends =
      slice_split_at (λ c. eqb c 41) text 41 [] (All-from_recursion _ text (without 44 41 text (omega arith) (λ e. omega arith) (vertices_loose (v ∷ vs) r))) refl

  begins : parts 40 (text ++ (41 ∷ [])) ≡ (text ++ (41 ∷ [])) ∷ []
  begins =
      let whole = loose_append 41 text (41 ∷ []) (looser 41 44 text (omega arith) (vertices_loose (v ∷ vs) r)) (inr (omega arith), tt) in
      slice_split_none (λ c. eqb c 40) (text ++ (41 ∷ [])) (All-from_recursion _ (text ++ (41 ∷ [])) (without 41 40 (text ++ (41 ∷ [])) (omega arith) (λ e. omega arith) whole))

  inside_is : inside (line_string (v ∷ vs)) ≡ Some text
  inside_is = ap (λ ps. opened (codes "LINESTRING " ∷ ps)) begins ∙ ap closed ends

  pub line_string_says : statements_in (line_string (v ∷ vs)) ≡ Ok (map Vertex (v ∷ vs))
  line_string_says =
      ap (λ o. ok_or (vertices_said (option_and_then (λ t. vertices_in (parts 44 t)) o)) LineString) inside_is ∙
      ap (λ o. ok_or (vertices_said o) LineString) (ap vertices_in (commas v vs r) ∙ one_read v (spaced vs) vs r.0 (spaced_read vs r.1))

  pub line_string_line : IsLine (line_string (v ∷ vs))
  line_string_line =
      loose_line 40 (line_string (v ∷ vs)) (omega arith)
      (loose_append 40 (codes "LINESTRING (") (text ++ (41 ∷ [])) (codes_loose 40 (codes "LINESTRING (") refl)
      (loose_append 40 text (41 ∷ []) (looser 40 44 text (omega arith) (vertices_loose (v ∷ vs) r)) (inr (omega arith), tt)))
