-- Chains that were read, and their comments. Assumes nothing.
use Rattle.std.proofs.Common.{◌≡◌, ℕ, ◌≤◌, cond, eqb, false, List, [], ◌∷◌, ◌++◌, length, take, sum, map, Ok, Err, Result, sym, refl, ap, ap₂, ◌∙◌, arith, append_assoc}
use Rattle.std.specs.List.{concat}
use Rattle.std.proofs.lemmas.List.{take_at, length-map}
use Rattle.lines.specs.Fault.{then}
use Rattle.lines.specs.declared.fault.Fault.{Fault}
use Rattle.packs.proofs.Answered.{then_ok, same_answer}
use Rattle.marker.specs.Reader.{family_in, claim_of, placed_numbers, placed_counts, ReadsWritten}
use Rattle.marker.specs.declared.reader.Claim.{Claim}
use Rattle.words.specs.Lines.{each_with}
use Rattle.writer.specs.Family.{chains_of}
use Rattle.writer.proofs.Chains.{chains_back, sum_lengths}
use Rattle.drawings.specs.Text.{total_text}
use Rattle.texts.specs.Text.{comment, chain_lines, family_lines}
use Rattle.texts.specs.Unpack.{comments_text}

pub record Read (n m : ℕ) (bs : List ℕ) (claim : Claim) (numbers counts : List ℕ) : Type 0 where
  pub chains : List (List ℕ)
  pub form : ℕ × ℕ
  pub is : family_in n m bs ≡ Ok (chains, form)
  pub total : claim.total ≡ form
  pub numbers_read : take claim.vertices numbers ≡ concat chains
  pub counts_read : take m counts ≡ map length chains

pub read : (n m : ℕ) (bs : List ℕ) (claim : Claim) (numbers before counts older : List ℕ) → Ok claim ≡ claim_of (family_in n m bs) → ReadsWritten n m bs →
    numbers ≡ placed_numbers (family_in n m bs) before → counts ≡ placed_counts (family_in n m bs) older → Read n m bs claim numbers counts
read n m bs claim numbers before counts older a exact e f =
    let p = then_ok (family_in n m bs) _ claim (sym a) in
    let w = (exact.exactly p.0.0 p.0.1).0 p.1 in
    let same = same_answer _ claim p.2 in
    record {
      chains = p.0.0;
      form = p.0.1;
      is = p.1;
      total = sym (ap (λ c. c.total) same);
      numbers_read = ap (take claim.vertices) (e ∙ ap (λ r. placed_numbers r before) p.1) ∙ take_at (concat p.0.0) _ claim.vertices (ap (λ c. c.vertices) same);
      counts_read = ap (take m) (f ∙ ap (λ r. placed_counts r older) p.1) ∙ take_at (map length p.0.0) _ m (length-map p.0.0 length ∙ w.one_each);
    }

pub each_append : (xs ys : List (List ℕ)) → each_with 10 (xs ++ ys) ≡ each_with 10 xs ++ each_with 10 ys
each_append [] ys = refl
each_append (x ∷ xs) ys = ap (λ zs. x ++ (10 ∷ zs)) (each_append xs ys) ∙ sym (append_assoc x (10 ∷ each_with 10 xs) (each_with 10 ys))

module _ (n m : ℕ) (bs : List ℕ) (claim : Claim) (numbers counts vs cs : List ℕ) (r : Read n m bs claim numbers counts) (ev : vs ≡ take claim.vertices numbers) (ec : cs ≡ take m counts) where
  pub fits : sum cs ≤ length vs
  fits = let s = ap sum (ec ∙ r.counts_read) ∙ sum_lengths r.chains in let l = ap length (ev ∙ r.numbers_read) in omega (arith, s, l)

  pub comments : (text total all : List ℕ) → text ≡ each_with 10 (chain_lines 1 (chains_of cs vs)) → total ≡ total_text claim.total →
      all ≡ text ++ (comment total ++ (10 ∷ [])) → eqb (length bs) 0 ≡ false → comments_text n m bs ≡ Ok all
  comments text total all e f g some =
      let chains = ap₂ chains_of (ec ∙ r.counts_read) (ev ∙ r.numbers_read) ∙ chains_back r.chains in
      let lines : all ≡ each_with 10 (family_lines r.chains r.form) =
      g ∙ ap₂ (λ x y. x ++ (comment y ++ (10 ∷ []))) (e ∙ ap (λ cs. each_with 10 (chain_lines 1 cs)) chains) (f ∙ ap total_text r.total) ∙
      sym (each_append (chain_lines 1 r.chains) (comment (total_text r.form) ∷ [])) in
      ap (λ b. then (cond b (Ok []) (then (family_in n m bs) (λ p. Ok (family_lines p.0 p.1)))) (λ ls. Ok (each_with 10 ls))) some ∙
      ap (λ x. then (then x (λ p. Ok (family_lines p.0 p.1))) (λ ls. Ok (each_with 10 ls))) r.is ∙ ap Ok (sym lines)

pub refused : (n m : ℕ) (bs : List ℕ) (f : Fault) → eqb (length bs) 0 ≡ false → Err f ≡ claim_of (family_in n m bs) → comments_text n m bs ≡ Err f
refused n m bs f some e =
    ap (λ b. then (cond b (Ok []) (then (family_in n m bs) (λ p. Ok (family_lines p.0 p.1)))) (λ ls. Ok (each_with 10 ls))) some ∙ through (family_in n m bs) e
  where
    through : (r : Result (List (List ℕ) × (ℕ × ℕ)) Fault) → Err f ≡ claim_of r → then (then r (λ p. Ok (family_lines p.0 p.1))) (λ ls. Ok (each_with 10 ls)) ≡ Err f
    through (Ok x) e = cc
    through (Err g) e = let h : f ≡ g = cc in ap Err (sym h)
