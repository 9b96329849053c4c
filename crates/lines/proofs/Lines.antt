-- Judging vertices accepts exactly lawful lines, and names the lowest bad one. Assumes nothing.
use Rattle.std.proofs.Common.{◌≡◌, ℕ, ◌+◌, true, ◌&&◌, leb, List, [], ◌∷◌, length, ℤ, pos, negsuc, ◌≤ℤ◌, is_ok, Ok, Decides, refl, ap, ◌∙◌, arith}
use lib.Signed.{le_z}
use Rattle.std.proofs.lemmas.Int.{ints}
use Rattle.std.specs.List.{AllByRecursion}
use Rattle.std.proofs.ByRecursion.{All-get_or, All-from_get_or}
use Rattle.std.proofs.lemmas.Bool.{cond-true, and_parts, leb-true}
use Rattle.std.proofs.lemmas.Bool.Decides.{nat_tests, Decides-and}
use Rattle.lines.specs.declared.vertex.Vertex.{Vertex}
use Rattle.lines.specs.declared.fault.Layer.TheVariants.{Content}
use Rattle.lines.specs.Fault.{then}
use Rattle.lines.specs.Vertex.{origin, InRange, in_range}
use Rattle.lines.specs.Line.{Counted, Lawful, ranged_from, judged_size, judged_line}
use Rattle.lines.proofs.Levels.{passed, both_granted}

pub counted : (vs : List Vertex) → Counted vs → judged_line vs ≡ ranged_from 0 vs
counted vs c =
    let b : (leb 2 (length vs) && leb (length vs) 256) ≡ true = grind (arith, nat_tests) in
    ap (λ r. then r (λ _. ranged_from 0 vs)) (cond-true _ _ _ b)

-- a test of order, and the order
decides_le_z : (a b : ℤ) → Decides (le_z a b) (a ≤ℤ b)
decides_le_z a b = (λ e. grind (arith, ints), λ h. grind (arith, ints))

pub in_range_means : (v : Vertex) → Decides (in_range v) (InRange v)
in_range_means v =
    let d = Decides-and _ _ (decides_le_z (negsuc 16383) v.x) (Decides-and _ _ (decides_le_z v.x (pos 16383)) (Decides-and _ _ (decides_le_z (negsuc 16383) v.y) (decides_le_z v.y (pos 16383)))) in
    (λ e. let p = d.0 e in (p.0, p.1.0, p.1.1.0, p.1.1.1), λ h. d.1 (h.0, (h.1, (h.2, h.3))))

ranged_sound : (i : ℕ) (vs : List Vertex) → is_ok (ranged_from i vs) ≡ true → AllByRecursion InRange vs
ranged_sound i [] h = tt
ranged_sound i (v ∷ vs) h = let p = passed _ _ _ h in ((in_range_means v).0 p.0, ranged_sound (i + 1) vs p.1)

ranged_complete : (i : ℕ) (vs : List Vertex) → AllByRecursion InRange vs → ranged_from i vs ≡ Ok tt
ranged_complete i [] a = refl
ranged_complete i (v ∷ vs) a = cond-true _ _ _ ((in_range_means v).1 a.0) ∙ ranged_complete (i + 1) vs a.1

-- a lawful line is judged so
pub lawful_judged : (vs : List Vertex) → Lawful vs → judged_line vs ≡ Ok tt
lawful_judged vs l = counted vs l.0 ∙ ranged_complete 0 vs (All-from_get_or InRange vs origin l.1)

-- vertices are judged to be a line exactly when they are a lawful one
pub judged_line_means : (vs : List Vertex) → Decides (is_ok (judged_line vs)) (Lawful vs)
judged_line_means vs = (sound, λ l. rw (lawful_judged vs l) refl)
  where
    sound : is_ok (judged_line vs) ≡ true → Lawful vs
    sound h =
        let p = both_granted (judged_size Content (length vs)) (λ _. ranged_from 0 vs) h in
        let c = and_parts _ _ (passed _ _ _ p.0).0 in
        ((leb-true _ _ c.0, leb-true _ _ c.1), λ i l. All-get_or InRange vs i origin l (ranged_sound 0 vs p.1))
