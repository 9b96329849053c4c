-- Links: tests that stay passed, prices joined from the end, and links found one by one. Assumes nothing.
use Rattle.std.proofs.Common.{◌≡◌, ℕ, ◌+◌, ◌<◌, ◌≤◌, T, Bool, true, false, ◌&&◌, List, [], ◌∷◌, ◌++◌, length, get_or, drop, reverse, sym, refl, ap, ◌∙◌, arith, add-one}
use Rattle.std.specs.List.{fold}
use Rattle.std.proofs.Math.Seq.{drop-cons}
use Rattle.std.proofs.lemmas.List.{append_assoc, reverse-append}
use Rattle.std.proofs.lemmas.Bool.{and_parts, and_from}
use Rattle.lines.specs.Line.{Lawful}
use Rattle.lines.specs.declared.vertex.Vertex.{Vertex}
use Rattle.families.specs.Price.{Kind}
use Rattle.families.specs.Chain.{links_from}
use Rattle.families.specs.Family.{cost}
use Rattle.measures.specs.Measure.{Answer, Rules}
use Rattle.reports.specs.Link.{allows_all}

-- a test that is passed is true
pub from_T : (b : Bool) → T b → b ≡ true
from_T true h = refl
from_T false h = absurd h

-- what is allowed at s and at the top is allowed between them
pub stays : (largest : ℕ) (says : Answer) → Rules largest says → (vs : List Vertex) → Lawful vs → (ls : List (ℕ × ℕ)) (s t top : ℕ) → s ≤ t → t ≤ top →
    allows_all says vs ls s ≡ true → allows_all says vs ls top ≡ true → allows_all says vs ls t ≡ true
stays largest says rules vs lawful [] s t top a b h k = refl
stays largest says rules vs lawful (l ∷ ls) s t top a b h k =
    let p = and_parts _ _ h in
    let q = and_parts _ _ k in
    let within = (rules.links_only vs l.0 l.1 top lawful q.0).2 in
    and_from _ _ (rules.stays_allowed vs l.0 l.1 s t lawful a (omega arith) p.0) (stays largest says rules vs lawful ls s t top a b p.1 q.1)

-- one link more
pub one_more : (found : List (ℕ × ℕ)) (start v i : ℕ) (rest : List ℕ) (all : List (ℕ × ℕ)) → i < length rest → v ≡ get_or rest i 0 →
    found ++ links_from start (drop i rest) ≡ all → (found ++ ((start, v) ∷ [])) ++ links_from v (drop (i + 1) rest) ≡ all
one_more found start v i rest all h e a =
    let d : drop i rest ≡ v ∷ drop (i + 1) rest = rw (e, add-one) (drop-cons rest i 0 h) in
    append_assoc found ((start, v) ∷ []) (links_from v (drop (i + 1) rest)) ∙ ap (λ xs. found ++ links_from start xs) (sym d) ∙ a

module _ {P : Type 0} (K : Kind P) (price : ℕ → ℕ → ℕ → P) (k : ℕ) where
  abbrev pub joined : P → ℕ × ℕ → P
  joined sum l = K.join (price k l.0 l.1) sum

  fold_append : (a : P) (xs ys : List (ℕ × ℕ)) → fold joined a (xs ++ ys) ≡ fold joined (fold joined a xs) ys
  fold_append a [] ys = refl
  fold_append a (x ∷ xs) ys = fold_append (joined a x) xs ys

  -- joined from the end
  pub cost_back : (ls : List (ℕ × ℕ)) → fold joined K.neutral (reverse ls) ≡ cost K price k ls
  cost_back [] = refl
  cost_back (l ∷ ls) = ap (fold joined K.neutral) (reverse-append (l ∷ []) ls) ∙ fold_append K.neutral (reverse ls) (l ∷ []) ∙ ap (λ sum. joined sum l) (cost_back ls)

-- one link alone is allowed when it is
pub alone_allowed : (b : Bool) → T (b && true) → T b
alone_allowed true h = h
alone_allowed false h = h

pub allowed_alone : (b : Bool) → T b → T (b && true)
allowed_alone true h = h
allowed_alone false h = h

pub allowed_both : (a b : Bool) → T a → T b → T (a && b)
allowed_both true b g h = h
allowed_both false b g h = g
