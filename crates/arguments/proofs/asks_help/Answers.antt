use Rattle.std.proofs.Common.{◌≡◌, Bool, List, [], ◌∷◌, map, string_bytes, bytes_eq, refl, sym, ap, ◌∙◌, rules, tests}
use Rattle.std.specs.Prelude.{◌||◌, codes}
use Rattle.std.specs.List.{list_any}
use Rattle.std.proofs.lemmas.Iterator.{YieldsList-from_slice}
use Rattle.std.proofs.lemmas.Iterator.Search.{any_from_yields_List}
use Rattle.arguments.proofs.asks_help.Goals as goal

list_any-map : {X Y : Type 0} (p : Y → Bool) (f : X → Y) (xs : List X) → list_any p (map f xs) ≡ list_any (λ x. p (f x)) xs
list_any-map p f [] = refl
list_any-map p f (x ∷ xs) = ap (λ b. p (f x) || b) (list_any-map p f xs)

pub returns : goal.returns
returns c =
    let words = c.args.words.now in
    any_from_yields_List (λ word. bytes_eq (string_bytes word) (codes "--help")) _ _ c.any.result c.any.ensures.ran (YieldsList-from_slice words cc) (λ x b q k. search (rules, tests)) ∙
    sym (list_any-map (λ word. bytes_eq word (codes "--help")) string_bytes words)
