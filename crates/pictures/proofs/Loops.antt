-- Loops that write one item after another. Assumes nothing.
use Rattle.std.proofs.Common.{ℕ, ◌+◌, ◌<◌, List, [], length, take, get_or, sym, ap, ◌∙◌}
use Rattle.std.specs.Fmt.{HasWritten}
use Rattle.std.specs.declared.fmt.Formatter.{Formatter}
use Rattle.std.specs.List.{flat_map}
use Rattle.std.proofs.Output.{has_written_append, has_written_of_eq}
use Rattle.std.proofs.lemmas.List.{flat_map_more, take_more}

-- the items before i are written, and then the item at i
pub one_more : {W X : Type 0} (took : W → List ℕ → W → Type 0) (f g h : Formatter W) (text : X → List ℕ) (xs : List X) (i : ℕ) (d : X) → i < length xs →
    HasWritten took f (flat_map text (take i xs)) g → HasWritten took g (text (get_or xs i d)) h → HasWritten took f (flat_map text (take (i + 1) xs)) h
one_more took f g h text xs i d lt before now =
    has_written_of_eq took _ _ _ _ (flat_map_more text [] (take i xs) (get_or xs i d) ∙ ap (flat_map text) (sym (take_more xs i d lt)))
    (has_written_append took _ _ _ _ _ before now)
