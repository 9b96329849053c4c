use Rattle.std.proofs.Common.{◌≡◌, Ok, map, drop}
use Rattle.std.specs.Prelude.{string_bytes}
use Rattle.pictures.specs.Options.{from, options_in}
use Rattle.pictures.proofs.options.read_options.Given as goal

abbrev pub invariant-loop-word : goal.invariant-loop-word
invariant-loop-word l = options_in (map string_bytes l.words) ≡ from (Ok l.draft) (map string_bytes (drop l.word-index l.words))
