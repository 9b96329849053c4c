use Rattle.std.proofs.Common.{take, ◌++◌, codes, decimal}
use Rattle.std.specs.Fmt.{HasWritten, IsPlainFormatter}
use Rattle.std.specs.List.{flat_map}
use Rattle.drawings.specs.Text.{vertex_text}
use Rattle.drawings.proofs.text.LevelChainDisplay.fmt.Given as goal

abbrev pub invariant-loop-v : goal.invariant-loop-v
invariant-loop-v g l =
    IsPlainFormatter l.fn.f → HasWritten g.W.Write.write_str_gives l.fn.f
    (codes "level " ++ (decimal l.self.level ++ (codes " links " ++ (decimal l.links ++ (codes ":" ++ flat_map vertex_text (take l.v-index l.v-items)))))) l.f
