use Rattle.std.proofs.Common.{◌≡◌, ◌+◌, map, drop}
use Rattle.words.specs.Lines.{lines_of}
use Rattle.edits.specs.Script.{ordered_from, script_in}
use Rattle.edits.proofs.Scripts.{onto}
use Rattle.edits.proofs.script.read_script.Given as goal

abbrev pub invariant-loop-i : goal.invariant-loop-i
invariant-loop-i l = record {
  lines : map (λ w. w.now) l.line-items ≡ lines_of l.fn.text;
  ordered : script_in l.fn.text ≡ onto l.edits.items (ordered_from (l.i + 1) (map (λ w. w.now) (drop l.i l.line-items)));
}
