use Rattle.std.proofs.Common.{◌≡◌, ◌≤◌, ◌+◌, ◌++◌, length, drop, sum, string_bytes}
use Rattle.words.specs.Lines.{each_with}
use Rattle.writer.specs.Family.{chains_of}
use Rattle.texts.specs.Text.{chain_lines}
use Rattle.texts.proofs.text.chain_lines.Given as goal

abbrev pub invariant-loop-i : goal.invariant-loop-i
invariant-loop-i l = record {
  room : sum (drop l.i l.counts) ≤ length l.rest;
  printed : string_bytes l.text ++ each_with 10 (chain_lines (l.i + 1) (chains_of (drop l.i l.counts) l.rest)) ≡ each_with 10 (chain_lines 1 (chains_of l.counts l.numbers));
}
