use Rattle.std.proofs.Common.{◌≡◌, [], ◌++◌, drop, map, string_bytes}
use Rattle.words.specs.Lines.{each_with}
use Rattle.writer.specs.Job.{content}
use Rattle.texts.specs.Text.{level_line, vertex_line, job_text}
use Rattle.texts.proofs.text.job_text.Given as goal

abbrev pub invariant-loop-level : goal.invariant-loop-level
invariant-loop-level l =
    string_bytes l.text ++ each_with 10 (map level_line (drop l.level-index l.levels) ++ map vertex_line l.vertices) ≡ job_text (content l.fn.measure l.fn.price l.vertices l.levels)

abbrev pub invariant-loop-vertex : goal.invariant-loop-vertex
invariant-loop-vertex l =
    string_bytes l.text ++ each_with 10 (map vertex_line (drop l.vertex-index l.vertices) ++ []) ≡ job_text (content l.fn.measure l.fn.price l.vertices l.levels)
