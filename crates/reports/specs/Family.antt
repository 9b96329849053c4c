-- A family whose chains stand end to end. Assumes nothing.
use Rattle.std.specs.Prelude.{◌≡◌, ℕ, ◌≤◌, List, length, sum}
use Rattle.families.specs.Family.{Family}
use Rattle.lines.specs.Level.{LawfulLevels}
use Rattle.lines.specs.declared.level.Level.{Level}
use Rattle.lines.specs.declared.vertex.Vertex.{Vertex}
use Rattle.measures.specs.Measure.{Answer, allowed_by}
use Rattle.marker.specs.Records.{chain_of}
use Rattle.writer.specs.Family.{chains_of}

-- The numbers are the chains of a family end to end, one for each level, and the counts tell how many vertices each has.
pub record EndToEnd (largest : ℕ) (says : Answer) (vs : List Vertex) (ls : List Level) (counts numbers : List ℕ) : Type 0 where
  pub levels_lawful : LawfulLevels largest ls
  pub one_each : length counts ≡ length ls
  pub inside : sum counts ≤ length numbers
  pub family : Family (allowed_by says vs ls) (length ls) (length vs) (chain_of (chains_of counts numbers))
