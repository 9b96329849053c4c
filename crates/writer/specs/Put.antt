-- The records of a job. Assumes nothing.
use Rattle.std.specs.Prelude.{ℕ, List, [], ◌∷◌, ◌++◌}
use Rattle.std.specs.List.{flat_map}
use Rattle.lines.specs.declared.level.Level.{Level}
use Rattle.lines.specs.declared.vertex.Vertex.{Vertex}
use Rattle.packs.specs.Record.{a_record}
use Rattle.packs.specs.Job.{vertex_bytes, level_bytes}

-- The records of a job with these numbers of a measure and a price.
abbrev pub job_records : ℕ → ℕ → List Vertex → List Level → List ℕ
job_records measure price vs ls = a_record 1 (measure ∷ (price ∷ [])) ++ (a_record 2 (flat_map vertex_bytes vs) ++ a_record 3 (flat_map level_bytes ls))
