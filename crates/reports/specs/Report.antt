-- Reports of family packs. Assumes nothing.
use Rattle.std.specs.Prelude.{◌≡◌, ℕ, List, Ok, Err, Result, vec_items}
use Rattle.marker.specs.Pack.{measure_says, pack_marked, ValidPack}
use Rattle.drawings.specs.declared.drawing.DrawError.{DrawError}
use Rattle.drawings.specs.declared.drawing.DrawError.TheVariants.{Refused, OutOfMemory}
use Rattle.reports.specs.Row.{TellsPriced}
use Rattle.reports.specs.declared.report.Report.{Report}

-- The bytes are a valid family pack with the report's total, and the rows tell of its chains.
pub record Reported (bs : List ℕ) (r : Report) : Type 0 where
  pub valid : ValidPack bs r.total
  pub told : TellsPriced valid.job.price (measure_says valid.job.measure) valid.job.vertices valid.job.levels valid.chains (vec_items r.rows)

-- What is answered for the bytes of a family pack: its report, or exactly the marker's fault, or that memory ran out.
abbrev pub Reports : List ℕ → Result Report DrawError → Type 0
Reports bs (Ok r) = Reported bs r
Reports bs (Err (Refused f)) = pack_marked bs ≡ Err f
Reports bs (Err OutOfMemory) = Unit {0}
