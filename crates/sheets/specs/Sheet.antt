-- The settings that a sheet holds. Assumes nothing.
use Rattle.std.specs.Prelude.{ℕ}
use Rattle.measures.specs.Measure.{Answer}
use Rattle.sheets.specs.Settings.{Settings}
use Rattle.sheets.specs.declared.sheet.Sheet.{Sheet}

-- The settings of a sheet over a measure whose largest tolerance and whose meaning are given.
abbrev pub settings_of : {M P : Type 0} → ℕ → (M → Answer) → Sheet M P → Settings
settings_of largest says sheet = record {
  n = sheet.pins.count;
  levels = sheet.levels.records.items;
  largest = largest;
  says = says sheet.pins.below;
  pins = sheet.pins.pins.items;
}
