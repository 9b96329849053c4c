-- The settings of a sheet: what a clerk would note of its calls and their arguments alone. Assumes nothing.
use Rattle.std.specs.Prelude.{ℕ, ◌≤◌, cond, List, [], ◌∷◌, ◌++◌, length, Result, is_ok}
use Rattle.lines.specs.Fault.{then}
use Rattle.lines.specs.Line.{judged_size}
use Rattle.lines.specs.Level.{LawfulLevels, judged_count, judged_levels}
use Rattle.lines.specs.declared.fault.Fault.{Fault}
use Rattle.lines.specs.declared.fault.Layer.TheVariants.{Sheet}
use Rattle.lines.specs.declared.level.Level.{Level}
use Rattle.measures.specs.Measure.{Answer}
use Rattle.layers.specs.Pins.{pin_answer, release_answer, without, LawfulPins}
use Rattle.sheets.specs.Levels.{retune_answer, retuned}

-- The number of vertices and the levels; the largest tolerance of the measure, and what it says; the pins, in the order of pinning.
-- The kind of price is a type, and stands beside the settings.
pub record Settings : Type 0 where
  pub n : ℕ
  pub levels : List Level
  pub largest : ℕ
  pub says : Answer
  pub pins : List ℕ

-- The settings of a sheet that was just opened: no pins yet.
abbrev pub opened : ℕ → List Level → ℕ → Answer → Settings
opened n ls largest says = record { n = n; levels = ls; largest = largest; says = says; pins = [] }

-- What opening answers: the number of vertices is judged, then that of the levels, then the levels one by one.
abbrev pub open_answer : ℕ → List Level → ℕ → Result (Unit {0}) Fault
open_answer n ls largest =
    then (judged_size Sheet n) (λ _. then (judged_count Sheet (length ls)) (λ _. judged_levels largest Sheet ls))

-- The settings with other pins, and with other levels.
abbrev pub with_pins : Settings → List ℕ → Settings
with_pins s pins = record { n = s.n; levels = s.levels; largest = s.largest; says = s.says; pins = pins }

abbrev pub with_levels : Settings → List Level → Settings
with_levels s ls = record { n = s.n; levels = ls; largest = s.largest; says = s.says; pins = s.pins }

-- What pinning v answers by the settings, and the settings after it.
abbrev pub pin_told : Settings → ℕ → Result (Unit {0}) Fault
pin_told s v = pin_answer Sheet s.n s.pins v

abbrev pub after_pin : Settings → ℕ → Settings
after_pin s v = cond (is_ok (pin_told s v)) (with_pins s (s.pins ++ (v ∷ []))) s

-- What releasing v answers by the settings, and the settings after it.
abbrev pub release_told : Settings → ℕ → Result (Unit {0}) Fault
release_told s v = release_answer Sheet s.n s.pins v

abbrev pub after_release : Settings → ℕ → Settings
after_release s v = cond (is_ok (release_told s v)) (with_pins s (without v s.pins)) s

-- What retuning level k to t answers by the settings, and the settings after it.
abbrev pub retune_told : Settings → ℕ → ℕ → Result (Unit {0}) Fault
retune_told s k t = retune_answer s.largest s.levels k t

abbrev pub after_retune : Settings → ℕ → ℕ → Settings
after_retune s k t = cond (is_ok (retune_told s k t)) (with_levels s (retuned s.levels k t)) s

-- Settings that opening promises and every call keeps.
pub record LawfulSettings (s : Settings) : Type 0 where
  pub vertex_count : (2 ≤ s.n) × (s.n ≤ 256)
  pub level_count : (1 ≤ length s.levels) × (length s.levels ≤ 8)
  pub levels_lawful : LawfulLevels s.largest s.levels
  pub pins_lawful : LawfulPins s.n s.pins
