-- A sheet opens exactly with lawful settings. Assumes nothing.
use Rattle.std.proofs.Common.{◌≡◌, ℕ, ◌≤◌, List, length, Ok, ap, ◌∙◌, arith}
use Rattle.std.proofs.lemmas.Bool.{cond-true, and_from, le-leb}
use Rattle.lines.specs.Fault.{then}
use Rattle.lines.specs.Line.{judged_size}
use Rattle.lines.specs.Level.{LawfulLevels, judged_count, judged_levels}
use Rattle.lines.specs.declared.fault.Layer.TheVariants.{Sheet}
use Rattle.lines.specs.declared.level.Level.{Level}
use Rattle.lines.proofs.Levels.{complete}
use Rattle.measures.specs.Measure.{Answer}
use Rattle.sheets.specs.Settings.{opened, open_answer, LawfulSettings}

pub opens : (n : ℕ) (ls : List Level) (largest : ℕ) → (2 ≤ n) × (n ≤ 256) → (1 ≤ length ls) × (length ls ≤ 8) → LawfulLevels largest ls → open_answer n ls largest ≡ Ok tt
opens n ls largest size count lawful =
    let a : judged_size Sheet n ≡ Ok tt = cond-true _ _ _ (and_from _ _ (le-leb 2 n size.0) (le-leb n 256 size.1)) in
    let b : judged_count Sheet (length ls) ≡ Ok tt = cond-true _ _ _ (and_from _ _ (le-leb 1 (length ls) count.0) (le-leb (length ls) 8 count.1)) in
    ap (λ r. then r (λ _. then (judged_count Sheet (length ls)) (λ _. judged_levels largest Sheet ls))) a ∙
    ap (λ r. then r (λ _. judged_levels largest Sheet ls)) b ∙
    complete largest Sheet 1 0 ls (λ _. omega arith) lawful

pub opens_lawful : (n : ℕ) (ls : List Level) (largest : ℕ) (says : Answer) → LawfulSettings (opened n ls largest says) → open_answer n ls largest ≡ Ok tt
opens_lawful n ls largest says l = opens n ls largest l.vertex_count l.level_count l.levels_lawful
