-- What a draw answers by lawful settings, from the answer of the search. Assumes nothing.
use Rattle.std.proofs.Common.{◌≡◌, ℕ, ◌-◌, ◌≤◌, eqb, List, length, Ok, Result, sym, ap, subst, cond, Err, ◌∙◌, arith}
use Rattle.std.proofs.lemmas.Bool.{cond-true, and_from, le-leb, eq-eqb}
use Rattle.families.specs.Price as prices
use Rattle.families.specs.Least.{L}
use Rattle.lines.specs.Fault.{fault, then}
use Rattle.lines.specs.Level.{LawfulLevels, judged_count, judged_levels}
use Rattle.lines.specs.declared.fault.Fault.{Fault}
use Rattle.lines.specs.declared.fault.Cause.TheVariants.{OtherCount}
use Rattle.lines.specs.declared.fault.Layer.TheVariants.{Sheet}
use Rattle.lines.specs.declared.level.Level.{Level}
use Rattle.lines.specs.declared.vertex.Vertex.{Vertex}
use Rattle.lines.proofs.Levels.{complete}
use Rattle.measures.specs.Measure.{allowed_by}
use Rattle.prices.specs.Price.{LinkPrice, price_by}
use Rattle.layers.specs.Pins.{over_pins}
use Rattle.search.specs.Search.{judged_memory, judged_search}
use Rattle.sheets.specs.Settings.{Settings, LawfulSettings}
use Rattle.sheets.specs.Memory.{draw_answer, draw_judged, least_total}

-- by lawful levels only the memory is left to judge
memory_left : (largest : ℕ) (ls : List Level) (n grades prices stays : ℕ) → (1 ≤ length ls) × (length ls ≤ 8) → LawfulLevels largest ls →
    judged_search largest ls n grades prices stays ≡ judged_memory (length ls) n grades prices stays
memory_left largest ls n grades prices stays count lawful =
    let a : judged_count Sheet (length ls) ≡ Ok tt = cond-true _ _ _ (and_from _ _ (le-leb 1 (length ls) count.0) (le-leb (length ls) 8 count.1)) in
    let b : judged_levels largest Sheet ls ≡ Ok tt = complete largest Sheet 1 0 ls (λ _. omega arith) lawful in
    ap (λ r. then r (λ _. then (judged_levels largest Sheet ls) (λ _. judged_memory (length ls) n grades prices stays))) a ∙
    ap (λ r. then r (λ _. judged_memory (length ls) n grades prices stays)) b

module _ {P : Type 0} (K : prices.Kind P) (link : LinkPrice P) (s : Settings) (vs : List Vertex) (grades costs stays : ℕ) where
  abbrev found : ℕ → List Level → P
  found n ls = L K (price_by link vs ls) (allowed_by (over_pins s.pins s.says) vs ls) (length ls) 0 (n - 1)

  abbrev Searched : Result P Fault → ℕ → List Level → Type 0
  Searched r n ls = r ≡ then (judged_search s.largest ls n grades costs stays) (λ _. Ok (found n ls))

  -- from the answer of the search
  pub answered : (r : Result P Fault) (ls : List Level) → ls ≡ s.levels → Searched r (length vs) ls → length vs ≡ s.n →
      r ≡ then (draw_judged s (length vs) grades costs stays) (λ _. Ok (least_total K link s vs))
  answered r ls same e size =
      subst (Searched r s.n) same (subst (λ n. Searched r n ls) size e) ∙
      ap (λ x. then x (λ _. Ok (least_total K link s vs))) (sym (cond-true (eqb (length vs) s.n) _ _ (eq-eqb (length vs) s.n size)))

  -- by lawful settings
  pub by_settings : (r : Result P Fault) → r ≡ then (draw_judged s (length vs) grades costs stays) (λ _. Ok (least_total K link s vs)) →
      LawfulSettings s → r ≡ then (draw_answer s (length vs) grades costs stays) (λ _. Ok (least_total K link s vs))
  by_settings r e lawful =
      e ∙
      ap (λ x. then (cond (eqb (length vs) s.n) x (Err (fault OtherCount Sheet (length vs)))) (λ _. Ok (least_total K link s vs)))
      (memory_left s.largest s.levels s.n grades costs stays lawful.level_count lawful.levels_lawful)
