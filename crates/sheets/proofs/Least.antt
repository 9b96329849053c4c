-- What a draw tells by its definition is least by the settings. Assumes nothing.
use Rattle.std.proofs.Common.{◌≡◌, ℕ, ◌-◌, ◌<◌, true, false, List, length, get_or, map, is_ok, Ok, Err, Result, sym, refl, ap, subst, ◌∙◌, arith}
use Rattle.std.specs.List.{range_with_len}
use Rattle.std.proofs.lemmas.List.FromFn.{get_or-map-range_with_len}
use Rattle.std.proofs.lemmas.Bool.{eqb-true}
use Rattle.families.specs.Price as prices
use Rattle.families.specs.Pin.{Inner}
use Rattle.families.specs.Least.{L, first_least}
use Rattle.families.specs.Stay.{stay}
use Rattle.lines.specs.Fault.{then}
use Rattle.lines.specs.Line.{Lawful, judged_line}
use Rattle.lines.specs.declared.fault.Fault.{Fault}
use Rattle.lines.specs.declared.vertex.Vertex.{Vertex}
use Rattle.lines.proofs.Levels.{passed}
use Rattle.lines.proofs.Lines.{judged_line_means}
use Rattle.measures.specs.Measure.{Rules}
use Rattle.prices.specs.Price.{LinkPrice, price_by}
use Rattle.layers.specs.Pins.{over_pins}
use Rattle.layers.specs.Layered.{over_pins_rules}
use Rattle.search.proofs.Found.{least_so}
use Rattle.search.specs.declared.room.Room.{Room}
use Rattle.sheets.specs.Settings.{Settings, LawfulSettings}
use Rattle.sheets.specs.Promise.{level_count, unpinned, LeastEligible}
use Rattle.sheets.specs.Memory.{draw_answer, least_total, stay_cell}
use Rattle.sheets.specs.Call.{Answer, drawing, drawing_told}
use Rattle.sheets.specs.declared.call.Drawn.{Drawn}
use Rattle.sheets.specs.declared.call.Outcome.TheVariants.{Done, Drew}
use Rattle.sheets.proofs.Eligible.{least_by}

-- what an answer tells of a draw
abbrev drew_or : {P : Type 0} → Drawn P → Answer P → Drawn P
drew_or d (Ok Done) = d
drew_or d (Ok (Drew e)) = e
drew_or d (Err f) = d

-- both judgements are passed, and what is told is what the draw tells
both_passed : {P : Type 0} (a b : Result (Unit {0}) Fault) (x d : Drawn P) → ◌≡◌ {A = Answer P} (then a (λ _. then b (λ _. Ok (Drew x)))) (Ok (Drew d)) → (is_ok a ≡ true) × (is_ok b ≡ true) × (x ≡ d)
both_passed (Ok _) (Ok _) x d e = (refl, refl, ap (drew_or d) e)
both_passed (Ok _) (Err f) x d e = let h : false ≡ true = ap is_ok e in (refl, h, cc)
both_passed (Err f) b x d e = let h : false ≡ true = ap is_ok e in (h, cc, cc)

module _ {P : Type 0} (K : prices.Kind P) (link : LinkPrice P) (law : prices.Rules K) (s : Settings) (lawful : LawfulSettings s) (measure : Rules s.largest s.says) where
  module _ (vs : List Vertex) (line : Lawful vs) (size : length vs ≡ s.n) where
    stayed : (v : ℕ) → v < length vs → get_or (map (stay_cell K link s vs) (range_with_len 0 s.n)) v 0 ≡ stay (first_least K (price_by link vs s.levels) (unpinned s vs) (level_count s) (length vs)) (level_count s) v
    stayed v h =
        get_or-map-range_with_len (stay_cell K link s vs) 0 s.n v v 0 (subst (λ n. v < n) size h) (omega arith) ∙
        ap (λ n. stay (first_least K (price_by link vs s.levels) (unpinned s vs) (level_count s) n) (level_count s) v) (sym size)

    least_drawing : LeastEligible K link s vs (drawing K link s vs).stays.items (least_total K link s vs)
    least_drawing =
        least_by K link s vs (subst (λ n. Inner n s.pins) (sym size) lawful.pins_lawful.inner) s.levels refl _ _
        (least_so K (price_by link vs s.levels) s.largest (over_pins s.pins s.says) (over_pins_rules s.pins measure) vs line s.levels lawful.levels_lawful law _ _ stayed
        (ap (λ n. L K (price_by link vs s.levels) (unpinned s vs) (level_count s) 0 (n - 1)) (sym size)))

  -- a draw that is not refused
  pub drew_least : (room : Room) (vs : List Vertex) (d : Drawn P) → drawing_told K link s room vs ≡ Ok (Drew d) → Lawful vs × LeastEligible K link s vs d.stays.items d.total
  drew_least room vs d e =
      let p = both_passed (judged_line vs) (draw_answer s (length vs) room.grades room.prices room.stays) (drawing K link s vs) d e in
      let line = (judged_line_means vs).0 p.0 in
      let size = eqb-true (length vs) s.n (passed _ _ _ p.1).0 in
      (line, subst (λ (x : Drawn P). LeastEligible K link s vs x.stays.items x.total) p.2 (least_drawing vs line size))
