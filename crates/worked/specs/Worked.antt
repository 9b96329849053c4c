-- The worked cases: small lines with the answers of the measures, and with their first least families. Assumes nothing.
use Rattle.std.specs.Prelude.{◌≡◌, ℕ, suc, ◌-◌, Bool, true, not, ◌&&◌, List, [], ◌∷◌, length, pos, negsuc, ◌==◌, bytes_eq}
use Rattle.std.specs.List.{list_all}
use Rattle.families.specs.Price.{Kind}
use Rattle.families.specs.Least.{L, first_least}
use Rattle.lines.specs.Vertex.{at}
use Rattle.lines.specs.Level.{level}
use Rattle.lines.specs.declared.level.Level.{Level}
use Rattle.lines.specs.declared.vertex.Vertex.{Vertex}
use Rattle.measures.specs.Measure.{Answer, allowed_by}
use Rattle.measures.specs.Segment.{segment}
use Rattle.measures.specs.Strip.{strip}
use Rattle.measures.specs.Area.{area}
use Rattle.approvals.specs.Approvals.{approval, approved}
use Rattle.layers.specs.Pins.{over_pins, without}
use Rattle.prices.specs.Price.{LinkPrice, price_by}
use Rattle.prices.specs.Count.{count_kind, count_link}
use Rattle.prices.specs.CountThenArea.{count_then_area_kind, count_then_area_link}

-- A line that turns back on itself.
abbrev pub back : List Vertex
back = at (pos 0) (pos 0) ∷ at (pos 5) (pos 0) ∷ at (pos 3) (pos 0) ∷ []

-- A line with a corner.
abbrev pub corner : List Vertex
corner = at (pos 0) (pos 0) ∷ at (pos 1) (pos 7) ∷ at (pos 8) (pos 6) ∷ []

-- A line that ends where it begins.
abbrev pub there_and_back : List Vertex
there_and_back = at (pos 0) (pos 0) ∷ at (pos 3) (pos 4) ∷ at (pos 0) (pos 0) ∷ []

-- Three corners of the square of all vertices.
abbrev pub square : List Vertex
square = at (negsuc 16383) (negsuc 16383) ∷ at (pos 16383) (negsuc 16383) ∷ at (pos 16383) (pos 16383) ∷ []

-- Seven vertices on a straight line.
abbrev pub seven : List Vertex
seven = at (pos 0) (pos 0) ∷ at (pos 1) (pos 0) ∷ at (pos 2) (pos 0) ∷ at (pos 3) (pos 0) ∷ at (pos 4) (pos 0) ∷ at (pos 5) (pos 0) ∷ at (pos 6) (pos 0) ∷ []

-- Four vertices.
abbrev pub four : List Vertex
four = at (pos 0) (pos 0) ∷ at (pos 2) (pos 1) ∷ at (pos 4) (pos 3) ∷ at (pos 6) (pos 0) ∷ []

-- Approvals of links between the seven: 1 → 5 from 1 on, 0 → 3 and 3 → 6 from 2 on.
abbrev pub seven_approved : Answer
seven_approved = approved (approval 1 5 1 ∷ approval 0 3 2 ∷ approval 3 6 2 ∷ [])

-- Approvals of links between the four: 0 → 2 and 1 → 3 from 1 on.
abbrev pub four_approved : Answer
four_approved = approved (approval 0 2 1 ∷ approval 1 3 1 ∷ [])

-- Two levels, of tolerances 1 and 2.
abbrev pub two_levels : ℕ → ℕ → List Level
two_levels fine coarse = level 1 fine ∷ level 2 coarse ∷ []

-- The chains of the levels from k on are these.
abbrev pub chains_are : (ℕ → List ℕ) → ℕ → List (List ℕ) → Bool
chains_are chain k [] = true
chains_are chain k (c ∷ cs) = bytes_eq (chain k) c && chains_are chain (suc k) cs

-- The least total has this form, and the chains of the first least family, level 1 first, are these.
abbrev pub least_is : {P : Type 0} → Kind P → LinkPrice P → Answer → List Vertex → List Level → ℕ × ℕ → List (List ℕ) → Bool
least_is K link says vs ls form chains =
    let sum = K.form (L K (price_by link vs ls) (allowed_by says vs ls) (length ls) 0 (length vs - 1)) in
    (sum.0 == form.0 && sum.1 == form.1) && chains_are (first_least K (price_by link vs ls) (allowed_by says vs ls) (length ls) (length vs)) 1 chains

-- The worked cases, each as a test that must be passed.
abbrev pub cases : List Bool
cases =
    segment back 0 2 2 ∷ not (segment back 0 2 1) ∷ strip back 0 2 0 ∷
    segment corner 0 2 5 ∷ not (segment corner 0 2 4) ∷
    segment there_and_back 0 2 5 ∷ not (segment there_and_back 0 2 4) ∷
    strip there_and_back 0 2 5 ∷ not (strip there_and_back 0 2 4) ∷ area there_and_back 0 2 0 ∷
    segment square 0 2 23170 ∷ not (segment square 0 2 23169) ∷
    least_is count_kind count_link seven_approved seven (two_levels 1 1) (6, 0) ((0 ∷ 1 ∷ 5 ∷ 6 ∷ []) ∷ (0 ∷ 1 ∷ 5 ∷ 6 ∷ []) ∷ []) ∷
    least_is count_kind count_link (over_pins (3 ∷ []) seven_approved) seven (two_levels 1 1) (8, 0) ((0 ∷ 1 ∷ 2 ∷ 3 ∷ 4 ∷ 5 ∷ 6 ∷ []) ∷ (0 ∷ 3 ∷ 6 ∷ []) ∷ []) ∷
    least_is count_kind count_link (over_pins (without 3 (3 ∷ [])) seven_approved) seven (two_levels 1 1) (6, 0) ((0 ∷ 1 ∷ 5 ∷ 6 ∷ []) ∷ (0 ∷ 1 ∷ 5 ∷ 6 ∷ []) ∷ []) ∷
    least_is count_kind count_link seven_approved seven (two_levels 1 10) (26, 0) ((0 ∷ 1 ∷ 2 ∷ 3 ∷ 4 ∷ 5 ∷ 6 ∷ []) ∷ (0 ∷ 3 ∷ 6 ∷ []) ∷ []) ∷
    least_is count_kind count_link four_approved four (level 1 1 ∷ []) (2, 0) ((0 ∷ 1 ∷ 3 ∷ []) ∷ []) ∷
    least_is count_then_area_kind count_then_area_link four_approved four (level 1 1 ∷ []) (2, 2) ((0 ∷ 2 ∷ 3 ∷ []) ∷ []) ∷ []

-- Every worked case holds.
abbrev pub AllHold : Type 0
AllHold = list_all (λ c. c) cases ≡ true
