-- The memories after a draw, from the cells that the search writes. Assumes nothing.
use Rattle.std.proofs.Common.{◌≡◌, ℕ, ◌+◌, ◌-◌, ◌*◌, ◌/◌, ◌%◌, ◌<◌, ◌≤◌, cond, List, ◌++◌, length, get_or, take, drop, is_ok, Ok, Err, Decides, Result, OnOk, OnErr, sym, refl, ap, ap₂, subst, ◌∙◌, arith}
use Rattle.std.proofs.lemmas.List.{take-append-drop, length-take-le, get_or-take}
use Rattle.std.proofs.lemmas.List.FromFn.{fill_by_all}
use Rattle.std.proofs.lemmas.Nat.{div-add-mod', div_below, mod_below}
use Rattle.families.specs.Price as prices
use Rattle.lines.specs.declared.fault.Fault.{Fault}
use Rattle.lines.specs.declared.level.Level.{Level}
use Rattle.lines.specs.declared.vertex.Vertex.{Vertex}
use Rattle.measures.specs.Measure.{allowed_by}
use Rattle.prices.specs.Price.{LinkPrice, price_by}
use Rattle.layers.specs.Pins.{over_pins}
use Rattle.search.specs.Search.{Cells, RestKept, Searchable}
use Rattle.sheets.specs.Settings.{Settings}
use Rattle.sheets.specs.Promise.{level_count}
use Rattle.sheets.specs.Memory.{memory_of, written, grade_cell, price_cell, stay_cell, drawn_over}

-- a list whose first cells are known, and whose rest is as before
written_so : {X : Type 0} (d : X) (count : ℕ) (cell : ℕ → X) (before after : List X) → count ≤ length after →
    ((y : ℕ) → y < count → get_or after y d ≡ cell y) → drop count after ≡ drop count before → after ≡ written count cell before
written_so d count cell before after room cells rest =
    sym (take-append-drop count after) ∙
    ap₂ (λ a b. a ++ b) (fill_by_all cell (take count after) count d (length-take-le count after room) (λ y h. get_or-take count after y d h ∙ cells y h)) rest

-- the place of a cell by its row and its column
place : (y n : ℕ) → y / n * n + y % n ≡ y
place y n = div-add-mod' y n

module _ {P : Type 0} (K : prices.Kind P) (link : LinkPrice P) (s : Settings) (vs : List Vertex) (size : length vs ≡ s.n) (some : 0 < s.n)
    (grades grades' : List ℕ) (costs costs' : List P) (stays stays' : List ℕ)
    (cells : Cells K (price_by link vs s.levels) (allowed_by (over_pins s.pins s.says) vs s.levels) (level_count s) s.n grades' costs' stays')
    (rest : RestKept (level_count s) s.n grades grades' costs costs' stays stays')
    (grade_room : s.n * s.n ≤ length grades') (price_room : level_count s * (s.n * s.n) ≤ length costs') (stay_room : s.n ≤ length stays') where
  graded : (y : ℕ) → y < s.n * s.n → get_or grades' y 0 ≡ grade_cell K link s vs y
  graded y h =
      subst (λ z. get_or grades' z 0 ≡ grade_cell K link s vs y) (place y s.n)
      (cells.graded (y / s.n) (y % s.n) (div_below y s.n s.n some h) (mod_below y s.n some))

  priced : (y : ℕ) → y < level_count s * (s.n * s.n) → get_or costs' y K.neutral ≡ price_cell K link s vs y
  priced y h =
      let n = s.n in
      let q = y / n in
      let below : q / n < level_count s = div_below q n (level_count s) some (div_below y n (level_count s * n) some (omega arith)) in
      let k : q / n + 1 - 1 ≡ q / n = omega arith in
      let row : q / n * n + q % n ≡ q = place q n in
      let spot : (q / n + 1 - 1) * n * n + (q % n) * n + y % n ≡ y =
      ap (λ z. z * n * n + (q % n) * n + y % n) k ∙ (omega arith) ∙ ap (λ z. z * n + y % n) row ∙ place y n in
      subst (λ z. get_or costs' z K.neutral ≡ price_cell K link s vs y) spot
      (cells.priced (q / n + 1) (q % n) (y % n) (omega arith) (omega arith) (mod_below q n some) (mod_below y n some))

  pub drawn_so : memory_of grades' costs' stays' ≡ drawn_over K link s vs (memory_of grades costs stays)
  drawn_so =
      let a = written_so 0 (s.n * s.n) (grade_cell K link s vs) grades grades' grade_room graded rest.grades_kept in
      let b = written_so K.neutral (level_count s * (s.n * s.n)) (price_cell K link s vs) costs costs' price_room priced rest.prices_kept in
      let c = written_so 0 s.n (stay_cell K link s vs) stays stays' stay_room cells.stayed rest.stays_kept in
      cc

-- the same from what the search says of its answer, its cells and the rest
module _ {P : Type 0} (K : prices.Kind P) (link : LinkPrice P) (s : Settings) (vs : List Vertex) (line : 2 ≤ length vs) (size : length vs ≡ s.n)
    (grades grades' : List ℕ) (costs costs' : List P) (stays stays' : List ℕ)
    (grade_length : length grades' ≡ length grades) (price_length : length costs' ≡ length costs) (stay_length : length stays' ≡ length stays) where
  -- what a search under these levels says of a line of n vertices
  record Searched (r : Result P Fault) (n : ℕ) (ls : List Level) : Type 0 where
    granted : Decides (is_ok r) (Searchable s.largest ls n (length grades) (length costs) (length stays))
    cells : OnOk r (Cells K (price_by link vs ls) (allowed_by (over_pins s.pins s.says) vs ls) (length ls) n grades' costs' stays')
    rest : RestKept (length ls) n grades grades' costs costs' stays stays'
    kept : OnErr r ((grades' ≡ grades) × (costs' ≡ costs) × (stays' ≡ stays))

  drawn_if : (r : Result P Fault) → Searched r s.n s.levels →
      memory_of grades' costs' stays' ≡ cond (is_ok r) (drawn_over K link s vs (memory_of grades costs stays)) (memory_of grades costs stays)
  drawn_if (Ok sum) said =
      let enough = said.granted.0 refl in
      drawn_so K link s vs size (omega (arith, line, size)) grades grades' costs costs' stays stays' said.cells said.rest
      (subst (λ z. s.n * s.n ≤ z) (sym grade_length) enough.grade_room)
      (subst (λ z. level_count s * (s.n * s.n) ≤ z) (sym price_length) enough.price_room)
      (subst (λ z. s.n ≤ z) (sym stay_length) enough.stay_room)
  drawn_if (Err f) said = let kept : (grades' ≡ grades) × (costs' ≡ costs) × (stays' ≡ stays) = said.kept in cc

  pub drawn_by : (r : Result P Fault) (ls : List Level) → ls ≡ s.levels →
      Decides (is_ok r) (Searchable s.largest ls (length vs) (length grades) (length costs) (length stays)) →
      OnOk r (Cells K (price_by link vs ls) (allowed_by (over_pins s.pins s.says) vs ls) (length ls) (length vs) grades' costs' stays') →
      RestKept (length ls) (length vs) grades grades' costs costs' stays stays' →
      OnErr r ((grades' ≡ grades) × (costs' ≡ costs) × (stays' ≡ stays)) →
      memory_of grades' costs' stays' ≡ cond (is_ok r) (drawn_over K link s vs (memory_of grades costs stays)) (memory_of grades costs stays)
  drawn_by r ls same granted cells rest kept =
      drawn_if r (subst (λ l. Searched r s.n l) same (subst (λ n. Searched r n ls) size (record { granted = granted; cells = cells; rest = rest; kept = kept })))
