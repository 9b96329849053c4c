-- A draw that is lent parts of the memories leaves what it would leave in the whole. Assumes nothing.
use Rattle.std.proofs.Common.{◌≡◌, ℕ, ◌*◌, ◌≤◌, Bool, true, cond, List, ◌++◌, length, take, drop, map, is_ok, Decides, Result, sym, ap, ◌∙◌}
use Rattle.std.specs.List.{range_with_len}
use Rattle.std.proofs.lemmas.List.{append_assoc, take-append-drop, drop-append-le}
use Rattle.families.specs.Price.{Kind}
use Rattle.lines.specs.declared.fault.Fault.{Fault}
use Rattle.lines.specs.declared.vertex.Vertex.{Vertex}
use Rattle.prices.specs.Price.{LinkPrice}
use Rattle.sheets.specs.Settings.{Settings}
use Rattle.sheets.specs.Promise.{level_count}
use Rattle.sheets.specs.Memory.{Memory, memory_of, written, Drawable, grade_cell, price_cell, stay_cell, drawn_over}

-- the cells are written into a part that has room for them
written_part : {X : Type 0} (count k : ℕ) (cell : ℕ → X) (before : List X) → count ≤ length (take k before) → written count cell (take k before) ++ drop k before ≡ written count cell before
written_part count k cell before room =
    append_assoc (map cell (range_with_len 0 count)) (drop count (take k before)) (drop k before) ∙
    ap (λ z. map cell (range_with_len 0 count) ++ z)
    (sym (drop-append-le count (take k before) (drop k before) room) ∙ ap (drop count) (take-append-drop k before))

module _ {P : Type 0} (K : Kind P) (link : LinkPrice P) (s : Settings) (vs : List Vertex) (grades grades' : List ℕ) (costs costs' : List P) (stays stays' : List ℕ) (g p t : ℕ) where
  abbrev part : Memory P
  part = memory_of (take g grades) (take p costs) (take t stays)

  abbrev Enough : Type 0
  Enough = Drawable s (length vs) (length (take g grades)) (length (take p costs)) (length (take t stays))

  whole : Enough → memory_of grades' costs' stays' ≡ drawn_over K link s vs part →
      memory_of (grades' ++ drop g grades) (costs' ++ drop p costs) (stays' ++ drop t stays) ≡ drawn_over K link s vs (memory_of grades costs stays)
  whole enough e =
      let room = enough.searchable in
      let a = ap (λ m. m.grades ++ drop g grades) e ∙ written_part (s.n * s.n) g (grade_cell K link s vs) grades (rw (sym enough.same_count) room.grade_room) in
      let b = ap (λ m. m.prices ++ drop p costs) e ∙ written_part (level_count s * (s.n * s.n)) p (price_cell K link s vs) costs (rw (sym enough.same_count) room.price_room) in
      let c = ap (λ m. m.stays ++ drop t stays) e ∙ written_part s.n t (stay_cell K link s vs) stays (rw (sym enough.same_count) room.stay_room) in
      cc

  pub in_part : (r : Result P Fault) → is_ok r ≡ true → Decides (is_ok r) Enough → memory_of grades' costs' stays' ≡ cond (is_ok r) (drawn_over K link s vs part) part →
      (b : Bool) → b ≡ true →
      memory_of (grades' ++ drop g grades) (costs' ++ drop p costs) (stays' ++ drop t stays) ≡
      cond b (drawn_over K link s vs (memory_of grades costs stays)) (memory_of grades costs stays)
  in_part r ok d e b told =
      whole (d.0 ok) (e ∙ ap (λ z. cond z (drawn_over K link s vs part) part) ok) ∙
      sym (ap (λ z. cond z (drawn_over K link s vs (memory_of grades costs stays)) (memory_of grades costs stays)) told)
