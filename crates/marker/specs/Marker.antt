-- Marking a family. Assumes nothing.
use Rattle.std.specs.Prelude.{◌≡◌, ℕ, ◌^◌, ◌<◌, ◌≤◌, Bool, cond, ◌&&◌, ◌↔◌, List, length, Ok, Err, Result, ◌==◌}
use Rattle.families.specs.Price.{Kind}
use Rattle.families.specs.Family.{Family, total}
use Rattle.lines.specs.Fault.{fault, then}
use Rattle.lines.specs.Level.{LawfulLevels, judged_count, judged_levels}
use Rattle.lines.specs.declared.fault.Fault.{Fault}
use Rattle.lines.specs.declared.fault.Cause.TheVariants.{Total}
use Rattle.lines.specs.declared.fault.Layer.TheVariants.{Marker}
use Rattle.lines.specs.declared.level.Level.{Level}
use Rattle.lines.specs.declared.vertex.Vertex.{Vertex}
use Rattle.measures.specs.Measure.{Answer, allowed_by}
use Rattle.prices.specs.Price.{LinkPrice, price_by}
use Rattle.marker.specs.Records.{family_records, chains_in, structure, claimed, chain_of}
use Rattle.marker.specs.Judge.{judged_chains}

-- Two forms are equal.
abbrev pub same_form : ℕ × ℕ → ℕ × ℕ → Bool
same_form f g = f.0 == g.0 && f.1 == g.1

module _ {P : Type 0} (K : Kind P) (link : LinkPrice P) (largest : ℕ) (says : Answer) (vs : List Vertex) (ls : List Level) where
  -- The total of the chains of a family.
  abbrev pub total_of : List (List ℕ) → P
  total_of chains = total K (price_by link vs ls) (length ls) (chain_of chains)

  -- What marking answers: the number of levels, the levels one by one, the structure of the records, the chains level by level,
  -- the claimed total.
  abbrev pub marked : List ℕ → Result P Fault
  marked bs =
      then (judged_count Marker (length ls)) (λ _.
      then (judged_levels largest Marker ls) (λ _.
      then (structure (length vs) (length ls) bs) (λ stop.
      then (judged_chains (λ t i j. says vs i j t) (length vs) (chains_in (length ls) bs) ls) (λ _.
      cond (same_form (K.form (total_of (chains_in (length ls) bs))) (claimed stop bs))
      (Ok (total_of (chains_in (length ls) bs)))
      (Err (fault Total Marker 0))))))

  -- The bytes are the records of a family of the line under the measure and the levels, with its total p.
  pub record RecordsOfFamily (bs : List ℕ) (p : P) : Type 0 where
    pub chains : List (List ℕ)
    pub form : ℕ × ℕ
    -- there are 1 to 8 levels, they are lawful, and each has a chain
    pub level_count : (1 ≤ length ls) × (length ls ≤ 8)
    pub levels_lawful : LawfulLevels largest ls
    pub chain_count : length chains ≡ length ls
    -- the bytes are exactly the chains' records and the record of a form of 32 and 64 bits
    pub form_fits : (form.0 < 2 ^ 32) × (form.1 < 2 ^ 64)
    pub bytes : bs ≡ family_records chains form
    -- the chains are a family, p is its total, and the form is that of p
    pub family : Family (allowed_by says vs ls) (length ls) (length vs) (chain_of chains)
    pub totals : p ≡ total_of chains
    pub formed : form ≡ K.form p

  -- A total is answered exactly for the records of a family with that total.
  pub record MarksFamilies (bs : List ℕ) : Type 0 where
    pub exactly : (p : P) → (marked bs ≡ Ok p) ↔ RecordsOfFamily bs p
