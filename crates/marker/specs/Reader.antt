-- Reading the chains of a family, unjudged. Assumes nothing.
use Rattle.std.specs.Prelude.{◌≡◌, ℕ, ◌^◌, ◌<◌, ◌≤◌, map, ◌↔◌, All, List, ◌++◌, length, drop, Ok, Err, Result}
use Rattle.std.specs.List.{concat}
use Rattle.lines.specs.Fault.{then}
use Rattle.lines.specs.Line.{judged_size}
use Rattle.lines.specs.Level.{judged_count}
use Rattle.lines.specs.declared.fault.Fault.{Fault}
use Rattle.lines.specs.declared.fault.Layer.TheVariants.{Pack}
use Rattle.marker.specs.Records.{family_records, chains_in, structure, claimed}
use Rattle.marker.specs.declared.reader.Claim.{Claim}

-- What reading gives: the chains and the claimed form. The number of vertices is judged first, then that of levels, then the structure of the records.
abbrev pub family_in : ℕ → ℕ → List ℕ → Result (List (List ℕ) × (ℕ × ℕ)) Fault
family_in n m bs =
    then (judged_size Pack n) (λ _.
    then (judged_count Pack m) (λ _.
    then (structure n m bs) (λ stop.
    Ok (chains_in m bs, claimed stop bs))))

-- A chain that a record holds: 2 to n numbers of 16 bits.
abbrev pub ChainFits : ℕ → List ℕ → Type 0
ChainFits n chain = (2 ≤ length chain) × (length chain ≤ n) × All (λ v. v < 2 ^ 16) chain

-- A form that a record holds: 32 and 64 bits.
abbrev pub FormFits : ℕ × ℕ → Type 0
FormFits form = (form.0 < 2 ^ 32) × (form.1 < 2 ^ 64)

-- The bytes are the records of these chains and this form, for a line of n vertices and m levels.
pub record Written (n m : ℕ) (bs : List ℕ) (chains : List (List ℕ)) (form : ℕ × ℕ) : Type 0 where
  pub size : (2 ≤ n) × (n ≤ 256)
  pub count : (1 ≤ m) × (m ≤ 8)
  pub one_each : length chains ≡ m
  pub chains_fit : All (ChainFits n) chains
  pub form_fits : FormFits form
  pub bytes : bs ≡ family_records chains form

-- Chains and a form are read exactly from their records.
pub record ReadsWritten (n m : ℕ) (bs : List ℕ) : Type 0 where
  pub exactly : (chains : List (List ℕ)) (form : ℕ × ℕ) → (family_in n m bs ≡ Ok (chains, form)) ↔ Written n m bs chains form

-- What the reader answers: how many vertices the chains have, and the claimed form.
abbrev pub claim_of : Result (List (List ℕ) × (ℕ × ℕ)) Fault → Result Claim Fault
claim_of r = then r (λ f. Ok (record { vertices = length (concat f.0); total = f.1 }))

-- The numbers of a place after reading: the chains end to end stand in front, the rest is as before; a refusal leaves all.
abbrev pub placed_numbers : Result (List (List ℕ) × (ℕ × ℕ)) Fault → List ℕ → List ℕ
placed_numbers (Ok f) before = concat f.0 ++ drop (length (concat f.0)) before
placed_numbers (Err e) before = before

-- The counts of a place after reading, likewise: how many vertices each chain has.
abbrev pub placed_counts : Result (List (List ℕ) × (ℕ × ℕ)) Fault → List ℕ → List ℕ
placed_counts (Ok f) before = map length f.0 ++ drop (length f.0) before
placed_counts (Err e) before = before
