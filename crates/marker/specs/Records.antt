-- The chain and total records of a family pack. Assumes nothing.
use Rattle.std.specs.Prelude.{ℕ, zero, suc, ◌+◌, ◌-◌, ◌/◌, Bool, true, cond, ◌&&◌, List, [], ◌∷◌, ◌++◌, length, take, drop, Ok, Err, Result, ◌==◌, nat_le, slice_index_or}
use Rattle.std.specs.List.{flat_map}
use Rattle.lines.specs.Fault.{fault, then}
use Rattle.lines.specs.declared.fault.Fault.{Fault}
use Rattle.lines.specs.declared.fault.Cause.TheVariants.{LeftOver}
use Rattle.lines.specs.declared.fault.Layer.TheVariants.{Pack}
use Rattle.packs.specs.declared.record.Due.TheVariants.{Chain, Total}
use Rattle.packs.specs.Bytes.{le, field}
use Rattle.packs.specs.Record.{a_record, record_at}
use Rattle.packs.specs.Job.{items}

-- A chain as a record: its numbers, 16 bits each.
abbrev pub chain_record : List ℕ → List ℕ
chain_record chain = a_record 4 (flat_map (le 2) chain)

-- A total as a record: the form's two numbers, 32 and 64 bits.
abbrev pub total_record : ℕ × ℕ → List ℕ
total_record form = a_record 5 (le 4 form.0 ++ le 8 form.1)

-- A family as bytes: its chains, the finest first, and its total.
abbrev pub family_records : List (List ℕ) → ℕ × ℕ → List ℕ
family_records chains form = flat_map chain_record chains ++ total_record form

-- The number that bytes begin with.
abbrev pub number_from : List ℕ → ℕ
number_from bs = field 2 0 bs

-- The numbers in the body of a chain record.
abbrev pub numbers : List ℕ → List ℕ
numbers body = items 2 number_from (length body / 2) body

-- The body of the record that bytes begin with, and what comes after the record.
abbrev pub body_of : List ℕ → List ℕ
body_of rest = take (field 4 0 rest) (drop 6 rest)

abbrev pub after : List ℕ → List ℕ
after rest = drop (6 + field 4 0 rest) rest

-- Whether the m records that bytes begin with lie within the bytes.
abbrev pub whole : ℕ → List ℕ → Bool
whole zero rest = true
whole (suc m) rest = nat_le (6 + field 4 0 rest) (length rest) && whole m (after rest)

-- The chains in the m records that bytes begin with.
abbrev pub chains_in : ℕ → List ℕ → List (List ℕ)
chains_in zero rest = []
chains_in (suc m) rest = numbers (body_of rest) ∷ chains_in m (after rest)

-- The structure of m chain records, the first of them at place `at`: where they end.
abbrev pub chains_end : ℕ → ℕ → ℕ → List ℕ → Result ℕ Fault
chains_end n zero at rest = Ok at
chains_end n (suc m) at rest = then (record_at (Chain n) at rest) (λ size. chains_end n m (at + 6 + size) (drop (6 + size) rest))

-- The structure of all records of a family of m levels: chains, total, nothing left over. It answers where the total's record starts.
abbrev pub structure : ℕ → ℕ → List ℕ → Result ℕ Fault
structure n m bs =
    then (chains_end n m 0 bs) (λ stop.
    then (record_at Total stop (drop stop bs)) (λ _.
    cond (stop + 18 == length bs) (Ok stop) (Err (fault LeftOver Pack (stop + 18)))))

-- The form that the total's record claims.
abbrev pub claimed : ℕ → List ℕ → ℕ × ℕ
claimed stop bs = (field 4 (stop + 6) bs, field 8 (stop + 10) bs)

-- The chain of level k, counted from 1.
abbrev pub chain_of : List (List ℕ) → ℕ → List ℕ
chain_of chains k = slice_index_or chains (k - 1) []
