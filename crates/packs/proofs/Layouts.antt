-- The structure of a job's records. Assumes nothing.
use Rattle.std.proofs.Common.{◌≡◌, ℕ, ◌+◌, ◌≤◌, Bool, true, ◌&&◌, leb, List, drop, Ok, refl}
use Rattle.std.proofs.lemmas.Bool.{and_parts, leb-true}
use Rattle.packs.specs.declared.record.Due.TheVariants.{Numbers, Vertices, Levels}
use Rattle.packs.specs.Record.{record_at}
use Rattle.packs.specs.Job.{laid_out, layout_in}

pub laid_out_by : (bs : List ℕ) (a b c : ℕ) → record_at Numbers 0 bs ≡ Ok a → record_at Vertices 8 (drop 8 bs) ≡ Ok b →
    record_at Levels (14 + b) (drop (14 + b) bs) ≡ Ok c → layout_in bs ≡ Ok (laid_out b c)
laid_out_by bs a b c p q r = rw (p, q, r) refl

pub bounds : (low high size : ℕ) (b : Bool) → (b && (leb low size && leb size high)) ≡ true → (low ≤ size) × (size ≤ high)
bounds low high size b h = let p = and_parts _ _ (and_parts b _ h).1 in (leb-true low size p.0, leb-true size high p.1)
