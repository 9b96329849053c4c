-- Records: a 4-byte body length, a 2-byte kind, and the body. Assumes nothing.
use Rattle.std.specs.Prelude.{ℕ, ◌+◌, ◌*◌, ◌%◌, Bool, cond, ◌&&◌, List, ◌++◌, length, Ok, Err, Result, ◌==◌, nat_le}
use Rattle.lines.specs.Fault.{fault}
use Rattle.lines.specs.declared.fault.Fault.{Fault}
use Rattle.lines.specs.declared.fault.Cause.TheVariants.{RunsOut, WrongKind, WrongLength}
use Rattle.lines.specs.declared.fault.Layer.TheVariants.{Pack}
use Rattle.packs.specs.declared.record.Due.{Due}
use Rattle.packs.specs.declared.record.Due.TheVariants.{Numbers, Vertices, Levels, Chain, Total}
use Rattle.packs.specs.Bytes.{le, field}

-- The kind of each record.
abbrev pub kind_of : Due → ℕ
kind_of Numbers = 1
kind_of Vertices = 2
kind_of Levels = 3
kind_of (Chain n) = 4
kind_of Total = 5

-- The body lengths of each kind; a chain's line has n vertices.
abbrev pub fits : Due → ℕ → Bool
fits Numbers size = size == 2
fits Vertices size = size % 4 == 0 && (nat_le 8 size && nat_le size 1024)
fits Levels size = size % 8 == 0 && (nat_le 8 size && nat_le size 64)
fits (Chain n) size = size % 2 == 0 && (nat_le 4 size && nat_le size (2 * n))
fits Total size = size == 12

-- A record as bytes.
abbrev pub a_record : ℕ → List ℕ → List ℕ
a_record kind body = le 4 (length body) ++ (le 2 kind ++ body)

-- The bytes `rest`, the first of them at place `at`, begin with the record that is due: its body length, or the first fault.
-- The header comes first, then the kind, then the length, then the body.
abbrev pub record_at : Due → ℕ → List ℕ → Result ℕ Fault
record_at due at rest =
    cond (nat_le 6 (length rest))
    (cond (field 2 4 rest == kind_of due)
    (cond (fits due (field 4 0 rest))
    (cond (nat_le (6 + field 4 0 rest) (length rest))
    (Ok (field 4 0 rest))
    (Err (fault RunsOut Pack at)))
    (Err (fault WrongLength Pack at)))
    (Err (fault WrongKind Pack at)))
    (Err (fault RunsOut Pack at))
