-- What is encoded is in bytes. Assumes nothing.
use Rattle.std.proofs.Common.{ℕ, zero, suc, ◌/◌, List, [], ◌∷◌, ◌++◌, length, arith}
use Rattle.std.specs.List.{flat_map}
use Rattle.packs.specs.Bytes.{Octets, le}
use Rattle.packs.specs.Record.{a_record}
use Rattle.marker.specs.Records.{chain_record, total_record, family_records}

pub octets_append : (xs ys : List ℕ) → Octets xs → Octets ys → Octets (xs ++ ys)
octets_append [] ys a b i = b i
octets_append (x ∷ xs) ys a b zero = a zero
octets_append (x ∷ xs) ys a b (suc i) = octets_append xs ys (λ j. a (suc j)) b i

octets_le : (w n : ℕ) → Octets (le w n)
octets_le zero n i = omega arith
octets_le (suc w) n zero = omega arith
octets_le (suc w) n (suc i) = octets_le w (n / 256) i

octets_joined : {X : Type 0} (f : X → List ℕ) → ((x : X) → Octets (f x)) → (xs : List X) → Octets (flat_map f xs)
octets_joined f h [] i = omega arith
octets_joined f h (x ∷ xs) i = octets_append (f x) (flat_map f xs) (h x) (octets_joined f h xs) i

octets_record : (kind : ℕ) (body : List ℕ) → Octets body → Octets (a_record kind body)
octets_record kind body h = octets_append (le 4 (length body)) (le 2 kind ++ body) (octets_le 4 (length body)) (octets_append (le 2 kind) body (octets_le 2 kind) h)

pub octets_family : (chains : List (List ℕ)) (form : ℕ × ℕ) → Octets (family_records chains form)
octets_family chains form =
    octets_append (flat_map chain_record chains) (total_record form)
    (octets_joined chain_record (λ c. octets_record 4 (flat_map (le 2) c) (octets_joined (le 2) (octets_le 2) c)) chains)
    (octets_record 5 (le 4 form.0 ++ le 8 form.1) (octets_append (le 4 form.0) (le 8 form.1) (octets_le 4 form.0) (octets_le 8 form.1)))
