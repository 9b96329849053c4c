-- The limits of lines and jobs. Assumes nothing.
use Rattle.std.proofs.Common.{◌≡◌, ℕ, ◌≤◌, ◌↔◌, Ok}
use Rattle.std.proofs.lemmas.Bool.{cond-true, and_parts, and_from, leb-true, le-leb}
use Rattle.lines.specs.Level.{judged_count}
use Rattle.lines.specs.Line.{judged_size}
use Rattle.lines.specs.declared.fault.Layer.{Layer}
use Rattle.packs.proofs.Answered.{cond_ok}

pub size_means : (layer : Layer) (n : ℕ) → (judged_size layer n ≡ Ok tt) ↔ ((2 ≤ n) × (n ≤ 256))
size_means layer n = (
  λ e. let p = and_parts _ _ (cond_ok _ _ _ tt e).0 in (leb-true 2 n p.0, leb-true n 256 p.1),
  λ p. cond-true _ _ _ (and_from _ _ (le-leb 2 n p.0) (le-leb n 256 p.1)),
)

pub count_means : (layer : Layer) (m : ℕ) → (judged_count layer m ≡ Ok tt) ↔ ((1 ≤ m) × (m ≤ 8))
count_means layer m = (
  λ e. let p = and_parts _ _ (cond_ok _ _ _ tt e).0 in (leb-true 1 m p.0, leb-true m 8 p.1),
  λ p. cond-true _ _ _ (and_from _ _ (le-leb 1 m p.0) (le-leb m 8 p.1)),
)
