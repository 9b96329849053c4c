-- What the marks of a family draw. Assumes nothing.
use Rattle.std.specs.Prelude.{◌≡◌, ℕ, ◌≤◌, Bool, List, length, slice_index_or}
use Rattle.std.specs.List.{concat, flat_map}
use Rattle.families.specs.Family.{Family}
use Rattle.lines.specs.Vertex.{origin}
use Rattle.lines.specs.declared.vertex.Vertex.{Vertex}
use Rattle.marker.specs.Records.{chain_of}
use Rattle.pictures.specs.declared.frame.Frame.{Frame}
use Rattle.pictures.specs.declared.picture.Mark.{Mark}
use Rattle.pictures.specs.Shapes.{place_text, points_text}

-- Numbers are the chains of a family of m levels on a line of n vertices, end to end and the finest first.
pub record EndToEnd (m n : ℕ) (chains : List (List ℕ)) (numbers : List ℕ) : Type 0 where
  pub allowed : ℕ → ℕ → ℕ → Bool
  pub family : Family allowed m n (chain_of chains)
  pub one_each : length chains ≡ m
  pub joined : numbers ≡ concat chains

-- Level 0 draws the line, through all its vertices in order, and each level up to `top` draws its chain, through exactly the vertices of that.
pub record DrawsChains (vs : List Vertex) (numbers : List ℕ) (top : ℕ) (marks : List Mark) : Type 0 where
  pub line : (f : Frame) → points_text f 0 marks ≡ flat_map (place_text f) vs
  pub chains : (f : Frame) (m : ℕ) (chains : List (List ℕ)) → 1 ≤ length vs → EndToEnd m (length vs) chains numbers → (k : ℕ) → 1 ≤ k → k ≤ top → k ≤ m →
      points_text f k marks ≡ flat_map (λ v. place_text f (slice_index_or vs v origin)) (chain_of chains k)
