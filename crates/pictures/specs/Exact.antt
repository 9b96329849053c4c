-- The map of a frame is exact. Assumes nothing.
use Rattle.std.specs.Prelude.{◌≡◌, ◌≤◌, All, List, pos, ◌+ℤ◌, ◌-ℤ◌, ◌*ℤ◌}
use Rattle.lines.specs.declared.vertex.Vertex.{Vertex}
use Rattle.pictures.specs.declared.frame.Frame.{Frame}
use Rattle.pictures.specs.declared.picture.Mark.{Mark}
use Rattle.pictures.specs.Frame.{x_of, y_of}

-- A vertex lies where the whole factor of the frame puts it, to the right as on the map and turned so that y goes up, within the picture and above its legend.
pub record ExactAt (f : Frame) (v : Vertex) : Type 0 where
  pub right : pos (x_of f v) ≡ pos f.across +ℤ pos f.factor *ℤ (v.x -ℤ f.corner.x)
  pub up : pos (y_of f v) ≡ pos f.down +ℤ pos f.factor *ℤ (f.corner.y -ℤ v.y)
  pub inside : (x_of f v ≤ f.width) × (y_of f v ≤ f.legend)

-- Both ends and all marks lie exactly, by one factor of at least 1.
pub record ExactMap (f : Frame) (ends : Vertex × Vertex) (marks : List Mark) : Type 0 where
  pub factor : 1 ≤ f.factor
  pub at_ends : ExactAt f ends.0 × ExactAt f ends.1
  pub at_marks : All (λ m. ExactAt f m.vertex) marks
