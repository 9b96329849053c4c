-- Editing the job of a pack: what is answered for its bytes and a list of edits. Assumes nothing.
use Rattle.std.specs.Prelude.{◌≡◌, ℕ, List, length, Ok, Err, vec_items, Result}
use Rattle.packs.specs.Kind.{measure_largest}
use Rattle.packs.specs.Job.{Content, LawfulContent, encoded, job_in}
use Rattle.marker.specs.Pack.{measure_says}
use Rattle.search.specs.declared.room.Room.{Room}
use Rattle.sheets.specs.Settings.{Settings, opened}
use Rattle.sheets.specs.Call.{Answer}
use Rattle.drawings.specs.declared.drawing.DrawError.{DrawError}
use Rattle.drawings.specs.declared.drawing.DrawError.TheVariants.{Refused, OutOfMemory}
use Rattle.edits.specs.Perform.{told_priced, EachLeastPriced}
use Rattle.edits.specs.declared.script.Edit.{Edit}
use Rattle.edits.specs.declared.job.Edited.{Edited}

-- The settings of a sheet that is opened with a job.
abbrev pub job_settings : Content → Settings
job_settings j = opened (length j.vertices) j.levels (measure_largest j.measure) (measure_says j.measure)

-- The answers to the edits.
abbrev pub answers_of : Edited → List (Answer (ℕ × ℕ))
answers_of e = vec_items e.answers

-- The memory that edits are lent: room for 256 vertices and 8 levels.
abbrev pub edit_room : Room
edit_room = record { grades = 65536; prices = 524288; stays = 256 }

-- The memory that a single draw is lent.
abbrev pub draw_room : Room
draw_room = record { grades = 1600; prices = 4000; stays = 40 }

-- The bytes are the records of a lawful job, and its edits are answered as they should be.
pub record JobEdited (bs : List ℕ) (edits : List Edit) (room : Room) (e : Edited) : Type 0 where
  pub job : Content
  pub read : job_in bs ≡ Ok job
  pub lawful : LawfulContent job
  pub bytes : bs ≡ encoded job
  pub level_count : e.levels ≡ length job.levels
  -- each edit is answered by the settings after the edits before it
  pub told : answers_of e ≡ told_priced job.price room job.vertices (job_settings job) edits
  -- and each draw is least by them
  pub each_least : EachLeastPriced job.price (job_settings job) job.vertices edits (answers_of e)

-- What is answered for the bytes of a job pack and edits: the answers, or exactly the reader's fault, or that memory ran out.
abbrev pub Edits : List ℕ → List Edit → Room → Result Edited DrawError → Type 0
Edits bs edits room (Ok e) = JobEdited bs edits room e
Edits bs edits room (Err (Refused f)) = job_in bs ≡ Err f
Edits bs edits room (Err OutOfMemory) = Unit {0}
