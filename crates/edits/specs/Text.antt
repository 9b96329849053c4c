-- What edits did, as text. Assumes nothing.
use Rattle.std.specs.Prelude.{ℕ, List, ◌++◌, Ok, Err, codes, decimal}
use Rattle.std.specs.List.{flat_map, zip}
use Rattle.lines.specs.Fault.{refused_text}
use Rattle.sheets.specs.Call.{Answer}
use Rattle.sheets.specs.declared.call.Outcome.TheVariants.{Done, Drew}
use Rattle.drawings.specs.Text.{ended, drawing_text}
use Rattle.edits.specs.Job.{answers_of}
use Rattle.edits.specs.declared.script.Edit.{Edit}
use Rattle.edits.specs.declared.script.Edit.TheVariants.{Pin, Release, Retune, Draw}
use Rattle.edits.specs.declared.job.Edited.{Edited}

-- What an accepted edit did: pinned V, released V, retuned K T.
abbrev pub done_text : Edit → List ℕ
done_text (Pin v) = codes "pinned " ++ decimal v
done_text (Release v) = codes "released " ++ decimal v
done_text (Retune k t) = codes "retuned " ++ (decimal k ++ (codes " " ++ decimal t))
done_text Draw = codes "drawn"

-- The lines of an edit of a job of m levels: what it did, the family that it drew, or the line of its refusal.
abbrev pub answer_text : ℕ → Edit → Answer (ℕ × ℕ) → List ℕ
answer_text m edit (Ok Done) = ended (done_text edit)
answer_text m edit (Ok (Drew d)) = drawing_text m d.stays.items d.total
answer_text m edit (Err f) = ended (refused_text f)

-- The lines of edits with their answers, one after another.
abbrev pub edits_text : Edited → List Edit → List ℕ
edits_text e edits = flat_map (λ p. answer_text e.levels p.0 p.1) (zip edits (answers_of e))
