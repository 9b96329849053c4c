-- The edits of a job that was read. Assumes nothing.
use Rattle.std.proofs.Common.{◌≡◌, ℕ, List, length, take, Ok, Err, Result, IfOk, sym, ap, subst, ◌∙◌, arith}
use Rattle.lines.specs.Fault.{then}
use Rattle.lines.specs.declared.fault.Fault.{Fault}
use Rattle.lines.specs.declared.level.Level.{Level}
use Rattle.lines.specs.declared.vertex.Vertex.{Vertex}
use Rattle.packs.specs.Kind.{measure_largest}
use Rattle.packs.specs.Job.{Content}
use Rattle.packs.specs.declared.job.Job.{Job}
use Rattle.packs.specs.declared.kind.MeasureKind.{MeasureKind}
use Rattle.packs.specs.declared.kind.PriceKind.{PriceKind}
use Rattle.packs.proofs.Answered.{same_answer}
use Rattle.marker.specs.Pack.{measure_says}
use Rattle.search.specs.declared.room.Room.{Room}
use Rattle.sheets.specs.Settings.{opened}
use Rattle.sheets.specs.Call.{Answer}
use Rattle.sheets.proofs.Opening.{opens}
use Rattle.drawings.specs.declared.drawing.DrawError.{DrawError}
use Rattle.drawings.specs.declared.drawing.DrawError.TheVariants.{Refused, OutOfMemory}
use Rattle.drawings.proofs.Jobs.{JobRead}
use Rattle.edits.specs.Perform.{told_priced, performed_numbered, Gives, EachLeastPriced}
use Rattle.edits.specs.Job.{answers_of, job_settings, Edits}
use Rattle.edits.specs.declared.script.Edit.{Edit}
use Rattle.edits.specs.declared.job.Edited.{Edited}

-- what is owed of the drawings among answers to edits
abbrev Owed : List Edit → List (Answer (ℕ × ℕ)) → MeasureKind → PriceKind → List Vertex → List Level → Type 0
Owed edits answers measure price line levels = EachLeastPriced price (opened (length line) levels (measure_largest measure) (measure_says measure)) line edits answers

module _ (bs : List ℕ) (job : Job) (vs : List Vertex) (ls : List Level) (h : JobRead bs job vs ls) (edits : List Edit) (room : Room) where
  abbrev j : Content
  j = h.content

  told_so : performed_numbered job.measure job.price (take job.vertices vs) (take job.levels ls) room edits ≡ Ok (told_priced j.price room j.vertices (job_settings j) edits)
  told_so =
      let me : job.measure ≡ j.measure = ap (λ y. y.measure) h.summed in
      let pr : job.price ≡ j.price = ap (λ y. y.price) h.summed in
      let line = take job.vertices vs in
      let levels = take job.levels ls in
      ap (λ m. performed_numbered m job.price line levels room edits) me ∙
      ap (λ p. performed_numbered j.measure p line levels room edits) pr ∙
      ap (λ v. performed_numbered j.measure j.price v levels room edits) h.vertices_read ∙
      ap (λ l. performed_numbered j.measure j.price j.vertices l room edits) h.levels_read ∙
      ap (λ r. then r (λ _. Ok (told_priced j.price room j.vertices (job_settings j) edits))) (opens (length j.vertices) j.levels (measure_largest j.measure) h.lawful.line.0 h.lawful.count h.lawful.levels_lawful)

  -- nothing is refused once the job is read
  none_refused : (f : Fault) → performed_numbered job.measure job.price (take job.vertices vs) (take job.levels ls) room edits ≡ Err f → ⊥
  none_refused f e = let told = told_so in let z : ◌≡◌ {A = ℕ} 0 1 = cc in omega arith

  pub edited : (r : Result Edited DrawError) → IfOk r (λ e. e.levels ≡ job.levels) →
      Gives answers_of (performed_numbered job.measure job.price (take job.vertices vs) (take job.levels ls) room edits) r →
      IfOk r (λ e. Owed edits (answers_of e) job.measure job.price (take job.vertices vs) (take job.levels ls)) → Edits bs edits room r
  edited (Ok e) count told least =
      let me : job.measure ≡ j.measure = ap (λ y. y.measure) h.summed in
      let pr : job.price ≡ j.price = ap (λ y. y.price) h.summed in
      record {
        job = j;
        read = h.is;
        lawful = h.lawful;
        bytes = h.bytes;
        level_count = count ∙ ap (λ y. y.levels) h.summed;
        told = same_answer _ _ (sym told ∙ told_so);
        each_least =
            subst (λ l. Owed edits (answers_of e) j.measure j.price j.vertices l) h.levels_read
            (subst (λ v. Owed edits (answers_of e) j.measure j.price v (take job.levels ls)) h.vertices_read
            (subst (λ p. Owed edits (answers_of e) j.measure p (take job.vertices vs) (take job.levels ls)) pr
            (subst (λ m. Owed edits (answers_of e) m job.price (take job.vertices vs) (take job.levels ls)) me least)));
      }
  edited (Err (Refused f)) count told least = absurd (none_refused f told)
  edited (Err OutOfMemory) count told least = tt
