-- A job that was read: what it says, and where it lies. Assumes nothing.
use Rattle.std.proofs.Common.{◌≡◌, ℕ, ◌≤◌, List, length, take, Ok, Err, Result, sym, ap, ◌∙◌, subst, arith}
use Rattle.std.proofs.lemmas.List.{take_at}
use Rattle.lines.specs.Line.{Lawful}
use Rattle.lines.specs.declared.level.Level.{Level}
use Rattle.lines.specs.declared.vertex.Vertex.{Vertex}
use Rattle.packs.specs.declared.job.Job.{Job}
use Rattle.packs.specs.Job.{Content, LawfulContent, encoded, job_in, AcceptsJobs, summary, summed_up, placed_vertices, placed_levels}
use Rattle.packs.specs.Kind.{measure_largest}
use Rattle.packs.proofs.Answered.{then_ok, same_answer}
use Rattle.marker.specs.Pack.{measure_says}
use Rattle.drawings.specs.declared.drawing.Drawing.{Drawing}
use Rattle.drawings.specs.declared.drawing.DrawError.{DrawError}
use Rattle.drawings.specs.declared.drawing.DrawError.TheVariants.{Refused, OutOfMemory}
use Rattle.drawings.specs.Pack.{Drawable, Made, ShowsPriced, Draws}

pub record JobRead (bs : List ℕ) (job : Job) (vs : List Vertex) (ls : List Level) : Type 0 where
  pub content : Content
  pub is : job_in bs ≡ Ok content
  pub summed : job ≡ summary content
  pub vertices_read : take job.vertices vs ≡ content.vertices
  pub levels_read : take job.levels ls ≡ content.levels
  pub lawful : LawfulContent content
  pub bytes : bs ≡ encoded content
  pub few : (job.vertices ≤ 256) × (job.levels ≤ 8)

pub job_read : (bs : List ℕ) (job : Job) (vs old : List Vertex) (ls older : List Level) → Ok job ≡ summed_up (job_in bs) → AcceptsJobs bs →
    vs ≡ placed_vertices (job_in bs) old → ls ≡ placed_levels (job_in bs) older → JobRead bs job vs ls
job_read bs job vs old ls older a x v l =
    let p = then_ok (job_in bs) _ job (sym a) in
    go p.0 p.1 (same_answer _ _ p.2)
  where
    go : (j : Content) → job_in bs ≡ Ok j → summary j ≡ job → JobRead bs job vs ls
    go j h s =
        let f = (x.exactly j).0 h in
        let law = f.0 in
        let n : length j.vertices ≡ job.vertices = ap (λ y. y.vertices) s in
        let m : length j.levels ≡ job.levels = ap (λ y. y.levels) s in
        record {
          content = j;
          is = h;
          summed = sym s;
          vertices_read = ap (take job.vertices) (v ∙ ap (λ r. placed_vertices r old) h) ∙ take_at j.vertices _ job.vertices n;
          levels_read = ap (take job.levels) (l ∙ ap (λ r. placed_levels r older) h) ∙ take_at j.levels _ job.levels m;
          lawful = law;
          bytes = f.1;
          few = (omega (arith, law.line.0.1, n), omega (arith, law.count.1, m));
        }

module _ (bs : List ℕ) (job : Job) (vs : List Vertex) (ls : List Level) (h : JobRead bs job vs ls) where
  pub line_lawful : Lawful (take job.vertices vs)
  line_lawful = subst Lawful (sym h.vertices_read) h.lawful.line

  pub drawable : Drawable (measure_largest job.measure) (take job.levels ls)
  drawable =
      let me : h.content.measure ≡ job.measure = sym (ap (λ y. y.measure) h.summed) in
      let able : Drawable (measure_largest h.content.measure) h.content.levels = record { count = h.lawful.count; levels_lawful = h.lawful.levels_lawful } in
      subst (λ k. Drawable (measure_largest k) (take job.levels ls)) me (subst (Drawable (measure_largest h.content.measure)) (sym h.levels_read) able)

  pub drawn : (r : Result Drawing DrawError) → Made (ShowsPriced job.price (measure_says job.measure) (take job.vertices vs) (take job.levels ls)) r → Draws bs r
  drawn (Ok d) made =
      let me : job.measure ≡ h.content.measure = ap (λ y. y.measure) h.summed in
      let pr : job.price ≡ h.content.price = ap (λ y. y.price) h.summed in
      record {
        job = h.content;
        read = h.is;
        lawful = h.lawful;
        bytes = h.bytes;
        shown = rw (← me, ← pr, ← h.vertices_read, ← h.levels_read) made;
      }
  drawn (Err (Refused f)) made = absurd made
  drawn (Err OutOfMemory) made = tt
