-- A family's head that was read: the job it says, and where it lies. Assumes nothing.
use Rattle.std.proofs.Common.{◌≡◌, ℕ, ◌≤◌, List, length, take, drop, Ok, Err, Result, sym, refl, ap, ◌∙◌, arith, length-append}
use Rattle.std.proofs.lemmas.List.{take_at}
use Rattle.lines.specs.Fault.{then}
use Rattle.lines.specs.Line.{judged_line}
use Rattle.lines.specs.declared.fault.Fault.{Fault}
use Rattle.lines.specs.declared.level.Level.{Level}
use Rattle.lines.specs.declared.vertex.Vertex.{Vertex}
use Rattle.lines.proofs.Lines.{lawful_judged}
use Rattle.packs.specs.declared.job.Job.{Job}
use Rattle.packs.specs.Job.{Content, LawfulContent, encoded, head_in, AcceptsHeads, summary, summed_up_to, content_of, placed_vertices, placed_levels}
use Rattle.packs.proofs.Answered.{then_ok, same_answer}
use Rattle.marker.specs.Pack.{job_marked, place_marked, pack_marked}

pub record HeadRead (bs : List ℕ) (job : Job) (end : ℕ) (vs : List Vertex) (ls : List Level) : Type 0 where
  pub content : Content
  pub is : head_in bs ≡ Ok (content, end)
  pub summed : job ≡ summary content
  pub vertices_read : take job.vertices vs ≡ content.vertices
  pub levels_read : take job.levels ls ≡ content.levels
  pub lawful : LawfulContent content
  pub inside : end ≤ length bs
  pub few : (job.vertices ≤ 256) × (job.levels ≤ 8)

pub head_read : (bs : List ℕ) (job : Job) (end : ℕ) (vs old : List Vertex) (ls older : List Level) → Ok (job, end) ≡ summed_up_to (head_in bs) → AcceptsHeads bs →
    vs ≡ placed_vertices (content_of (head_in bs)) old → ls ≡ placed_levels (content_of (head_in bs)) older → HeadRead bs job end vs ls
head_read bs job end vs old ls older a x v l =
    let p = then_ok (head_in bs) _ (job, end) (sym a) in
    go p.0.0 p.0.1 p.1 (same_answer _ _ p.2)
  where
    go : (j : Content) (e : ℕ) → head_in bs ≡ Ok (j, e) → ◌≡◌ {A = Job × ℕ} (summary j, e) (job, end) → HeadRead bs job end vs ls
    go j e h s =
        let i : summary j ≡ job = ap (λ y. y.0) s in
        let k : e ≡ end = ap (λ y. y.1) s in
        let f = (x.exactly j e).0 h in
        let law = f.0 in
        let n : length j.vertices ≡ job.vertices = ap (λ y. y.vertices) i in
        let m : length j.levels ≡ job.levels = ap (λ y. y.levels) i in
        record {
          content = j;
          is = h ∙ ap (λ y. Ok (j, y)) k;
          summed = sym i;
          vertices_read = ap (take job.vertices) (v ∙ ap (λ r. placed_vertices (content_of r) old) h) ∙ take_at j.vertices _ job.vertices n;
          levels_read = ap (take job.levels) (l ∙ ap (λ r. placed_levels (content_of r) older) h) ∙ take_at j.levels _ job.levels m;
          lawful = law;
          inside = omega (arith, f.1, k, ap length f.2.1 ∙ length-append (encoded j) f.2.0);
          few = (omega (arith, law.line.0.1, n), omega (arith, law.count.1, m));
        }

-- marking from the place is marking the pack
pub marked_so : (bs : List ℕ) (job : Job) (end : ℕ) (vs : List Vertex) (ls : List Level) → HeadRead bs job end vs ls → place_marked vs ls job (drop end bs) ≡ pack_marked bs
marked_so bs job end vs ls h =
    let j = h.content in
    let me : job.measure ≡ j.measure = ap (λ y. y.measure) h.summed in
    let pr : job.price ≡ j.price = ap (λ y. y.price) h.summed in
    let a : judged_line (take job.vertices vs) ≡ Ok tt = ap judged_line h.vertices_read ∙ lawful_judged j.vertices h.lawful.line in
    let b : pack_marked bs ≡ job_marked j (drop end bs) = rw h.is refl in
    rw (a, b, h.vertices_read, h.levels_read, me, pr) refl

-- a head that is refused ends the marking
refused : {X Y : Type 0} (r : Result X Fault) (f : X → Result Y Fault) {Z : Type 0} (g : X → Result Z Fault) (e : Fault) → ((x : X) → (y : Y) × (f x ≡ Ok y)) → Err e ≡ then r f → then r g ≡ Err e
refused (Ok x) f g e ok h = let o = ok x in cc
refused (Err d) f g e ok h = cc

pub head_refused : (bs : List ℕ) (e : Fault) → Err e ≡ summed_up_to (head_in bs) → pack_marked bs ≡ Err e
head_refused bs e h = refused (head_in bs) (λ x. Ok (summary x.0, x.1)) (λ x. job_marked x.0 (drop x.1 bs)) e (λ x. ((summary x.0, x.1), refl)) h
