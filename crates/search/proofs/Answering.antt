-- What the answer of a search says of the family that it left. Assumes nothing.
use Rattle.std.proofs.Common.{◌≡◌, ℕ, ◌-◌, List, length, is_ok, Ok, Err, Decides, Result, sym, refl, ap, ◌∙◌}
use Rattle.families.specs.Price as prices
use Rattle.families.specs.Least.{L}
use Rattle.lines.specs.Fault.{then}
use Rattle.lines.specs.declared.fault.Fault.{Fault}
use Rattle.lines.specs.declared.level.Level.{Level}
use Rattle.lines.specs.declared.vertex.Vertex.{Vertex}
use Rattle.measures.specs.Measure.{Answer, allowed_by}
use Rattle.search.specs.Search.{judged_search, least_answer, Searchable}
use Rattle.search.proofs.Judging.{granted_means}

granted_then : {X : Type 0} (a : Result (Unit {0}) Fault) (x : X) → is_ok (then a (λ _. Ok x)) ≡ is_ok a
granted_then (Ok u) x = refl
granted_then (Err f) x = refl

ok_same : {X : Type 0} (x y : X) → ◌≡◌ {A = Result X Fault} (Ok x) (Ok y) → x ≡ y
ok_same x y e = cc

module _ {P : Type 0} (K : prices.Kind P) (price : ℕ → ℕ → ℕ → P) (largest : ℕ) (says : Answer) (vs : List Vertex) (ls : List Level) (grades prices' stays : ℕ) where
  abbrev judged : Result (Unit {0}) Fault
  judged = judged_search largest ls (length vs) grades prices' stays

  abbrev sum_of : P
  sum_of = L K price (allowed_by says vs ls) (length ls) 0 (length vs - 1)

  abbrev answer : Result P Fault
  answer = least_answer K price (allowed_by says vs ls) largest ls (length vs) grades prices' stays

  pub accepts : (r : Result P Fault) → r ≡ answer → Decides (is_ok r) (Searchable largest ls (length vs) grades prices' stays)
  accepts r e =
      let q : is_ok r ≡ is_ok judged = ap is_ok e ∙ granted_then judged sum_of in
      let d = granted_means largest ls (length vs) grades prices' stays in
      (λ h. d.0 (sym q ∙ h), λ s. q ∙ d.1 s)

  -- once all is judged the answer is the total, and no other
  pub answered : (u : Unit {0}) (sum : P) → Ok u ≡ judged → sum ≡ sum_of → Ok sum ≡ answer
  answered u sum e t = ap Ok t ∙ ap (λ r. then r (λ _. Ok sum_of)) e

  pub total_is : (u : Unit {0}) (sum : P) → Ok u ≡ judged → Ok sum ≡ answer → sum ≡ sum_of
  total_is u sum e f = ok_same sum sum_of (f ∙ sym (ap (λ r. then r (λ _. Ok sum_of)) e))
