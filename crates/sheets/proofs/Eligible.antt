-- From what the search finds under the layer of pins to what a draw owes. Assumes nothing.
use Rattle.std.proofs.Common.{◌≡◌, ℕ, zero, suc, ◌-◌, ◌<◌, ◌≤◌, T, true, List, [], ◌∷◌, length, is_ok, IfOk, Ok, Err, Decides, Result, sym, refl, ap, ap₂, subst, ◌∙◌, arith}
use Rattle.std.proofs.ByRecursion.{All-weaker}
use Rattle.families.specs.Price as prices
use Rattle.families.specs.Chain.{links}
use Rattle.families.specs.Family.{cost, total}
use Rattle.families.specs.Pin.{Inner}
use Rattle.families.proofs.Pinning.{pins_on_family}
use Rattle.lines.specs.Line.{Lawful}
use Rattle.lines.specs.Level.{level_of, LawfulLevels}
use Rattle.lines.specs.declared.fault.Fault.{Fault}
use Rattle.lines.specs.declared.level.Level.{Level}
use Rattle.lines.specs.declared.vertex.Vertex.{Vertex}
use Rattle.measures.specs.Measure.{Rules, allowed_by}
use Rattle.prices.specs.Price.{LinkPrice, price_by}
use Rattle.layers.specs.Pins.{over_pins}
use Rattle.tables.proofs.Grades.{yes_is}
use Rattle.search.specs.Search.{Least}
use Rattle.sheets.specs.Settings.{Settings}
use Rattle.sheets.specs.Promise.{level_count, allowed, Eligible, chains, cost_of, LeastEligible, Tighter, TighterNoCheaper}

-- the price of a family by two prices that agree at its levels
cost_same : {P : Type 0} (K : prices.Kind P) (p q : ℕ → ℕ → ℕ → P) (k : ℕ) → ((i j : ℕ) → p k i j ≡ q k i j) → (ls : List (ℕ × ℕ)) → cost K p k ls ≡ cost K q k ls
cost_same K p q k same [] = refl
cost_same K p q k same (l ∷ ls) = ap₂ K.join (same l.0 l.1) (cost_same K p q k same ls)

total_same : {P : Type 0} (K : prices.Kind P) (p q : ℕ → ℕ → ℕ → P) (m : ℕ) → ((k i j : ℕ) → 1 ≤ k → k ≤ m → p k i j ≡ q k i j) → (chain : ℕ → List ℕ) → total K p m chain ≡ total K q m chain
total_same K p q zero same chain = refl
total_same K p q (suc m) same chain =
    ap₂ K.join (cost_same K p q (suc m) (λ i j. same (suc m) i j (omega arith) (omega arith)) (links (chain (suc m))))
    (total_same K p q m (λ k i j a b. same k i j a (omega arith)) chain)

module _ {P : Type 0} (K : prices.Kind P) (link : LinkPrice P) (s : Settings) (vs : List Vertex) where
  -- the least family under the layer of pins is the least eligible one
  least_eligible : Inner (length vs) s.pins → (stays : List ℕ) (sum : P) →
      Least K (price_by link vs s.levels) (allowed_by (over_pins s.pins s.says) vs s.levels) (level_count s) (length vs) stays sum → LeastEligible K link s vs stays sum
  least_eligible inner stays sum least =
      let on = λ (chain : ℕ → List ℕ). pins_on_family (allowed s vs) (level_count s) (length vs) chain s.pins inner in
      let found = (on (chains vs stays)).0 least.family in
      record {
        eligible = record { family = found.0; has_pins = found.1 };
        totals = least.totals;
        nothing_cheaper = λ chain e. least.nothing_smaller chain ((on chain).1 (e.family, e.has_pins));
        first_of_all = least.first_of_all;
      }

  pub least_by : Inner (length vs) s.pins → (ls : List Level) → ls ≡ s.levels → (stays : List ℕ) (sum : P) →
      Least K (price_by link vs ls) (allowed_by (over_pins s.pins s.says) vs ls) (length ls) (length vs) stays sum → LeastEligible K link s vs stays sum
  least_by inner ls same stays sum least =
      least_eligible inner stays sum (subst (λ l. Least K (price_by link vs l) (allowed_by (over_pins s.pins s.says) vs l) (length l) (length vs) stays sum) same least)

  module _ (t : Settings) (tight : Tighter s t) where
    -- what tighter settings allow, these allow
    loosely : Lawful vs → LawfulLevels s.largest s.levels → Rules s.largest s.says → (k i j : ℕ) → 1 ≤ k → k ≤ level_count s → T (allowed t vs k i j) → T (allowed s vs k i j)
    loosely line levels rules k i j a b y =
        let says : s.says vs i j (level_of t.levels k).tolerance ≡ true = sym (ap (λ f. f vs i j (level_of t.levels k).tolerance) tight.same_measure) ∙ yes_is (allowed t vs k i j) y in
        subst T (sym (rules.stays_allowed vs i j (level_of t.levels k).tolerance (level_of s.levels k).tolerance line (tight.lower k a b) (levels.bounded (k - 1) (omega arith)) says)) tt

    -- a family that is eligible under tighter settings is eligible
    looser : Lawful vs → LawfulLevels s.largest s.levels → Rules s.largest s.says → (chain : ℕ → List ℕ) → Eligible t vs chain → Eligible s vs chain
    looser line levels rules chain e =
        let up : (k : ℕ) → k ≤ level_count s → k ≤ level_count t = λ k h. subst (λ m. k ≤ m) (sym tight.same_levels) h in
        record {
          family = record {
            chains = λ k a b. e.family.chains k a (up k b);
            nested = λ k a b. e.family.nested k a (subst (λ m. k < m) (sym tight.same_levels) b);
            links_allowed = λ k a b. All-weaker (λ l. T (allowed t vs k l.0 l.1)) (λ l. T (allowed s vs k l.0 l.1)) (λ l y. loosely line levels rules k l.0 l.1 a b y) (links (chain k)) (e.family.links_allowed k a (up k b));
          };
          has_pins = λ k a b p h. e.has_pins k a (up k b) p (tight.more_pins p h);
        }

    same_cost : (chain : ℕ → List ℕ) → cost_of K link t vs chain ≡ cost_of K link s vs chain
    same_cost chain =
        ap (λ m. total K (price_by link vs t.levels) m chain) tight.same_levels ∙
        total_same K (price_by link vs t.levels) (price_by link vs s.levels) (level_count s) (λ k i j a b. ap (link vs i j) (tight.same_weights k a b)) chain

  -- tightening never gets cheaper
  pub tighter_no_cheaper : prices.Rules K → Lawful vs → LawfulLevels s.largest s.levels → Rules s.largest s.says → (stays : List ℕ) (sum : P) → LeastEligible K link s vs stays sum → TighterNoCheaper K link s vs sum
  tighter_no_cheaper law line levels rules stays sum least t others other tight found =
      let chain = chains vs others in
      let no_dearer = least.nothing_cheaper chain (looser t tight line levels rules chain found.eligible) in
      let same : prices.Same K (cost_of K link s vs chain) other = sym (ap K.form (same_cost t tight chain)) ∙ sym found.totals in
      law.transitive sum (cost_of K link s vs chain) other no_dearer (law.same _ _ same)

-- what holds of an answer, with what its acceptance means
pub accepted : {X S : Type 0} {F G : X → Type 0} (r : Result X Fault) → Decides (is_ok r) S → IfOk r F → (S → (x : X) → F x → G x) → IfOk r G
accepted (Ok x) d holds so = so (d.0 refl) x holds
accepted (Err f) d holds so = tt
