use Rattle.std.proofs.Common.{rules, ◌≡◌, ◌<◌, ℕ, suc, ◌+◌, ◌-◌, ◌≤◌, List, [], ◌∷◌, ◌++◌, length, map, get_or, sym, ap, ap₂, subst, ◌∙◌, arith}
use Rattle.std.specs.List.{AllByRecursion, concat}
use Rattle.std.proofs.ByRecursion.{All-weaker}
use Rattle.std.proofs.lemmas.List.{map-append, append-nil}
use Rattle.std.proofs.lemmas.List.Folds.{concat-append}
use Rattle.families.specs.Stay.{read_off}
use Rattle.keys.specs.Key.{chains_to}
use Rattle.keys.proofs.ChainLists.{staying_below}
use Rattle.keys.proofs.key.chains_off.Goals as goal
use Rattle.keys.proofs.key.chains_off.Goals.{else-loop-level-test, then-loop-level-test+in_ok-chain+in_ok-append+in_ok-push+else-level-m}

pub append-requires : goal.append-requires
append-requires c =
    let n = length c.args.stays.now in
    let stays = λ (v : ℕ). get_or c.args.stays.now v 0 in
    let below = All-weaker (λ (w : ℕ). w < n) (λ (w : ℕ). w < 65536) (λ w l. omega (arith, l, c.requires)) (read_off stays n c.loop-level.level) (staying_below stays c.loop-level.level 0 n n (omega arith)) in
    subst (AllByRecursion (λ w. w < 65536)) (sym (c.as_slice.ensures.value ∙ c.in_ok-chain.ensures)) below

-- one chain more
numbers_more : (chain : ℕ → List ℕ) (k : ℕ) (before vs all : List ℕ) → 1 ≤ k → before ≡ concat (chains_to (k - 1) chain) → vs ≡ chain k → all ≡ before ++ vs →
    all ≡ concat (chains_to (k + 1 - 1) chain)
numbers_more chain k before vs all one b v a =
    let e : k ≡ suc (k - 1) = omega arith in
    let f : suc (k - 1) ≡ k + 1 - 1 = omega arith in
    a ∙ ap₂ (λ x y. x ++ y) b (v ∙ ap chain e ∙ sym (append-nil (chain (suc (k - 1))))) ∙ sym (concat-append (chains_to (k - 1) chain) (chain (suc (k - 1)) ∷ [])) ∙
    ap (λ n. concat (chains_to n chain)) f

counts_more : (chain : ℕ → List ℕ) (k : ℕ) (before all : List ℕ) (count : ℕ) → 1 ≤ k → before ≡ map length (chains_to (k - 1) chain) → count ≡ length (chain k) →
    all ≡ before ++ (count ∷ []) → all ≡ map length (chains_to (k + 1 - 1) chain)
counts_more chain k before all count one b v a =
    let e : k ≡ suc (k - 1) = omega arith in
    let f : suc (k - 1) ≡ k + 1 - 1 = omega arith in
    a ∙ ap₂ (λ x y. x ++ (y ∷ [])) b (v ∙ ap (λ i. length (chain i)) e) ∙ sym (map-append length (chains_to (k - 1) chain) (chain (suc (k - 1)) ∷ [])) ∙
    ap (λ n. map length (chains_to n chain)) f

pub loop-level-preserved : goal.loop-level-preserved
loop-level-preserved c =
    let chain = read_off (λ (v : ℕ). get_or c.args.stays.now v 0) (length c.args.stays.now) in
    let is : c.as_slice.result.now ≡ chain c.loop-level.level = c.as_slice.ensures.value ∙ c.in_ok-chain.ensures in
    let inv = c.loop-level.invariant in
    record {
      within = omega arith;
      numbers = numbers_more chain c.loop-level.level c.loop-level.numbers.items c.as_slice.result.now c.append.new.numbers.items (omega arith) inv.numbers is c.in_ok-append.ensures;
      counts = counts_more chain c.loop-level.level c.loop-level.counts.items c.push.new.self.items c.len.result (omega arith) inv.counts (search rules) (search rules);
    }

pub returns-clause-numbers : goal.returns-clause-numbers
returns-clause-numbers c =
    let chain = read_off (λ (v : ℕ). get_or c.args.stays.now v 0) (length c.args.stays.now) in
    let k = c.loop-level.level in
    let inv = c.loop-level.invariant in
    elim c.loop-level-test.branch [
      | else-loop-level-test w ↦
          ap (λ v. v.items) w.numbers-is ∙ inv.numbers ∙ ap (λ n. concat (chains_to n chain)) (let e : k - 1 ≡ c.args.m = omega (arith, w.loop-level-test.false, inv.within) in e)
      | then-loop-level-test+in_ok-chain+in_ok-append+in_ok-push+else-level-m w ↦
          let is : w.as_slice.result.now ≡ chain k = w.as_slice.ensures.value ∙ w.in_ok-chain.ensures in
          ap (λ v. v.items) w.numbers-is ∙
          numbers_more chain k c.loop-level.numbers.items w.as_slice.result.now w.append.new.numbers.items (omega arith) inv.numbers is w.in_ok-append.ensures ∙
          ap (λ n. concat (chains_to n chain)) (let e : k + 1 - 1 ≡ c.args.m = omega (arith, w.loop-level-test.true) in e)
    ]

pub returns-clause-counts : goal.returns-clause-counts
returns-clause-counts c =
    let chain = read_off (λ (v : ℕ). get_or c.args.stays.now v 0) (length c.args.stays.now) in
    let k = c.loop-level.level in
    let inv = c.loop-level.invariant in
    elim c.loop-level-test.branch [
      | else-loop-level-test w ↦
          ap (λ v. v.items) w.counts-is ∙ inv.counts ∙ ap (λ n. map length (chains_to n chain)) (let e : k - 1 ≡ c.args.m = omega (arith, w.loop-level-test.false, inv.within) in e)
      | then-loop-level-test+in_ok-chain+in_ok-append+in_ok-push+else-level-m w ↦
          ap (λ v. v.items) w.counts-is ∙
          counts_more chain k c.loop-level.counts.items w.push.new.self.items w.len.result (omega arith) inv.counts (search rules) (search rules) ∙
          ap (λ n. map length (chains_to n chain)) (let e : k + 1 - 1 ≡ c.args.m = omega (arith, w.loop-level-test.true) in e)
    ]
