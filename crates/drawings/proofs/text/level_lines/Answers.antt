use Rattle.std.proofs.Common.{◌≡◌, ℕ, suc, ◌+◌, ◌-◌, ◌≤◌, List, ◌++◌, length, get_or, string_bytes, ap, ◌∙◌, ap₂, arith}
use Rattle.families.specs.Stay.{read_off}
use Rattle.drawings.specs.Text.{level_text, ended, levels_text}
use Rattle.drawings.proofs.text.level_lines.Goals as goal
use Rattle.drawings.proofs.text.level_lines.Goals.{else-loop-level-test, then-loop-level-test+in_ok-chain+in_ok-writeln+else-level-m}

one_more : (chain : ℕ → List ℕ) (k : ℕ) (before vs all : List ℕ) → 1 ≤ k → before ≡ levels_text (k - 1) chain → vs ≡ chain k →
    all ≡ before ++ ended (level_text k vs) → all ≡ levels_text (k + 1 - 1) chain
one_more chain k before vs all one b v a =
    let e : k ≡ suc (k - 1) = omega arith in
    let f : suc (k - 1) ≡ k + 1 - 1 = omega arith in
    a ∙ ap₂ (λ x y. x ++ ended y) b (ap (level_text k) v ∙ ap (λ n. level_text n (chain n)) e) ∙ ap (λ n. levels_text n chain) f

pub loop-level-preserved : goal.loop-level-preserved
loop-level-preserved c = (
  omega arith,
  one_more (read_off (λ v. get_or c.args.stays.now v 0) (length c.args.stays.now)) c.loop-level.level (string_bytes c.loop-level.text) c.as_slice.result.now
      (string_bytes c.writeln.new.self) (omega arith) c.loop-level.invariant.1 (c.as_slice.ensures.value ∙ c.in_ok-chain.ensures) c.in_ok-writeln.ensures.bytes,
)

pub returns : goal.returns
returns c =
    let chain = read_off (λ v. get_or c.args.stays.now v 0) (length c.args.stays.now) in
    let k = c.loop-level.level in
    elim c.loop-level-test.branch [
      | else-loop-level-test w ↦
          ap string_bytes w.text-is ∙ c.loop-level.invariant.1 ∙ ap (λ n. levels_text n chain) (let e : k - 1 ≡ c.args.m = omega (arith, w.loop-level-test.false) in e)
      | then-loop-level-test+in_ok-chain+in_ok-writeln+else-level-m w ↦
          ap string_bytes w.text-is ∙
          one_more chain k (string_bytes c.loop-level.text) w.as_slice.result.now (string_bytes w.writeln.new.self) (omega arith) c.loop-level.invariant.1
          (w.as_slice.ensures.value ∙ w.in_ok-chain.ensures) w.in_ok-writeln.ensures.bytes ∙
          ap (λ n. levels_text n chain) (let e : k + 1 - 1 ≡ c.args.m = omega (arith, w.loop-level-test.true) in e)
    ]
