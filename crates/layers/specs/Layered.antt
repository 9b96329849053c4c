-- The layers keep the rules of measures. Assumes nothing.
-- Proofs of laws: they stand here since the code of an `impl` names them. No contract reads them.
use Rattle.std.specs.Prelude.{◌≡◌, ℕ, ◌+◌, true, List, [], ◌∷◌, refl}
use Rattle.std.proofs.Common.{arith}
use Rattle.std.proofs.lemmas.Bool.Decides.{nat_tests}
use Rattle.families.specs.Pin.{clear}
use Rattle.measures.specs.Measure.{Answer, Rules}
use Rattle.layers.specs.Pins.{over_pins}
use Rattle.layers.specs.Reach.{over_reach}

-- the link to the next vertex skips nothing
clear_next : (pins : List ℕ) (i : ℕ) → clear pins i (i + 1) ≡ true
clear_next [] i = refl
clear_next (p ∷ ps) i = let more = clear_next ps i in grind (arith, nat_tests)

pub over_pins_rules : {largest : ℕ} {below : Answer} (pins : List ℕ) → Rules largest below → Rules largest (over_pins pins below)
over_pins_rules pins rules = record {
  next_allowed = λ vs i t lawful h b. let allowed = rules.next_allowed vs i t lawful h b in let next = clear_next pins i in grind (arith, nat_tests);
  stays_allowed = λ vs i j s t lawful h b y. let stays = rules.stays_allowed vs i j s t lawful h b in grind (arith, nat_tests);
  links_only = λ vs i j t lawful y. rules.links_only vs i j t lawful (grind (arith, nat_tests));
}

pub over_reach_rules : {largest : ℕ} {below : Answer} (r : ℕ) → Rules largest below → Rules largest (over_reach r largest below)
over_reach_rules r rules = record {
  next_allowed = λ vs i t lawful h b. grind (arith, nat_tests);
  stays_allowed = λ vs i j s t lawful h b y. let stays = rules.stays_allowed vs i j s t lawful h b in grind (arith, nat_tests);
  links_only = λ vs i j t lawful y. (grind (arith, nat_tests), grind (arith, nat_tests), grind (arith, nat_tests));
}
