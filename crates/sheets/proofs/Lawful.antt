-- Calls keep settings lawful. Assumes nothing.
use Rattle.std.proofs.Common.{◌≡◌, ◌-◌, Bool, true, false, cond, List, [], ◌∷◌, is_ok, refl, ◌∙◌, arith, length-set}
use Rattle.std.proofs.lemmas.Bool.Decides.{nat_tests}
use Rattle.lines.specs.Level.{level, level_of}
use Rattle.layers.proofs.Pinning.{lawful_more, lawful_less}
use Rattle.sheets.specs.Settings.{Settings, pin_told, release_told, retune_told, LawfulSettings}
use Rattle.sheets.specs.Call.{after_call}
use Rattle.sheets.specs.History.{after}
use Rattle.sheets.specs.declared.call.Call.{Call}
use Rattle.sheets.specs.declared.call.Call.TheVariants.{Pin, Release, Retune, Draw}
use Rattle.sheets.proofs.Retuning.{stays_lawful}

-- what holds before a call and of what an accepted call makes, holds after it
kept : (F : Settings → Type 0) (b : Bool) (s t : Settings) → F s → (b ≡ true → F t) → F (cond b t s)
kept F true s t before then_so = then_so refl
kept F false s t before then_so = before

pub lawful_after : (s : Settings) (c : Call) → LawfulSettings s → LawfulSettings (after_call s c)
lawful_after s (Pin v) l =
    kept LawfulSettings (is_ok (pin_told s v)) s _ l
    (λ e. record {
      vertex_count = l.vertex_count;
      level_count = l.level_count;
      levels_lawful = l.levels_lawful;
      pins_lawful = lawful_more s.n v s.pins l.pins_lawful (grind (arith, nat_tests)) (grind (arith, nat_tests)) (grind (arith, nat_tests));
    })
lawful_after s (Release v) l =
    kept LawfulSettings (is_ok (release_told s v)) s _ l
    (λ e. record { vertex_count = l.vertex_count; level_count = l.level_count; levels_lawful = l.levels_lawful; pins_lawful = lawful_less s.n v s.pins l.pins_lawful })
lawful_after s (Retune k t) l =
    kept LawfulSettings (is_ok (retune_told s k t)) s _ l
    (λ e. record {
      vertex_count = l.vertex_count;
      level_count = let same = length-set s.levels (k - 1) (level t (level_of s.levels k).weight) in let count = l.level_count in (omega (arith, same, count), omega (arith, same, count));
      levels_lawful = stays_lawful s.largest s.levels k t l.levels_lawful e;
      pins_lawful = l.pins_lawful;
    })
lawful_after s (Draw vs asked) l = l

pub lawful_after_all : (s : Settings) (cs : List Call) → LawfulSettings s → LawfulSettings (after s cs)
lawful_after_all s [] l = l
lawful_after_all s (c ∷ cs) l = lawful_after_all (after_call s c) cs (lawful_after s c l)

-- the measure of the settings stays
pub record SameMeasure (s t : Settings) : Type 0 where
  pub same_largest : t.largest ≡ s.largest
  pub same_says : t.says ≡ s.says

same_after : (s : Settings) (c : Call) → SameMeasure s (after_call s c)
same_after s (Pin v) = kept (SameMeasure s) (is_ok (pin_told s v)) s _ (record { same_largest = refl; same_says = refl }) (λ _. record { same_largest = refl; same_says = refl })
same_after s (Release v) = kept (SameMeasure s) (is_ok (release_told s v)) s _ (record { same_largest = refl; same_says = refl }) (λ _. record { same_largest = refl; same_says = refl })
same_after s (Retune k t) = kept (SameMeasure s) (is_ok (retune_told s k t)) s _ (record { same_largest = refl; same_says = refl }) (λ _. record { same_largest = refl; same_says = refl })
same_after s (Draw vs asked) = record { same_largest = refl; same_says = refl }

pub same_after_all : (s : Settings) (cs : List Call) → SameMeasure s (after s cs)
same_after_all s [] = record { same_largest = refl; same_says = refl }
same_after_all s (c ∷ cs) =
    let first = same_after s c in
    let rest = same_after_all (after_call s c) cs in
    record { same_largest = rest.same_largest ∙ first.same_largest; same_says = rest.same_says ∙ first.same_says }
