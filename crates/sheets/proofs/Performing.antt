-- One call more is performed. Assumes nothing.
use Rattle.std.proofs.Common.{◌≡◌, ℕ, ◌+◌, ◌<◌, List, length, get_or, take, drop, set, sym, ap, subst, ◌∙◌, arith}
use Rattle.std.proofs.lemmas.List.{drop-set-lt, drop-drop}
use Rattle.families.specs.Price.{Kind}
use Rattle.families.specs.Price as prices
use Rattle.measures.specs.Measure.{Rules}
use Rattle.prices.specs.Price.{LinkPrice}
use Rattle.sheets.specs.Settings.{Settings, LawfulSettings}
use Rattle.sheets.specs.Memory.{Memory}
use Rattle.sheets.specs.Call.{Answer, after_call, room_of, told, memory_after}
use Rattle.sheets.specs.History.{history, after, memory_after_all, ObeysSettings, Performed, PerformedBoth}
use Rattle.sheets.specs.declared.call.Call.{Call}
use Rattle.sheets.specs.declared.call.Call.TheVariants.{Pin}
use Rattle.sheets.proofs.Lawful.{lawful_after_all}
use Rattle.sheets.proofs.Histories.{after_more, memory_more, obeys_more, in_numbers, each_least, tightening}

module _ {P : Type 0} (K : Kind P) (link : LinkPrice P) (s : Settings) (cs : List Call) (m : Memory P) where
  -- what holds of the settings t, the memory and the answers after q calls
  abbrev pub Reached : Settings → Memory P → ℕ → List (Answer P) → List (Answer P) → Type 0
  Reached t now q answers before =
      (t ≡ after s (take q cs)) ×
      (room_of now ≡ room_of m) ×
      (LawfulSettings s → now ≡ memory_after_all K link s (take q cs) m) ×
      (LawfulSettings s → ObeysSettings K link (room_of m) (history s cs answers q)) ×
      (drop q answers ≡ drop q before)

  pub one_more : (t : Settings) (now : Memory P) (q : ℕ) (answers before : List (Answer P)) (u : Settings) (next : Memory P) (answer : Answer P) →
      q < length cs → q < length answers → Reached t now q answers before → room_of next ≡ room_of now →
      u ≡ after_call t (get_or cs q (Pin 0)) →
      (LawfulSettings t → answer ≡ told K link t (room_of now) (get_or cs q (Pin 0))) →
      (LawfulSettings t → next ≡ memory_after K link t (get_or cs q (Pin 0)) now) →
      Reached u next (q + 1) (set answers q answer) before
  one_more t now q answers before u next answer in_calls in_answers reached rooms moved said left =
      let c = get_or cs q (Pin 0) in
      let lawful : LawfulSettings s → LawfulSettings t = λ l. subst LawfulSettings (sym reached.0) (lawful_after_all s (take q cs) l) in (
        moved ∙ ap (λ z. after_call z c) reached.0 ∙ sym (after_more s cs q in_calls),
        rooms ∙ reached.1,
        λ l.
            left (lawful l) ∙ ap (λ z. memory_after K link z c now) reached.0 ∙ ap (memory_after K link (after s (take q cs)) c) (reached.2 l) ∙
            sym (memory_more K link s cs q m in_calls),
        λ l. obeys_more K link (room_of m) s cs answers q answer in_answers (reached.3 l)
            (said (lawful l) ∙ ap (λ z. told K link z (room_of now) c) reached.0 ∙ ap (λ z. told K link (after s (take q cs)) z c) reached.1),
        drop-set-lt (q + 1) answers q answer (omega arith) ∙ sym (drop-drop 1 q answers) ∙ ap (drop 1) reached.4 ∙ drop-drop 1 q before,
      )

-- all of them are performed
pub performed : {P : Type 0} (K : Kind P) (link : LinkPrice P) → prices.Rules K → (s : Settings) → LawfulSettings s → Rules s.largest s.says → (cs : List Call) (m : Memory P)
    (t : Settings) (now : Memory P) (q done : ℕ) (answers before : List (Answer P)) → q ≡ done → Reached K link s cs m t now q answers before → Performed K link s cs m now before answers done
performed K link law s lawful measure cs m t now q done answers before all reached =
    let obeys = subst (λ z. ObeysSettings K link (room_of m) (history s cs answers z)) all (reached.3 lawful) in
    let least = each_least K link law s lawful measure (room_of m) cs answers done obeys in
    record {
      obeys_settings = obeys;
      in_numbers = in_numbers K link (room_of m) (history s cs answers done) obeys;
      each_least = least;
      tightening_no_cheaper = tightening K link law s lawful measure (room_of m) cs answers done obeys (history s cs answers done) least;
      memory_so = reached.2 lawful ∙ ap (λ z. memory_after_all K link s (take z cs) m) all;
      further_answers_kept = subst (λ z. drop z answers ≡ drop z before) all reached.4;
    }

-- the calls of two sheets, one after the other
pub both_performed : {P : Type 0} (K : Kind P) (link : LinkPrice P) → prices.Rules K → (s : Settings) → LawfulSettings s → Rules s.largest s.says → (t : Settings) → LawfulSettings t → Rules t.largest t.says →
    (cs ds : List Call) (m n o : Memory P) (answers answers' further further' : List (Answer P)) (p q : ℕ) →
    Performed K link s cs m n answers answers' p → Performed K link t ds n o further further' q →
    PerformedBoth K link s cs t ds m o answers answers' further further' (p, q)
both_performed K link law s lawful measure t lawful_too measure_too cs ds m n o answers answers' further further' p q first second = record {
  between = n;
  first = first;
  second = second;
  first_tightened = tightening K link law s lawful measure (room_of m) cs answers' p first.obeys_settings (history t ds further' q) second.each_least;
  second_tightened = tightening K link law t lawful_too measure_too (room_of n) ds further' q second.obeys_settings (history s cs answers' p) first.each_least;
}
