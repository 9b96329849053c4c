-- Calls that are tried on a sheet under the measure and the price with their numbers. Assumes nothing.
use Rattle.std.specs.Prelude.{◌≡◌, ℕ, ◌<◌, List, length, map, take, Ok, Err, Result, slice_index_or}
use Rattle.families.specs.Price.{Kind}
use Rattle.lines.specs.Fault.{then}
use Rattle.lines.specs.declared.fault.Fault.{Fault}
use Rattle.lines.specs.declared.level.Level.{Level}
use Rattle.lines.specs.declared.vertex.Vertex.{Vertex}
use Rattle.measures.specs.Measure as measures
use Rattle.prices.specs.Price.{LinkPrice}
use Rattle.prices.specs.Count.{count_kind, count_link}
use Rattle.prices.specs.CountThenArea.{count_then_area_kind, count_then_area_link}
use Rattle.packs.specs.Kind.{measure_largest}
use Rattle.packs.specs.declared.kind.MeasureKind.{MeasureKind}
use Rattle.packs.specs.declared.kind.PriceKind.{PriceKind}
use Rattle.packs.specs.declared.kind.PriceKind.TheVariants.{Count, CountThenArea}
use Rattle.marker.specs.Pack.{measure_says}
use Rattle.search.specs.declared.room.Room.{Room}
use Rattle.sheets.specs.Settings.{Settings, opened, open_answer}
use Rattle.sheets.specs.Promise.{LeastEligible}
use Rattle.sheets.specs.Call.{Answer}
use Rattle.sheets.specs.declared.call.Drawn.{Drawn}
use Rattle.sheets.specs.declared.call.Outcome.TheVariants.{Done, Drew}
use Rattle.edits.specs.Edit.{after_edits, told_edits}
use Rattle.edits.specs.declared.script.Edit.{Edit}
use Rattle.drawings.specs.declared.drawing.DrawError.{DrawError}
use Rattle.drawings.specs.declared.drawing.DrawError.TheVariants.{Refused, OutOfMemory}

-- An answer with the form of a total in place of the total.
abbrev pub formed : {P : Type 0} → Kind P → Answer P → Answer (ℕ × ℕ)
formed K (Ok Done) = Ok Done
formed K (Ok (Drew d)) = Ok (Drew (record { total = K.form d.total; stays = d.stays }))
formed K (Err f) = Err f

-- What edits answer by settings, under the price with a number.
abbrev pub told_priced : PriceKind → Room → List Vertex → Settings → List Edit → List (Answer (ℕ × ℕ))
told_priced Count room vs s edits = map (formed count_kind) (told_edits count_kind count_link room vs s edits)
told_priced CountThenArea room vs s edits = map (formed count_then_area_kind) (told_edits count_then_area_kind count_then_area_link room vs s edits)

-- What opening a sheet for a line and trying edits on it answers.
abbrev pub performed : {P : Type 0} → Kind P → LinkPrice P → ℕ → measures.Answer → List Vertex → List Level → Room → List Edit → Result (List (Answer (ℕ × ℕ))) Fault
performed K link largest says vs ls room edits =
    then (open_answer (length vs) ls largest) (λ _. Ok (map (formed K) (told_edits K link room vs (opened (length vs) ls largest says) edits)))

-- The same under the price with a number.
abbrev pub performed_priced : PriceKind → ℕ → measures.Answer → List Vertex → List Level → Room → List Edit → Result (List (Answer (ℕ × ℕ))) Fault
performed_priced price largest says vs ls room edits =
    then (open_answer (length vs) ls largest) (λ _. Ok (told_priced price room vs (opened (length vs) ls largest says) edits))

-- And under the measure with a number.
abbrev pub performed_numbered : MeasureKind → PriceKind → List Vertex → List Level → Room → List Edit → Result (List (Answer (ℕ × ℕ))) Fault
performed_numbered measure price vs ls room edits = performed_priced price (measure_largest measure) (measure_says measure) vs ls room edits

-- What is answered is what is defined, or memory runs out.
abbrev pub Gives : {X Y : Type 0} → (X → Y) → Result Y Fault → Result X DrawError → Type 0
Gives read defined (Ok x) = defined ≡ Ok (read x)
Gives read defined (Err (Refused f)) = defined ≡ Err f
Gives read defined (Err OutOfMemory) = Unit {0}

-- Each drawing among the answers is least by the settings of its moment, and its first two numbers are the form of the total that is owed.
abbrev pub EachLeast : {P : Type 0} → Kind P → LinkPrice P → Settings → List Vertex → List Edit → List (Answer (ℕ × ℕ)) → Type 0
EachLeast {P} K link s vs edits answers =
    (q : ℕ) (d : Drawn (ℕ × ℕ)) → q < length edits → slice_index_or answers q (Ok Done) ≡ Ok (Drew d) →
    (sum : P) × (d.total ≡ K.form sum) × LeastEligible K link (after_edits s (take q edits)) vs d.stays.items sum

-- The same under the price with a number.
abbrev pub EachLeastPriced : PriceKind → Settings → List Vertex → List Edit → List (Answer (ℕ × ℕ)) → Type 0
EachLeastPriced Count s vs edits answers = EachLeast count_kind count_link s vs edits answers
EachLeastPriced CountThenArea s vs edits answers = EachLeast count_then_area_kind count_then_area_link s vs edits answers
