-- Any list of calls that is tried on a sheet, one after another. Assumes nothing.
use Rattle.std.specs.Prelude.{◌≡◌, ℕ, ◌<◌, List, [], ◌∷◌, take, drop, Some, Ok, slice_index_or}
use Rattle.families.specs.Price.{Kind, NotDearer}
use Rattle.lines.specs.declared.vertex.Vertex.{Vertex}
use Rattle.prices.specs.Price.{LinkPrice}
use Rattle.search.specs.declared.room.Room.{Room}
use Rattle.sheets.specs.Settings.{Settings}
use Rattle.sheets.specs.Promise.{LeastEligible, Tighter}
use Rattle.sheets.specs.Memory.{Memory}
use Rattle.sheets.specs.Call.{Answer, after_call, room_of, drawn_line, told, memory_after}
use Rattle.sheets.specs.Numbers.{call_number, call_values, call_line, answer_values, due}
use Rattle.sheets.specs.declared.call.Call.{Call}
use Rattle.sheets.specs.declared.call.Call.TheVariants.{Pin}
use Rattle.sheets.specs.declared.call.Drawn.{Drawn}
use Rattle.sheets.specs.declared.call.Outcome.TheVariants.{Done, Drew}

-- The settings after a list of calls.
abbrev pub after : Settings → List Call → Settings
after s [] = s
after s (c ∷ cs) = after (after_call s c) cs

-- The memories after a list of calls.
abbrev pub memory_after_all : {P : Type 0} → Kind P → LinkPrice P → Settings → List Call → Memory P → Memory P
memory_after_all K link s [] m = m
memory_after_all K link s (c ∷ cs) m = memory_after_all K link (after_call s c) cs (memory_after K link s c m)

-- A list of calls of which so many were performed on a sheet with these settings, and the answers.
pub record History (P : Type 0) : Type 0 where
  pub start : Settings
  pub calls : List Call
  pub answers : List (Answer P)
  pub done : ℕ

-- What became of calls on a sheet with settings at the start: their answers, and how many were performed.
abbrev pub history : {P : Type 0} → Settings → List Call → List (Answer P) → ℕ → History P
history start calls answers done = record { start = start; calls = calls; answers = answers; done = done }

-- Call q, its answer, and the settings of its moment: those after the q calls before it.
abbrev pub call_at : {P : Type 0} → History P → ℕ → Call
call_at h q = slice_index_or h.calls q (Pin 0)

abbrev pub answer_at : {P : Type 0} → History P → ℕ → Answer P
answer_at h q = slice_index_or h.answers q (Ok Done)

abbrev pub settings_at : {P : Type 0} → History P → ℕ → Settings
settings_at h q = after h.start (take q h.calls)

-- Call q is a draw of this line that was not refused, and this is what it told.
pub record DrewAt {P : Type 0} (h : History P) (q : ℕ) (vs : List Vertex) (d : Drawn P) : Type 0 where
  pub performed : q < h.done
  pub of_line : drawn_line (call_at h q) ≡ Some vs
  pub told_so : answer_at h q ≡ Ok (Drew d)

module _ {P : Type 0} (K : Kind P) (link : LinkPrice P) where
  -- Each call is answered as the settings of its moment tell.
  abbrev pub ObeysSettings : Room → History P → Type 0
  ObeysSettings held h = (q : ℕ) → q < h.done → answer_at h q ≡ told K link (settings_at h q) held (call_at h q)

  -- The same in numbers.
  abbrev pub ObeysInNumbers : Room → History P → Type 0
  ObeysInNumbers held h =
      (q : ℕ) → q < h.done →
      answer_values K (answer_at h q) ≡ due K link (settings_at h q) held (call_number (call_at h q)) (call_values (call_at h q)) (call_line (call_at h q))

  -- Each draw is least by the settings of its moment.
  abbrev pub EachLeast : History P → Type 0
  EachLeast h = (q : ℕ) (vs : List Vertex) (d : Drawn P) → DrewAt h q vs d → LeastEligible K link (settings_at h q) vs d.stays.items d.total

  -- Of a draw of one history and a draw of the same line of another: where the settings of the second are tighter, it is not cheaper.
  abbrev pub TighteningNoCheaper : History P → History P → Type 0
  TighteningNoCheaper h g =
      (p q : ℕ) (vs : List Vertex) (d e : Drawn P) → DrewAt h p vs d → DrewAt g q vs e → Tighter (settings_at h p) (settings_at g q) → NotDearer K d.total e.total

  -- So many calls were performed on a sheet with the settings s: what is promised of the answers and of the memories after them.
  pub record Performed (s : Settings) (calls : List Call) (memory memory' : Memory P) (answers answers' : List (Answer P)) (done : ℕ) : Type 0 where
    -- each call is answered as the settings of its moment tell
    pub obeys_settings : ObeysSettings (room_of memory) (history s calls answers' done)
    -- the same in numbers
    pub in_numbers : ObeysInNumbers (room_of memory) (history s calls answers' done)
    -- each draw is least by them
    pub each_least : EachLeast (history s calls answers' done)
    -- of two draws of one line, the one under tighter settings is not cheaper
    pub tightening_no_cheaper : TighteningNoCheaper (history s calls answers' done) (history s calls answers' done)
    -- the memories are what the draws leave, one after another
    pub memory_so : memory' ≡ memory_after_all K link s (take done calls) memory
    -- the answers past those are as they were
    pub further_answers_kept : drop done answers' ≡ drop done answers

  -- Calls were performed on two sheets, those of the second after those of the first. The memories between them are those that the first leaves.
  pub record PerformedBoth (s : Settings) (calls : List Call) (t : Settings) (others : List Call) (memory memory' : Memory P)
      (answers answers' further further' : List (Answer P)) (done : ℕ × ℕ) : Type 0 where
    pub between : Memory P
    pub first : Performed s calls memory between answers answers' done.0
    pub second : Performed t others between memory' further further' done.1
    -- between a draw on one sheet and a draw on the other, tightening is not cheaper either
    pub first_tightened : TighteningNoCheaper (history s calls answers' done.0) (history t others further' done.1)
    pub second_tightened : TighteningNoCheaper (history t others further' done.1) (history s calls answers' done.0)
