-- The options of a picture. Assumes nothing.
use Rattle.std.specs.Prelude.{ℕ, ◌&&◌, true, false, cond, List, [], ◌∷◌, Some, None, Option, Ok, Err, Result, bytes_eq, codes, nat_le}
use Rattle.words.specs.Numbers.{number_of}
use Rattle.pictures.specs.declared.options.Due.{Due}
use Rattle.pictures.specs.declared.options.Due.TheVariants.{Name, Level, Width}
use Rattle.pictures.specs.declared.options.Draft.{Draft}
use Rattle.pictures.specs.declared.options.Options.{Options}
use Rattle.pictures.specs.declared.options.OptionError.{OptionError}
use Rattle.pictures.specs.declared.options.OptionError.TheVariants.{Unknown, Level as NoLevelNumber, Width as NoWidth}

-- All levels, 1,000 pixels wide, without bands.
abbrev pub standard : Options
standard = record { level = None; pixels = 1000; bands = false }

-- Options, and what the next argument is.
abbrev pub draft : Due → Options → Draft
draft due o = record { due = due; options = o }

-- The options with the number behind --level, or behind --width, which is 1 to 65535.
abbrev pub with_level : Options → Option ℕ → Result Draft OptionError
with_level o None = Err NoLevelNumber
with_level o (Some k) = Ok (draft Name (record { level = Some k; pixels = o.pixels; bands = o.bands }))

abbrev pub with_width : Options → Option ℕ → Result Draft OptionError
with_width o None = Err NoWidth
with_width o (Some w) = cond (nat_le 1 w && nat_le w 65535) (Ok (draft Name (record { level = o.level; pixels = w; bands = o.bands }))) (Err NoWidth)

-- What a further argument makes of options.
abbrev pub taken : Due → Options → List ℕ → Result Draft OptionError
taken Level o word = with_level o (number_of word)
taken Width o word = with_width o (number_of word)
taken Name o word =
    cond (bytes_eq word (codes "--level")) (Ok (draft Level o))
    (cond (bytes_eq word (codes "--width")) (Ok (draft Width o))
    (cond (bytes_eq word (codes "--tolerance")) (Ok (draft Name (record { level = o.level; pixels = o.pixels; bands = true }))) (Err Unknown)))

-- The options once no argument is left.
abbrev pub finished : Due → Options → Result Options OptionError
finished Name o = Ok o
finished Level o = Err NoLevelNumber
finished Width o = Err NoWidth

-- The options that arguments give, behind others.
abbrev pub from : Result Draft OptionError → List (List ℕ) → Result Options OptionError
from (Err e) words = Err e
from (Ok d) [] = finished d.due d.options
from (Ok d) (word ∷ words) = from (taken d.due d.options word) words

-- The options that arguments give.
abbrev pub options_in : List (List ℕ) → Result Options OptionError
options_in words = from (Ok (draft Name standard)) words

-- What is told of an error.
abbrev pub option_error_text : OptionError → List ℕ
option_error_text Unknown = codes "unknown option"
option_error_text NoLevelNumber = codes "--level K: a whole number is expected"
option_error_text NoWidth = codes "--width PX: a whole number from 1 to 65535 is expected"
