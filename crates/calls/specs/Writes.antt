-- How a call is written as a line.
use Rattle.std.specs.Prelude.{◌≡◌, ℕ, Bool, true, not, List, [], ◌∷◌, ◌++◌, length, decimal, Result, nat_lt}
use Rattle.std.specs.Fmt.{signed_decimal}
use Rattle.fields.specs.Accounts.{is_account}
use Rattle.fields.specs.Buffers.{copied}
use Rattle.fields.specs.Lines.{with_commas}
use Rattle.fields.specs.Numbers.{spells_natural, spells_integer}
use Rattle.fields.specs.Riders.{rider_code}
use Rattle.fields.specs.declared.fault.LineFault.{LineFault}
use Rattle.fields.specs.declared.fault.LineFault.TheVariants.{Shape, Misspelt, BufferTooShort}
use Rattle.fields.specs.declared.fault.LineField.TheVariants as field
use Rattle.tariff.specs.Orders.{Order, first}
use Rattle.tariff.specs.Readings.{number_in}
use Rattle.tariff.specs.Schedules.{code_of}
use Rattle.tariff.specs.declared.fault.Field.{Field}
use Rattle.tariff.specs.declared.reading.Reading.{Reading}
use Rattle.calls.specs.declared.letter.Letter.{Letter}
use Rattle.calls.specs.declared.letter.Letter.TheVariants as by
use Rattle.calls.specs.Limits.{max_line}
use Rattle.calls.specs.Formats.{Kind, account, schedule, natural, integer, rider, Value, Format, Values, format}
use Rattle.calls.specs.Letters.{letter_code}
use Rattle.calls.specs.Records.{Record, rate, post, void, file, enter, report}

-- the bytes that spell a value
abbrev pub spelling : (k : Kind) → Value k → List ℕ
spelling account a = a
spelling schedule s = code_of s
spelling natural n = decimal n
spelling integer z = signed_decimal z
spelling rider r = rider_code r

-- a value that a field can spell
abbrev pub spellable : (k : Kind) → Value k → Bool
spellable account a = is_account a
spellable schedule s = true
spellable natural n = spells_natural n
spellable integer z = spells_integer z
spellable rider r = true

-- a call's letter, and its values in the order of the letter's format
abbrev pub letter : Record → Letter
letter (rate a d) = by.Rate
letter post = by.Post
letter void = by.Void
letter (file r cost forecast) = by.File
letter (enter r amount) = by.Enter
letter (report r) = by.Report

abbrev pub values_of : (r : Record) → Values (format (letter r))
values_of (rate a d) =
    (a, (d.schedule, (d.rooms, (d.kwh, (d.off_peak_kwh, (d.kw, (d.kva, (d.off_peak_kva, (d.contracted_load, tt)))))))))
values_of post = tt
values_of void = tt
values_of (file r cost forecast) = (r, (cost, (forecast, tt)))
values_of (enter r amount) = (r, (amount, tt))
values_of (report r) = (r, tt)

-- the fields that spell values
abbrev pub spellings : (fs : Format) → Values fs → List (List ℕ)
spellings [] vs = []
spellings (f ∷ fs) vs = spelling f.0 vs.0 ∷ spellings fs vs.1

-- each field of a call after a comma, and the call's line
unfoldable pub field_bytes : Record → List ℕ
field_bytes r = with_commas (spellings (format (letter r)) (values_of r))

unfoldable pub line_of : Record → List ℕ
line_of r = letter_code (letter r) ++ field_bytes r

-- fields that can't be spelt, from left to right
abbrev pub misspellings : (fs : Format) → Values fs → Order LineFault
misspellings [] vs = []
misspellings (f ∷ fs) vs = (not (spellable f.0 vs.0), f.1) ∷ misspellings fs vs.1

-- a number of a reading that can't be spelt: the rows of these fields, for code that goes through them
abbrev pub misspelt_number : Reading → Field → Bool × LineFault
misspelt_number d f = (not (spells_natural (number_in d f)), Misspelt (field.Reading f))

-- those of a call
abbrev pub record_misspellings : Record → Order LineFault
record_misspellings r = misspellings (format (letter r)) (values_of r)

-- the order of writing into a buffer of so many bytes: a line too long, a field that can't be spelt, a buffer too short
abbrev pub writing_order : Record → ℕ → Order LineFault
writing_order r room =
    (nat_lt max_line (length (line_of r)), Shape) ∷ (record_misspellings r ++ (nat_lt room (length (line_of r)), BufferTooShort) ∷ [])

-- what writing answers: a refusal, or the number of bytes
abbrev pub written : Record → ℕ → Result ℕ LineFault
written r room = first (writing_order r room) (length (line_of r))

-- there and back: the call of a line, written again, is that line, and only a short buffer refuses it
pub record Rewrites (line : List ℕ) (r : Record) : Type 0 where
  pub same : line_of r ≡ line
  pub fits : (room : ℕ) → written r room ≡ copied (length line) room
