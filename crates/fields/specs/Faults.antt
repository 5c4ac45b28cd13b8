-- The refusals of lines: number, layer and field of every fault.
use Rattle.std.specs.Prelude.{ℕ}
use Rattle.tariff.specs.Faults.{refusal, field_number}
use Rattle.tariff.specs.declared.refusal.Refusal.{Refusal}
use Rattle.fields.specs.declared.fault.LineField.{LineField}
use Rattle.fields.specs.declared.fault.LineField.TheVariants.{Account, Reading, Cost, Forecast, Amount}
use Rattle.fields.specs.declared.fault.LineFault.{LineFault}
use Rattle.fields.specs.declared.fault.LineFault.TheVariants.{Shape, Misspelt, UnknownSchedule, UnknownRider, BufferTooShort}

-- the field's place on its call line, the letter being 1
abbrev pub place_on_line : LineField → ℕ
place_on_line Account = 2
place_on_line (Reading f) = field_number f
place_on_line Cost = 3
place_on_line Forecast = 4
place_on_line Amount = 3

-- what every fault is told as
abbrev pub line_refusal : LineFault → Refusal
line_refusal Shape = refusal 1 1 0
line_refusal (Misspelt f) = refusal 2 1 (place_on_line f)
line_refusal UnknownSchedule = refusal 3 1 3
line_refusal UnknownRider = refusal 3 1 2
line_refusal BufferTooShort = refusal 6 3 0
