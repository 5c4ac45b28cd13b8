-- What is printed of the faults of lines.
use Rattle.std.specs.Prelude.{ℕ, List, ◌++◌, codes}
use Rattle.fields.specs.declared.fault.LineField.{LineField}
use Rattle.fields.specs.declared.fault.LineField.TheVariants.{Account, Reading, Cost, Forecast, Amount}
use Rattle.fields.specs.declared.fault.LineFault.{LineFault}
use Rattle.fields.specs.declared.fault.LineFault.TheVariants.{Shape, Misspelt, UnknownSchedule, UnknownRider, BufferTooShort}
use Rattle.tariff.specs.Texts.{field_text}

-- a field's name
abbrev pub line_field_text : LineField → List ℕ
line_field_text Account = codes "account"
line_field_text (Reading f) = field_text f
line_field_text Cost = codes "cost"
line_field_text Forecast = codes "forecast"
line_field_text Amount = codes "amount"

-- why a line is not read or not written
abbrev pub line_fault_text : LineFault → List ℕ
line_fault_text Shape = codes "a line too long, an unknown letter, or not its number of fields"
line_fault_text (Misspelt f) = line_field_text f ++ codes " misspelt"
line_fault_text UnknownSchedule = codes "no such schedule"
line_fault_text UnknownRider = codes "no such rider"
line_fault_text BufferTooShort = codes "the buffer is too short"
