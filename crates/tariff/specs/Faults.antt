-- The refusals of rating: number, layer and field of every fault.
use Rattle.std.specs.Prelude.{ℕ}
use Rattle.tariff.specs.declared.refusal.Refusal.{Refusal}
use Rattle.tariff.specs.declared.fault.Field.{Field}
use Rattle.tariff.specs.declared.fault.Field.TheVariants.{Rooms, Kwh, OffPeakKwh, Kw, Kva, OffPeakKva, ContractedLoad}
use Rattle.tariff.specs.declared.fault.RatingFault.{RatingFault}
use Rattle.tariff.specs.declared.fault.RatingFault.TheVariants.{OutOfRange, Unused, KwAboveKva, TooManyKwh, LoadTooSmall}

-- number, layer and field
abbrev pub refusal : ℕ → ℕ → ℕ → Refusal
refusal n l f = record { number = n; layer = l; field = f }

-- the field's place on the call line: the letter is 1, the account 2, the schedule 3
abbrev pub field_number : Field → ℕ
field_number Rooms = 4
field_number Kwh = 5
field_number OffPeakKwh = 6
field_number Kw = 7
field_number Kva = 8
field_number OffPeakKva = 9
field_number ContractedLoad = 10

-- what every fault is told as
abbrev pub fault_refusal : RatingFault → Refusal
fault_refusal (OutOfRange f) = refusal 4 2 (field_number f)
fault_refusal (Unused f) = refusal 5 2 (field_number f)
fault_refusal KwAboveKva = refusal 5 2 7
fault_refusal TooManyKwh = refusal 5 2 6
fault_refusal LoadTooSmall = refusal 5 2 10
