-- What is printed of readings and refusals.
use Rattle.std.specs.Prelude.{ℕ, List, ◌++◌, codes, flat_map, drop}
use Rattle.std.specs.Fmt.{decimal}
use Rattle.tariff.specs.declared.fault.Field.{Field}
use Rattle.tariff.specs.declared.fault.Field.TheVariants.{Rooms, Kwh, OffPeakKwh, Kw, Kva, OffPeakKva, ContractedLoad}
use Rattle.tariff.specs.declared.fault.RatingFault.{RatingFault}
use Rattle.tariff.specs.declared.fault.RatingFault.TheVariants.{OutOfRange, Unused, KwAboveKva, TooManyKwh, LoadTooSmall}
use Rattle.tariff.specs.declared.reading.Reading.{Reading}
use Rattle.tariff.specs.declared.refusal.Refusal.{Refusal}
use Rattle.tariff.specs.declared.schedule.NoSuchRooms.{NoSuchRooms}
use Rattle.tariff.specs.Readings.{fields, number_in}

-- a field's name
abbrev pub field_text : Field → List ℕ
field_text Rooms = codes "rooms"
field_text Kwh = codes "kWh"
field_text OffPeakKwh = codes "off-peak kWh"
field_text Kw = codes "kW"
field_text Kva = codes "kVA"
field_text OffPeakKva = codes "off-peak kVA"
field_text ContractedLoad = codes "contracted load"

-- why a reading is not rated
abbrev pub fault_text : RatingFault → List ℕ
fault_text (OutOfRange f) = field_text f ++ codes " out of range"
fault_text (Unused f) = field_text f ++ codes " not used by this schedule, and not 0"
fault_text KwAboveKva = codes "more kW than kVA"
fault_text TooManyKwh = codes "too many kWh in both periods together"
fault_text LoadTooSmall = codes "contracted load too small for time of use"

-- why a number of rooms has no rate
abbrev pub no_such_rooms_text : NoSuchRooms → List ℕ
no_such_rooms_text e = codes "no fixed rate for " ++ (decimal e.0 ++ codes " rooms")

-- number, layer and field, parted by commas
abbrev pub refusal_text : Refusal → List ℕ
refusal_text r = decimal r.number ++ (codes "," ++ (decimal r.layer ++ (codes "," ++ decimal r.field)))

-- a field's name and its number
abbrev pub entry_text : Reading → Field → List ℕ
entry_text r f = field_text f ++ (codes " " ++ decimal (number_in r f))

-- the same behind another
abbrev pub next_text : Reading → Field → List ℕ
next_text r f = codes ", " ++ entry_text r f

-- every field with its number
abbrev pub reading_text : Reading → List ℕ
reading_text r = entry_text r Rooms ++ flat_map (next_text r) (drop 1 fields)
