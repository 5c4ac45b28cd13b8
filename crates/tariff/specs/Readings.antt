-- When a reading is refused: the order of rating.
use Rattle.std.specs.Prelude.{ℕ, ◌+◌, Bool, not, ◌&&◌, List, [], ◌∷◌, ◌++◌, map, is_some, ◌==◌, nat_lt}
use Rattle.tariff.specs.declared.reading.Reading.{Reading}
use Rattle.tariff.specs.declared.fault.Field.{Field}
use Rattle.tariff.specs.declared.fault.Field.TheVariants.{Rooms, Kwh, OffPeakKwh, Kw, Kva, OffPeakKva, ContractedLoad}
use Rattle.tariff.specs.declared.fault.RatingFault.{RatingFault}
use Rattle.tariff.specs.declared.fault.RatingFault.TheVariants.{OutOfRange, Unused, KwAboveKva, TooManyKwh, LoadTooSmall}
use Rattle.tariff.specs.Limits.{max_kwh, max_demand, min_time_of_use_load}
use Rattle.tariff.specs.Orders.{Order}
use Rattle.tariff.specs.Schedules.{uses, rate_of, kw_within_kva, time_of_use}

-- the fields of a reading, from left to right
abbrev pub fields : List Field
fields = Rooms ∷ Kwh ∷ OffPeakKwh ∷ Kw ∷ Kva ∷ OffPeakKva ∷ ContractedLoad ∷ []

-- the number in a field
abbrev pub number_in : Reading → Field → ℕ
number_in r Rooms = r.rooms
number_in r Kwh = r.kwh
number_in r OffPeakKwh = r.off_peak_kwh
number_in r Kw = r.kw
number_in r Kva = r.kva
number_in r OffPeakKva = r.off_peak_kva
number_in r ContractedLoad = r.contracted_load

-- the greatest number of a field, from left to right; rooms have theirs from the fixed rate
abbrev pub limits : List (Field × ℕ)
limits =
    (Kwh, max_kwh) ∷ (OffPeakKwh, max_kwh)
    ∷ (Kw, max_demand) ∷ (Kva, max_demand) ∷ (OffPeakKva, max_demand)
    ∷ (ContractedLoad, max_demand) ∷ []

-- a number passes its limit
abbrev pub beyond : Reading → (Field × ℕ) → Bool × RatingFault
beyond r l = (nat_lt l.1 (number_in r l.0), OutOfRange l.0)

-- the schedule does not use a field, and it is not 0
abbrev pub stray : Reading → Field → Bool × RatingFault
stray r f = (not (uses r.schedule f) && not (number_in r f == 0), Unused f)

-- out of range: rooms that the fixed rate does not have, then each other number
abbrev pub ranges : Reading → Order RatingFault
ranges r = (not (is_some (rate_of r.schedule r.rooms)), OutOfRange Rooms) ∷ map (beyond r) limits

-- unused fields that are not 0
abbrev pub unused : Reading → Order RatingFault
unused r = map (stray r) fields

-- numbers that contradict each other: kW above kVA; too many kWh in both periods; too small a load for time of use
abbrev pub contradictions : Reading → Order RatingFault
contradictions r =
    (kw_within_kva r.schedule && nat_lt r.kva r.kw, KwAboveKva)
    ∷ (nat_lt max_kwh (r.kwh + r.off_peak_kwh), TooManyKwh)
    ∷ (time_of_use r.schedule && nat_lt r.contracted_load min_time_of_use_load, LoadTooSmall)
    ∷ []

-- the order of rating: ranges, unused fields, contradictions
unfoldable pub rating_order : Reading → Order RatingFault
rating_order r = ranges r ++ (unused r ++ contradictions r)
