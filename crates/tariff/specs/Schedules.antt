-- The schedules: their codes, the fields of a reading that each uses, and the rates of bills.
use Rattle.std.specs.Prelude.{ℕ, Bool, true, false, cond, ◌||◌, List, [], ◌∷◌, Some, None, codes, Option, Result, ◌==◌}
use Rattle.std.specs.Option.{ok_or}
use Rattle.tariff.specs.declared.schedule.Schedule.{Schedule}
use Rattle.tariff.specs.declared.schedule.Schedule.TheVariants as by
use Rattle.tariff.specs.declared.schedule.Rooms.{Rooms}
use Rattle.tariff.specs.declared.schedule.Rooms.TheVariants.{One, Two, Three, Four, Five}
use Rattle.tariff.specs.declared.schedule.NoSuchRooms.{NoSuchRooms}
use Rattle.tariff.specs.declared.schedule.Rate.{Rate}
use Rattle.tariff.specs.declared.schedule.Rate.TheVariants.{Grs, Lrs, Rh3, Rfr, Gss, Gsp, Gst, TouP, TouT, Gas, Lp13}
use Rattle.tariff.specs.declared.fault.Field.{Field}
use Rattle.tariff.specs.declared.fault.Field.TheVariants.{Kwh, OffPeakKwh, Kw, Kva, OffPeakKva, ContractedLoad}
use Rattle.tariff.specs.declared.fault.Field.TheVariants as field
use Rattle.tariff.specs.Faults.{field_number}

-- a schedule's code
abbrev pub code_of : Schedule → List ℕ
code_of by.Grs = codes "GRS"
code_of by.Lrs = codes "LRS"
code_of by.Rh3 = codes "RH3"
code_of by.Rfr = codes "RFR"
code_of by.Gss = codes "GSS"
code_of by.Gsp = codes "GSP"
code_of by.Gst = codes "GST"
code_of by.TouP = codes "TOU-P"
code_of by.TouT = codes "TOU-T"
code_of by.Gas = codes "GAS"
code_of by.Lp13 = codes "LP-13"

-- all of them, in the order of the rate book
abbrev pub schedules : List Schedule
schedules = by.Grs ∷ by.Lrs ∷ by.Rh3 ∷ by.Rfr ∷ by.Gss ∷ by.Gsp ∷ by.Gst ∷ by.TouP ∷ by.TouT ∷ by.Gas ∷ by.Lp13 ∷ []

-- the fields that a schedule uses
abbrev pub used : Schedule → List Field
used by.Grs = Kwh ∷ []
used by.Lrs = Kwh ∷ []
used by.Rh3 = Kwh ∷ []
used by.Rfr = field.Rooms ∷ Kwh ∷ []
used by.Gss = Kwh ∷ []
used by.Gsp = Kwh ∷ Kw ∷ Kva ∷ ContractedLoad ∷ []
used by.Gst = Kwh ∷ Kw ∷ Kva ∷ ContractedLoad ∷ []
used by.TouP = Kwh ∷ OffPeakKwh ∷ Kva ∷ OffPeakKva ∷ ContractedLoad ∷ []
used by.TouT = Kwh ∷ OffPeakKwh ∷ Kva ∷ OffPeakKva ∷ ContractedLoad ∷ []
used by.Gas = Kwh ∷ []
used by.Lp13 = Kwh ∷ Kw ∷ []

-- a field is in a list of fields
abbrev pub among : Field → List Field → Bool
among f [] = false
among f (g ∷ gs) = field_number f == field_number g || among f gs

-- a schedule uses a field
abbrev pub uses : Schedule → Field → Bool
uses s f = among f (used s)

-- GSP and GST: the kW of a month are not above its kVA
abbrev pub kw_within_kva : Schedule → Bool
kw_within_kva by.Grs = false
kw_within_kva by.Lrs = false
kw_within_kva by.Rh3 = false
kw_within_kva by.Rfr = false
kw_within_kva by.Gss = false
kw_within_kva by.Gsp = true
kw_within_kva by.Gst = true
kw_within_kva by.TouP = false
kw_within_kva by.TouT = false
kw_within_kva by.Gas = false
kw_within_kva by.Lp13 = false

-- TOU-P and TOU-T
abbrev pub time_of_use : Schedule → Bool
time_of_use by.Grs = false
time_of_use by.Lrs = false
time_of_use by.Rh3 = false
time_of_use by.Rfr = false
time_of_use by.Gss = false
time_of_use by.Gsp = false
time_of_use by.Gst = false
time_of_use by.TouP = true
time_of_use by.TouT = true
time_of_use by.Gas = false
time_of_use by.Lp13 = false

-- the fixed rate has 1 to 5 rooms
abbrev pub rooms_of : ℕ → Option Rooms
rooms_of n =
    cond (n == 1) (Some One)
    (cond (n == 2) (Some Two)
    (cond (n == 3) (Some Three)
    (cond (n == 4) (Some Four)
    (cond (n == 5) (Some Five)
    None))))

-- the same, or why not
abbrev pub rooms_or_refused : ℕ → Result Rooms NoSuchRooms
rooms_or_refused n = ok_or (rooms_of n) (record { 0 = n })

-- the fixed rate of so many rooms
abbrev pub fixed : Option Rooms → Option Rate
fixed None = None
fixed (Some r) = Some (Rfr r)

-- the rate of a schedule, the fixed one with the reading's rooms
abbrev pub rate_of : Schedule → ℕ → Option Rate
rate_of by.Grs n = Some Grs
rate_of by.Lrs n = Some Lrs
rate_of by.Rh3 n = Some Rh3
rate_of by.Rfr n = fixed (rooms_of n)
rate_of by.Gss n = Some Gss
rate_of by.Gsp n = Some Gsp
rate_of by.Gst n = Some Gst
rate_of by.TouP n = Some TouP
rate_of by.TouT n = Some TouT
rate_of by.Gas n = Some Gas
rate_of by.Lp13 n = Some Lp13
