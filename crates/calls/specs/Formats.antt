-- The formats of call lines: which fields follow each letter, what a field of each kind holds, and how it is refused.
use Rattle.std.specs.Prelude.{◌≡◌, ℕ, suc, List, [], ◌∷◌, ℤ, Option}
use Rattle.fields.specs.Faults.{line_refusal}
use Rattle.fields.specs.Numbers.{natural_of, integer_of}
use Rattle.fields.specs.declared.rider.HouseRider.{HouseRider}
use Rattle.fields.specs.declared.fault.LineField.TheVariants.{Account, Reading, Cost, Forecast, Amount}
use Rattle.fields.specs.declared.fault.LineFault.{LineFault}
use Rattle.fields.specs.declared.fault.LineFault.TheVariants.{Misspelt, UnknownSchedule, UnknownRider}
use Rattle.tariff.specs.declared.fault.Field.TheVariants.{Rooms, Kwh, OffPeakKwh, Kw, Kva, OffPeakKva, ContractedLoad}
use Rattle.tariff.specs.declared.schedule.Schedule.{Schedule}
use Rattle.calls.specs.declared.letter.Letter.{Letter}
use Rattle.calls.specs.declared.letter.Letter.TheVariants as by
use Rattle.fields.specs.Codes.{schedule_of}
use Rattle.fields.specs.Riders.{rider_of}
use Rattle.calls.specs.Names.{account_of}
use Rattle.calls.specs.Records.{Record, rate, post, void, file, enter, report}

-- what a field holds
pub data Kind : Type 0 where
  account : Kind
  schedule : Kind
  natural : Kind
  integer : Kind
  rider : Kind

-- the values of a kind
abbrev pub Value : Kind → Type 0
Value account = List ℕ
Value schedule = Schedule
Value natural = ℕ
Value integer = ℤ
Value rider = HouseRider

-- the value that bytes spell, if they spell one
abbrev pub value_in : (k : Kind) → List ℕ → Option (Value k)
value_in account bs = account_of bs
value_in schedule bs = schedule_of bs
value_in natural bs = natural_of bs
value_in integer bs = integer_of bs
value_in rider bs = rider_of bs

-- the fields after a letter: the kind of each, and the fault of a line on which it spells no value
abbrev pub Format : Type 0
Format = List (Kind × LineFault)

abbrev pub format : Letter → Format
format by.Rate =
    (account, Misspelt Account)
    ∷ (schedule, UnknownSchedule)
    ∷ (natural, Misspelt (Reading Rooms))
    ∷ (natural, Misspelt (Reading Kwh))
    ∷ (natural, Misspelt (Reading OffPeakKwh))
    ∷ (natural, Misspelt (Reading Kw))
    ∷ (natural, Misspelt (Reading Kva))
    ∷ (natural, Misspelt (Reading OffPeakKva))
    ∷ (natural, Misspelt (Reading ContractedLoad))
    ∷ []
format by.Post = []
format by.Void = []
format by.File = (rider, UnknownRider) ∷ (integer, Misspelt Cost) ∷ (natural, Misspelt Forecast) ∷ []
format by.Enter = (rider, UnknownRider) ∷ (integer, Misspelt Amount) ∷ []
format by.Report = (rider, UnknownRider) ∷ []

-- the fault of every field is told at the field's place on the line, where the first after the letter is 2
abbrev pub Placed : ℕ → Format → Type 0
Placed n [] = Unit {0}
Placed n (f ∷ fs) = ((line_refusal f.1).field ≡ n) × Placed (suc n) fs

-- a value for each field
abbrev pub Values : Format → Type 0
Values [] = Unit {0}
Values (f ∷ fs) = Value f.0 × Values fs

-- the call of these values
abbrev pub record_of : (l : Letter) → Values (format l) → Record
record_of by.Rate (a, (s, (rooms, (kwh, (off, (kw, (kva, (off_kva, (load, u))))))))) =
    rate a (record { schedule = s; rooms = rooms; kwh = kwh; off_peak_kwh = off; kw = kw; kva = kva; off_peak_kva = off_kva; contracted_load = load })
record_of by.Post u = post
record_of by.Void u = void
record_of by.File (r, (cost, (forecast, u))) = file r cost forecast
record_of by.Enter (r, (amount, u)) = enter r amount
record_of by.Report (r, u) = report r
