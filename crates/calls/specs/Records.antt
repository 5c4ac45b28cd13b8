-- Calls as plain data.
use Rattle.std.specs.Prelude.{ℕ, List, ℤ}
use Rattle.fields.specs.declared.rider.HouseRider.{HouseRider}
use Rattle.tariff.specs.declared.reading.Reading.{Reading}
use Rattle.calls.specs.declared.call.Call.{Call}
use Rattle.calls.specs.declared.call.Call.TheVariants.{Rate, Post, Void, File, Enter, Report}

-- a call, the account as its bytes and money as a number
pub data Record : Type 0 where
  rate : List ℕ → Reading → Record
  post : Record
  void : Record
  file : HouseRider → ℤ → ℕ → Record
  enter : HouseRider → ℤ → Record
  report : HouseRider → Record

-- what every call means
abbrev pub meaning : Call → Record
meaning (Rate account reading) = rate account.now reading
meaning Post = post
meaning Void = void
meaning (File rider cost forecast) = file rider cost.0 forecast
meaning (Enter rider amount) = enter rider amount.0
meaning (Report rider) = report rider
