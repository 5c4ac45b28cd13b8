-- Answers as plain data.
use Rattle.std.specs.Prelude.{ℕ, List, [], ◌∷◌, map, ℤ}
use Rattle.money.specs.declared.amount.Cents.{Cents}
use Rattle.fields.specs.declared.rider.HouseRider.{HouseRider}
use Rattle.tariff.specs.declared.bill.BaseLines.{BaseLines}
use Rattle.tariff.specs.declared.refusal.Refusal.{Refusal}
use Rattle.answers.specs.declared.answer.Answer.{Answer}
use Rattle.answers.specs.declared.answer.Answer.TheVariants.{Bill, Posted, Voided, Filed, Entered, Report, Refused}

-- an answer, the account as its bytes and money as numbers
pub data Reply : Type 0 where
  -- number, account, base lines, rider lines and total
  bill : ℕ → List ℕ → List ℤ → List ℤ → ℤ → Reply
  posted : ℕ → Reply
  voided : ℕ → Reply
  -- the new factor
  filed : HouseRider → ℤ → Reply
  -- the new balance
  entered : HouseRider → ℤ → Reply
  -- balance, factor, forecast, sold, bills and entered
  reported : HouseRider → ℤ → ℤ → ℕ → ℕ → ℕ → ℤ → Reply
  refused : Refusal → Reply

-- lines of a bill as numbers
abbrev pub amounts : List Cents → List ℤ
amounts cs = map (λ (c : Cents). c.0) cs

-- the base lines in their order
abbrev pub base_lines : BaseLines → List Cents
base_lines b = b.customer ∷ b.energy ∷ b.demand ∷ b.excess ∷ b.lift ∷ []

-- what every answer means
abbrev pub meaning : Answer → Reply
meaning (Bill number account base riders total) = bill number account.now (amounts (base_lines base)) (amounts riders) total.0
meaning (Posted number) = posted number
meaning (Voided number) = voided number
meaning (Filed rider factor) = filed rider factor.0
meaning (Entered rider balance) = entered rider balance.0
meaning (Report rider balance factor forecast sold bills money) = reported rider balance.0 factor.0 forecast sold bills money.0
meaning (Refused refusal) = refused refusal
