-- A field of each kind, there and back.
use Rattle.std.proofs.Common.{◌≡◌, ℕ, Bool, true, false, cond, List, Some, None, refl, ap, ◌∙◌, arith}
use Rattle.fields.specs.Accounts.{is_account}
use Rattle.fields.specs.Lines.{plain}
use Rattle.fields.specs.Riders.{rider_code, house_riders}
use Rattle.fields.specs.SpellingLaws.{plain_account}
use Rattle.fields.specs.ValueLaws.{natural_said, natural_again, integer_said, integer_again, coded_text, schedule_found, rider_found}
use Rattle.tariff.specs.Schedules.{code_of, schedules}
use Rattle.calls.specs.Formats.{Kind, account, schedule, natural, integer, rider, Value, value_in}
use Rattle.calls.specs.Writes.{spelling, spellable}

account_by : (b : Bool) (bs a : List ℕ) → cond b (Some bs) None ≡ Some a → (a ≡ bs) × (b ≡ true)
account_by true bs a e = (cc, refl)
account_by false bs a e = absurd (grind arith)

-- a value is spelt by the bytes that it was read from
pub kind_text : (k : Kind) (bs : List ℕ) (v : Value k) → value_in k bs ≡ Some v → (spelling k v ≡ bs) × (spellable k v ≡ true)
kind_text account bs v e = let p = account_by (is_account bs) bs v e in (p.0, ap is_account p.0 ∙ p.1)
kind_text schedule bs v e = (coded_text code_of schedules bs v e, refl)
kind_text natural bs v e = natural_said bs v e
kind_text integer bs v e = integer_said bs v e
kind_text rider bs v e = (coded_text rider_code house_riders bs v e, refl)

-- a value's spelling is read as that value, and has no comma
pub kind_back : (k : Kind) (v : Value k) → spellable k v ≡ true → (value_in k (spelling k v) ≡ Some v) × (plain (spelling k v) ≡ true)
kind_back account v h = (rw h refl, plain_account v h)
kind_back schedule v h = schedule_found v
kind_back natural v h = natural_again v h
kind_back integer v h = integer_again v h
kind_back rider v h = rider_found v
