-- The fields of each case, one after another, and how long they are.
use Rattle.std.proofs.Common.{◌≡◌, ◌≤◌, map, length, decimal, sym, arith, w64, SFits, rules}
use Rattle.std.specs.Fmt.{signed_decimal}
use Rattle.std.proofs.lemmas.Int.{to_z-of_z}
use Rattle.std.proofs.lemmas.List.{length-append}
use Rattle.fields.proofs.LineBuffers.{extended_both, extended_last, extended_same}
use Rattle.fields.specs.Limits.{max_account}
use Rattle.tariff.proofs.Orders.{passed}
use Rattle.answers.specs.Lines.{field_bytes, misspellings}
use Rattle.answers.specs.Replies.{bill, amounts, base_lines}
use Rattle.answers.proofs.Lengths.{rider_code_short, account_short, bill_fields, bill_short}
use Rattle.answers.proofs.answer.Answer.put_fields.Goals as goal

pub returns-in-Bill : goal.returns-in-Bill
unfolding field_bytes
returns-in-Bill c =
    let f : SFits w64 c.in-Bill.total.0 = search rules in
    let r : length (amounts c.in-Bill.riders) ≡ 7 = search rules in
    let base = map signed_decimal (amounts (base_lines c.in-Bill.base)) in
    let riders = map signed_decimal (amounts c.in-Bill.riders) in
    let b = rw c.base_lines.ensures at c.numbers.ensures in
    let s = rw c.rider_lines.ensures at c.numbers-in-Bill.ensures in
    let t = rw (to_z-of_z w64 c.in-Bill.total.0 f) at c.number-in-Bill.ensures in
    let p = extended_both _ _ _ _ _ _ c.number.ensures.value
    (extended_both _ _ _ _ _ _ c.field.ensures
    (extended_both _ _ _ _ _ _ b.value
    (extended_both _ _ _ _ _ _ s.value t.value))) in
    let e = bill_fields (decimal c.in-Bill.number) c.in-Bill.account.now base riders (signed_decimal c.in-Bill.total.0) in
    rw c.in-Bill.is
    (record {
      value = extended_same _ _ _ _ _ (sym e) p;
      bound = λ k.
          let a : length c.in-Bill.account.now ≤ max_account = account_short _ (passed (misspellings (bill c.in-Bill.number c.in-Bill.account.now (amounts (base_lines c.in-Bill.base)) (amounts c.in-Bill.riders) c.in-Bill.total.0)) (sym k)).0 in
          omega (arith, bill_short (decimal c.in-Bill.number) c.in-Bill.account.now base riders (signed_decimal c.in-Bill.total.0) c.number.ensures.bound a b.bound (omega (arith, s.bound)) t.bound);
    })

pub returns-in-Posted : goal.returns-in-Posted
unfolding field_bytes
returns-in-Posted c =
    let n = c.number-in-Posted.ensures in
    rw c.in-Posted.is (record { value = extended_last _ _ _ _ n.value; bound = λ _. simp length-append (omega (arith, n.bound)) })

pub returns-in-Voided : goal.returns-in-Voided
unfolding field_bytes
returns-in-Voided c =
    let n = c.number-in-Voided.ensures in
    rw c.in-Voided.is (record { value = extended_last _ _ _ _ n.value; bound = λ _. simp length-append (omega (arith, n.bound)) })

pub returns-in-Filed : goal.returns-in-Filed
unfolding field_bytes
returns-in-Filed c = rw c.in-Filed.is (record { value = c.put_money.ensures.value; bound = λ _. omega (arith, c.put_money.ensures.bound) })

pub returns-in-Entered : goal.returns-in-Entered
unfolding field_bytes
returns-in-Entered c = rw c.in-Entered.is (record { value = c.put_money-in-Entered.ensures.value; bound = λ _. omega (arith, c.put_money-in-Entered.ensures.bound) })

pub returns-in-Report : goal.returns-in-Report
unfolding field_bytes
returns-in-Report c =
    let b : SFits w64 c.in-Report.balance.0 = search rules in
    let f : SFits w64 c.in-Report.factor.0 = search rules in
    let e : SFits w64 c.in-Report.entered.0 = search rules in
    let balance = rw (to_z-of_z w64 c.in-Report.balance.0 b) at c.number-in-Report.ensures in
    let factor = rw (to_z-of_z w64 c.in-Report.factor.0 f) at c.number-in-Report-2.ensures in
    let forecast = c.number-in-Report-3.ensures in
    let sold = c.number-in-Report-4.ensures in
    let bills = c.number-in-Report-5.ensures in
    let entered = rw (to_z-of_z w64 c.in-Report.entered.0 e) at c.number-in-Report-6.ensures in
    let p = extended_both _ _ _ _ _ _ c.field-in-Report.ensures
    (extended_both _ _ _ _ _ _ balance.value
    (extended_both _ _ _ _ _ _ factor.value
    (extended_both _ _ _ _ _ _ forecast.value
    (extended_both _ _ _ _ _ _ sold.value
    (extended_both _ _ _ _ _ _ bills.value
    (extended_last _ _ _ _ entered.value)))))) in
    rw c.in-Report.is
    (record {
      value = rw (← c.code_bytes.ensures) p;
      bound = λ _. simp length-append (omega (arith, rider_code_short c.in-Report.rider, balance.bound, factor.bound, forecast.bound, sold.bound, bills.bound, entered.bound));
    })

pub returns-in-Refused : goal.returns-in-Refused
unfolding field_bytes
returns-in-Refused c =
    let number = c.number-in-Refused.ensures in
    let layer = c.number-in-Refused-2.ensures in
    let field = c.number-in-Refused-3.ensures in
    rw c.in-Refused.is
    (record {
      value = extended_both _ _ _ _ _ _ number.value (extended_both _ _ _ _ _ _ layer.value (extended_last _ _ _ _ field.value));
      bound = λ _. simp length-append (omega (arith, number.bound, layer.bound, field.bound));
    })
