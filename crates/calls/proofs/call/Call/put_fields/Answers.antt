-- The fields of each case, one after another.
use Rattle.std.proofs.Common.{◌≡◌, inl, inr, w64, to_z, of_z, rules}
use Rattle.std.proofs.lemmas.Int.{to_z-of_z}
use Rattle.fields.proofs.LineBuffers.{extended_both, extended_none, extended_last}
use Rattle.calls.specs.Limits.{max_line}
use Rattle.calls.specs.Writes.{field_bytes}
use Rattle.calls.proofs.call.Call.put_fields.Goals as goal

pub returns-in-Rate : goal.returns-in-Rate
unfolding field_bytes
returns-in-Rate c =
    let n = rw c.numbers.ensures at c.numbers-in-Rate.ensures.value in
    let p = extended_both _ _ _ _ _ _ c.field.ensures (extended_both _ _ _ _ _ _ c.field-in-Rate.ensures n) in
    rw (c.in-Rate.is, ← c.code_bytes.ensures) p

pub returns-in-Post : goal.returns-in-Post
unfolding field_bytes
returns-in-Post c = elim c.in-Post.is [ inl e ↦ rw e (extended_none max_line c.args.buffer.now) | inr e ↦ rw e (extended_none max_line c.args.buffer.now) ]

pub returns-in-File : goal.returns-in-File
unfolding field_bytes
returns-in-File c =
    let z : to_z w64 (of_z w64 c.in-File.cost.0) ≡ c.in-File.cost.0 = search (rules, to_z-of_z) in
    let p = extended_both _ _ _ _ _ _ c.field-in-File.ensures
    (extended_both _ _ _ _ _ _ c.number.ensures.value
    (extended_last _ _ _ _ c.number-in-File.ensures.value)) in
    rw (c.in-File.is, ← c.code_bytes-in-File.ensures, ← z) p

pub returns-in-Enter : goal.returns-in-Enter
unfolding field_bytes
returns-in-Enter c =
    let z : to_z w64 (of_z w64 c.in-Enter.amount.0) ≡ c.in-Enter.amount.0 = search (rules, to_z-of_z) in
    let p = extended_both _ _ _ _ _ _ c.field-in-Enter.ensures
    (extended_last _ _ _ _ c.number-in-Enter.ensures.value) in
    rw (c.in-Enter.is, ← c.code_bytes-in-Enter.ensures, ← z) p

pub returns-in-Report : goal.returns-in-Report
unfolding field_bytes
returns-in-Report c =
    let p = extended_last _ _ _ _ c.field-in-Report.ensures in
    rw (c.in-Report.is, ← c.code_bytes-in-Report.ensures) p
