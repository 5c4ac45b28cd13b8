-- Each test in its turn decides; what is then copied reads back.
use Rattle.std.proofs.Common.{◌≡◌, None, Some, refl, ◌∙◌, rules}
use Rattle.std.proofs.lemmas.Result.{err_from_is_err_and}
use Rattle.fields.specs.declared.fault.LineFault.TheVariants.{Shape}
use Rattle.fields.specs.LineBuffers.{held}
use Rattle.fields.proofs.LineBuffers.{at_most_none, at_most_some}
use Rattle.tariff.proofs.Orders.{passed}
use Rattle.calls.specs.Limits.{max_line}
use Rattle.calls.specs.Records.{meaning}
use Rattle.calls.specs.Writes.{record_misspellings}
use Rattle.calls.proofs.Orders.{write_text, write_long, write_misspelt, write_copied}
use Rattle.calls.proofs.RoundTrips.{buffer_reads_back}
use Rattle.calls.proofs.call.Call.write.Goals as goal

pub returns-in_err-line : goal.returns-in_err-line
returns-in_err-line c =
    let r = meaning c.args.self in
    let t = write_text r _ _ _ _ _ c.letter.ensures c.code_bytes.ensures c.new-buffer.ensures c.append.ensures c.put_fields.ensures in
    let h : None ≡ held max_line c.put_fields.new.buffer = search rules in
    let p = err_from_is_err_and c.from_residual.result c.from_residual.ensures.1 in
    let e : c.in_err-line.field-0.0 ≡ Shape = search rules in
    rw (p.1, p.2, e) (record { value = write_long r _ (at_most_none max_line _ (h ∙ t)); after = refl; back = tt })

pub returns-in_err-check_spelling : goal.returns-in_err-check_spelling
returns-in_err-check_spelling c =
    let r = meaning c.args.self in
    let t = write_text r _ _ _ _ _ c.letter.ensures c.code_bytes.ensures c.new-buffer.ensures c.append.ensures c.put_fields.ensures in
    let h : Some c.in_ok-line.line.now ≡ held max_line c.put_fields.new.buffer = search rules in
    let s = at_most_some max_line _ _ (h ∙ t) in
    let p = err_from_is_err_and c.from_residual-in_err-check_spelling.result c.from_residual-in_err-check_spelling.ensures.1 in
    rw (p.1, p.2) (record { value = write_misspelt r _ _ s.1 c.in_err-check_spelling.ensures; after = refl; back = tt })

pub returns : goal.returns
returns c =
    let r = meaning c.args.self in
    let t = write_text r _ _ _ _ _ c.letter.ensures c.code_bytes.ensures c.new-buffer.ensures c.append.ensures c.put_fields.ensures in
    let h : Some c.in_ok-line.line.now ≡ held max_line c.put_fields.new.buffer = search rules in
    let s = at_most_some max_line _ _ (h ∙ t) in
    let k = passed (record_misspellings r) c.in_ok-check_spelling.ensures in
    let v = rw s.0 at c.copy_line.ensures.value in
    let a = rw s.0 at c.copy_line.ensures.after in
    record { value = v ∙ write_copied r _ s.1 k; after = a; back = buffer_reads_back r _ _ _ s.1 k v a }
