-- The line is never too long for its buffer, and copying it decides.
use Rattle.std.proofs.Common.{◌≤◌, length, sym, ap, ◌∙◌, arith}
use Rattle.fields.proofs.Copies.{copied_last, copied_fits}
use Rattle.fields.proofs.LineBuffers.{at_most_none, at_most_some}
use Rattle.tariff.specs.Orders.{verdict}
use Rattle.tariff.proofs.Orders.{passed}
use Rattle.answers.specs.Limits.{max_answer}
use Rattle.answers.specs.Lines.{reply_line, misspellings}
use Rattle.answers.specs.Replies.{meaning}
use Rattle.answers.proofs.Lengths.{answer_text, line_short}
use Rattle.answers.proofs.answer.Answer.write.Goals as goal

pub unreachable-requires : goal.unreachable-requires
unreachable-requires c =
    let r = meaning c.args.self in
    let l = line_short r (c.put_fields.ensures.bound (sym c.in_ok-check_spelling.ensures)) in
    let t = answer_text r _ _ _ _ c.letter.ensures c.new-buffer.ensures c.append.ensures c.put_fields.ensures.value in
    omega (arith, l, at_most_none max_answer _ (c.in_default.ensures ∙ t))

pub returns : goal.returns
returns c =
    let r = meaning c.args.self in
    let k = c.in_ok-check_spelling.ensures in
    let l : length (reply_line r) ≤ max_answer = line_short r (c.put_fields.ensures.bound (sym k)) in
    let t = answer_text r _ _ _ _ c.letter.ensures c.new-buffer.ensures c.append.ensures c.put_fields.ensures.value in
    let s = at_most_some max_answer _ _ (c.in-Some.ensures ∙ t) in
    let v = rw s.0 at c.copy_line.ensures.value in
    record {
      value = v ∙ copied_last (misspellings r) (length (reply_line r)) _ (passed (misspellings r) k);
      after = rw s.0 at c.copy_line.ensures.after;
      suffices = λ e. ap verdict (v ∙ copied_fits (length (reply_line r)) _ (omega arith)) ∙ k;
    }
