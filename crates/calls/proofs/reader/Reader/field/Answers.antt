-- A field from the reader's place on is the next of those that are left.
use Rattle.calls.proofs.Fields.{step_value, step_after}
use Rattle.calls.proofs.reader.Reader.field.Goals as goal

pub returns : goal.returns
returns c =
    rw (← c.self.view_is)
    (record {
      value = step_value _ _ _ c.if-from-line.false c.field_len-len.ensures.value;
      after = step_after _ _ _ c.if-from-line.false c.field_len-len.ensures.after;
    })
