-- A comma, and then the bytes.
use Rattle.fields.proofs.LineBuffers.{extended_both}
use Rattle.fields.proofs.line.LineBuffer.field.Goals as goal

pub returns : goal.returns
returns g c = extended_both _ _ _ _ _ _ c.comma.ensures c.append.ensures
