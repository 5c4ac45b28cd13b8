-- A field ends at the first comma, or at the end.
use Rattle.std.proofs.Common.{rules}
use Rattle.calls.proofs.Fields.{ends}
use Rattle.calls.proofs.reader.field_len.Goals as goal

pub returns : goal.returns
returns c = let f = ends c.args.bytes.now _ (search rules) in record { within = f.within; value = f.value; after = f.after }
