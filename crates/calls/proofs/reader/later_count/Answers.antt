-- Each field after the first has a comma before it.
use Rattle.std.proofs.Common.{◌∙◌}
use Rattle.calls.proofs.Fields.{commas_count}
use Rattle.calls.proofs.reader.later_count.Goals as goal

pub returns : goal.returns
returns c = c.commas.ensures ∙ commas_count c.args.line.now
