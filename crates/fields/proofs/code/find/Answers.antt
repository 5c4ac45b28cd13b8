-- An item that has the code is found; another leaves the search to those after it.
use Rattle.std.proofs.Common.{true, false, sym, refl, ◌∙◌}
use Rattle.fields.proofs.Codes.{coded_step, coded_end}
use Rattle.fields.proofs.code.find.Goals as goal

pub loop-item-init : goal.loop-item-init
loop-item-init g c = refl

pub returns-then-same_bytes : goal.returns-then-same_bytes
returns-then-same_bytes g c = sym (coded_step _ _ _ _ _ _ true c.loop-item-test.true c.item-item.is c.code_bytes.ensures c.if-same_bytes.ensures) ∙ c.loop-item.invariant

pub loop-item-preserved : goal.loop-item-preserved
loop-item-preserved g c = sym (coded_step _ _ _ _ _ _ false c.loop-item-test.true c.item-item.is c.code_bytes.ensures c.if-same_bytes.ensures) ∙ c.loop-item.invariant

pub returns : goal.returns
returns g c = sym (coded_end _ _ _ _ c.loop-item-test.false) ∙ c.loop-item.invariant
