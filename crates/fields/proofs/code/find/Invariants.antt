-- None so far has the code, so those that are left decide.
use Rattle.std.proofs.Common.{◌≡◌, drop}
use Rattle.fields.specs.Codes.{coded}
use Rattle.fields.proofs.code.find.Given as goal

abbrev pub invariant-loop-item : goal.invariant-loop-item
invariant-loop-item g l = coded g.T.Coded.spelling (drop l.item-index l.all) l.code ≡ coded g.T.Coded.spelling l.all l.code
