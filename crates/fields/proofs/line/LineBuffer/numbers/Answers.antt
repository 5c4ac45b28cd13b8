-- One number more is one field more.
use Rattle.std.proofs.Common.{◌∷◌, map, take, sym, ap, ◌∙◌, arith, rules}
use Rattle.std.proofs.lemmas.List.{map_more}
use Rattle.fields.specs.LineBuffers.{Extends}
use Rattle.fields.specs.Lines.{with_commas}
use Rattle.fields.proofs.LineBuffers.{extended_none, extended_both, extended_same, commas_push, more_bytes}
use Rattle.fields.proofs.line.LineBuffer.numbers.Goals as goal

pub loop-number-init : goal.loop-number-init
loop-number-init g c = (extended_none g.row.N c.args.self.now, omega arith)

pub loop-number-preserved : goal.loop-number-preserved
loop-number-preserved g c =
    let text = g.I.Integer.text in
    let i = c.loop-number.number-index in
    let x = c.number-item.result in
    let v : Extends g.row.N c.loop-number.self c.number.new.self (44 ∷ text x) = search rules in
    let m = rw (← c.number-item.is) at (ap with_commas (map_more text c.args.numbers.now i x c.loop-number-test.true) ∙ commas_push (map text (take i c.args.numbers.now)) (text _)) in (
      extended_same _ _ _ _ _ (sym m) (extended_both _ _ _ _ _ _ c.loop-number.invariant.0 v),
      rw m (more_bytes _ _ _ i _ c.loop-number.invariant.1 c.number.ensures.bound),
    )
