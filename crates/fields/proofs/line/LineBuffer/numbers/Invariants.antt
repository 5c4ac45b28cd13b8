-- The numbers so far were added, each in at most so many bytes.
use Rattle.std.proofs.Common.{◌≡◌, ◌+◌, ◌*◌, ◌≤◌, map, length, take}
use Rattle.fields.specs.Lines.{with_commas}
use Rattle.fields.specs.LineBuffers.{held, extended}
use Rattle.fields.proofs.line.LineBuffer.numbers.Given as goal

abbrev pub invariant-loop-number : goal.invariant-loop-number
invariant-loop-number g l =
    (held g.row.N l.self ≡ extended g.row.N (held g.row.N l.initial.self) (with_commas (map g.I.Integer.text (take l.number-index l.numbers))))
    × (length (with_commas (map g.I.Integer.text (take l.number-index l.numbers))) ≤ (g.I.Integer.MAX_STR_LEN + 1) * l.number-index)
