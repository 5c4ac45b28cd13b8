-- The bytes so far are digits, those that are left go on from their number, and it has one digit more than were read.
use Rattle.std.proofs.Common.{◌≡◌, ◌+◌, ◌^◌, ◌<◌, drop}
use Rattle.std.specs.Str.{all_ascii_digits}
use Rattle.fields.specs.Numbers.{value_on}
use Rattle.fields.proofs.number.digits.Given as goal

abbrev pub invariant-loop-byte : goal.invariant-loop-byte
invariant-loop-byte l =
    (all_ascii_digits (drop l.byte-index l.rest) ≡ all_ascii_digits l.rest)
    × (value_on l.number (drop l.byte-index l.rest) ≡ value_on l.first l.rest)
    × (l.number < 10 ^ (l.byte-index + 1))
