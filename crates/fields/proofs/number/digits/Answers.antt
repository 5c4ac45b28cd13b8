-- A digit goes on, any other byte stops, and the number stays small enough.
use Rattle.std.proofs.Common.{◌^◌, ◌<◌, arith, rules}
use Rattle.fields.proofs.Numbers.{fewer_digits}
use Rattle.fields.proofs.number.digits.Goals as goal

pub overflow_mul-number : goal.overflow_mul-number
overflow_mul-number c =
    let r : c.loop-byte.number < 10 ^ 15 = fewer_digits c.loop-byte.byte-index 15 _ (omega arith) c.loop-byte.invariant.2 in
    search rules

pub overflow_add-number : goal.overflow_add-number
overflow_add-number c =
    let r : c.loop-byte.number < 10 ^ 15 = fewer_digits c.loop-byte.byte-index 15 _ (omega arith) c.loop-byte.invariant.2 in
    search rules
