-- Copying a line into a buffer.
use Rattle.std.specs.Prelude.{ℕ, Bool, true, cond, List, ◌++◌, length, drop, Some, None, Ok, Err, Option, Result, nat_le}
use Rattle.arrayvec.specs.ArrayVec.{ArrayVec}
use Rattle.fields.specs.declared.fault.LineFault.{LineFault}
use Rattle.fields.specs.declared.fault.LineFault.TheVariants.{BufferTooShort}

-- what copying so many bytes into a buffer of so many places answers
abbrev pub copied : ℕ → ℕ → Result ℕ LineFault
copied len room = cond (nat_le len room) (Ok len) (Err BufferTooShort)

-- a buffer with these bytes at its front; the places beyond them keep theirs
abbrev pub at_front : List ℕ → List ℕ → List ℕ
at_front bs out = bs ++ drop (length bs) out

-- bytes that were kept are not more than n
abbrev pub fits : ℕ → Option (ArrayVec ℕ) → Bool
fits n None = true
fits n (Some v) = nat_le (length v.items) n
