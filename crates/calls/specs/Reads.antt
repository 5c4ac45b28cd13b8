-- What a call line says.
use Rattle.std.specs.Prelude.{ℕ, cond, List, [], ◌∷◌, length, Some, None, Ok, Err, Option, Result, ◌==◌, nat_le}
use Rattle.fields.specs.declared.fault.LineFault.{LineFault}
use Rattle.fields.specs.declared.fault.LineFault.TheVariants.{Shape}
use Rattle.calls.specs.declared.call.Call.{Call}
use Rattle.calls.specs.declared.letter.Letter.{Letter}
use Rattle.calls.specs.Limits.{max_line}
use Rattle.calls.specs.Formats.{Format, Values, value_in, format, record_of}
use Rattle.calls.specs.Letters.{letter_of}
use Rattle.calls.specs.Records.{Record, meaning}
use Rattle.calls.specs.Splits.{split, next, later}

-- an answer of the reader, the call by its meaning
abbrev pub meant : Result Call LineFault → Result Record LineFault
meant (Ok call) = Ok (meaning call)
meant (Err fault) = Err fault

-- a value goes on; without one the line is refused by this fault
abbrev pub taken : {V X : Type 0} → LineFault → Option V → (V → Result X LineFault) → Result X LineFault
taken fault None go = Err fault
taken fault (Some v) go = go v

-- what fields say by a format: the first that spells no value refuses the line, and else all values make the answer
abbrev pub read_by : {X : Type 0} → (fs : Format) → List (List ℕ) → (Values fs → X) → Result X LineFault
read_by [] bs make = Ok (make tt)
read_by (f ∷ fs) bs make = taken f.1 (value_in f.0 (next bs)) (λ v. read_by fs (later bs) (λ vs. make (v, vs)))

-- what the fields after a letter say
abbrev pub read_as : Letter → List (List ℕ) → Result Record LineFault
read_as l bs = read_by (format l) bs (record_of l)

-- the same, where they are as many as the letter has
abbrev pub read_after : Option Letter → List (List ℕ) → Result Record LineFault
read_after None bs = Err Shape
read_after (Some l) bs = cond (length bs == length (format l)) (read_as l bs) (Err Shape)

-- what a line says: at most 120 bytes, a letter, and its fields
abbrev pub read_line : List ℕ → Result Record LineFault
read_line line = cond (nat_le (length line) max_line) (read_after (letter_of (next (split line))) (later (split line))) (Err Shape)
