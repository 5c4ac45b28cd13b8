-- Orders of refusals.
use Rattle.std.specs.Prelude.{Bool, cond, List, [], ◌∷◌, Ok, Err, Result}

-- conditions with the faults that they are refused by, in order
abbrev pub Order : Type 0 → Type 0
Order E = List (Bool × E)

-- the first condition that holds refuses with its fault; where none holds, the call is accepted with this answer
abbrev pub first : {E X : Type 0} → Order E → X → Result X E
first [] x = Ok x
first (r ∷ rs) x = cond r.0 (Err r.1) (first rs x)

-- whether an order accepts, and by which fault it refuses, the answer aside
abbrev pub decision : {E : Type 0} → Order E → Result (Unit {0}) E
decision o = first o tt

-- the same of what was answered
abbrev pub verdict : {E X : Type 0} → Result X E → Result (Unit {0}) E
verdict (Ok x) = Ok tt
verdict (Err e) = Err e
