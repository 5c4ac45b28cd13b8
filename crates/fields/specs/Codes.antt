-- Looking up a code.
use Rattle.std.specs.Prelude.{ℕ, List, Option, find}
use Rattle.std.specs.Str.{bytes_eq}
use Rattle.tariff.specs.Schedules.{code_of, schedules}
use Rattle.tariff.specs.declared.schedule.Schedule.{Schedule}

-- the first of a list that is spelt so
unfoldable pub coded : {X : Type 0} → (X → List ℕ) → List X → List ℕ → Option X
coded spelling xs bs = find (λ x. bytes_eq bs (spelling x)) xs

-- the schedule that has this code
abbrev pub schedule_of : List ℕ → Option Schedule
schedule_of bs = coded code_of schedules bs
