-- The limit of answer lines.
use Rattle.std.specs.Prelude.{ℕ}

-- bytes of a line before its line feed: a bill whose every number is as long as its type allows
abbrev pub max_answer : ℕ
max_answer = 298
