-- The limit of call lines.
use Rattle.std.specs.Prelude.{ℕ}

-- bytes of a line before its line feed
abbrev pub max_line : ℕ
max_line = 120
