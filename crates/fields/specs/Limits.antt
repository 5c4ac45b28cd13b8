-- The limits of fields.
use Rattle.std.specs.Prelude.{ℕ}

-- bytes of an account
abbrev pub max_account : ℕ
max_account = 12

-- digits of a number
abbrev pub max_digits : ℕ
max_digits = 16
