-- How an account is spelt.
use Rattle.std.specs.Prelude.{ℕ, Bool, ◌&&◌, ◌||◌, List, length, nat_le}
use Rattle.std.specs.List.{list_all}
use Rattle.std.specs.Char.{is_ascii_digit, is_ascii_uppercase}
use Rattle.fields.specs.Limits.{max_account}

-- A to Z, or 0 to 9
abbrev pub account_byte : ℕ → Bool
account_byte c = is_ascii_uppercase c || is_ascii_digit c

-- an account: 1 to 12 such bytes
abbrev pub is_account : List ℕ → Bool
is_account bs = nat_le 1 (length bs) && nat_le (length bs) max_account && list_all account_byte bs
