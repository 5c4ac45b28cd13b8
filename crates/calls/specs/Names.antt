-- Accounts, as a field spells them.
use Rattle.std.specs.Prelude.{ℕ, cond, List, Some, None, Option}
use Rattle.fields.specs.Accounts.{is_account}

-- the bytes themselves, where they are an account
abbrev pub account_of : List ℕ → Option (List ℕ)
account_of bs = cond (is_account bs) (Some bs) None
