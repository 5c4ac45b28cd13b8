-- What a line buffer holds.
use Rattle.std.specs.Prelude.{◌≡◌, ℕ, cond, List, ◌++◌, length, Some, None, Option, nat_le}
use Rattle.std.specs.Option.{option_map}
use Rattle.fields.specs.declared.line.LineBuffer.{LineBuffer}

-- bytes, if they are not too many
abbrev pub at_most : ℕ → List ℕ → Option (List ℕ)
at_most n bs = cond (nat_le (length bs) n) (Some bs) None

-- what a buffer of at most n bytes holds, which is nothing once that was passed
abbrev pub held : (n : ℕ) → LineBuffer n → Option (List ℕ)
held n t = option_map (λ v. v.items) t.bytes

-- the same with more bytes after it
unfoldable pub extended : ℕ → Option (List ℕ) → List ℕ → Option (List ℕ)
extended n None ys = None
extended n (Some xs) ys = at_most n (xs ++ ys)

-- a buffer before and after more bytes were added to it
abbrev pub Extends : (n : ℕ) → LineBuffer n → LineBuffer n → List ℕ → Type 0
Extends n before after ys = held n after ≡ extended n (held n before) ys
