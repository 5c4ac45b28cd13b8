-- How fields make a line.
use Rattle.std.specs.Prelude.{ℕ, Bool, true, not, ◌&&◌, ◌==◌, List, [], ◌∷◌, ◌++◌}

-- each field with a comma before it
abbrev pub with_commas : List (List ℕ) → List ℕ
with_commas [] = []
with_commas (f ∷ fs) = 44 ∷ (f ++ with_commas fs)

-- bytes with no comma
abbrev pub plain : List ℕ → Bool
plain [] = true
plain (c ∷ cs) = not (c == 44) && plain cs
