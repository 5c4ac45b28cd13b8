-- A line is fields parted by commas.
use Rattle.std.specs.Prelude.{ℕ, cond, List, [], ◌∷◌, length, drop, ◌==◌, nat_le}

-- one byte more in front of the first field
abbrev pub onto : ℕ → List (List ℕ) → List (List ℕ)
onto c [] = (c ∷ []) ∷ []
onto c (f ∷ fs) = (c ∷ f) ∷ fs

-- the fields of a line
abbrev pub split : List ℕ → List (List ℕ)
split [] = [] ∷ []
split (c ∷ cs) = cond (c == 44) ([] ∷ split cs) (onto c (split cs))

-- those from the place i on; past the end there are none
abbrev pub left_at : List ℕ → ℕ → List (List ℕ)
left_at line i = cond (nat_le i (length line)) (split (drop i line)) []

-- the first field, which is empty where there is none, and the others
abbrev pub next : List (List ℕ) → List ℕ
next [] = []
next (f ∷ fs) = f

abbrev pub later : List (List ℕ) → List (List ℕ)
later [] = []
later (f ∷ fs) = fs
