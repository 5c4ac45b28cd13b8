-- The letters of call lines.
use Rattle.std.specs.Prelude.{ℕ, List, [], ◌∷◌, codes, Option}
use Rattle.fields.specs.Codes.{coded}
use Rattle.calls.specs.declared.letter.Letter.{Letter}
use Rattle.calls.specs.declared.letter.Letter.TheVariants.{Rate, Post, Void, File, Enter, Report}

-- a letter as its line spells it
abbrev pub letter_code : Letter → List ℕ
letter_code Rate = codes "R"
letter_code Post = codes "P"
letter_code Void = codes "V"
letter_code File = codes "F"
letter_code Enter = codes "C"
letter_code Report = codes "Q"

-- all of them
abbrev pub letters : List Letter
letters = Rate ∷ Post ∷ Void ∷ File ∷ Enter ∷ Report ∷ []

-- the letter that a field spells
abbrev pub letter_of : List ℕ → Option Letter
letter_of bs = coded letter_code letters bs
