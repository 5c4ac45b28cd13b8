-- Every letter is found as itself.
use Rattle.std.proofs.Common.{◌≡◌, true, Some, refl}
use Rattle.fields.specs.Lines.{plain}
use Rattle.fields.specs.Codes.{coded}
use Rattle.calls.specs.declared.letter.Letter.{Letter}
use Rattle.calls.specs.declared.letter.Letter.TheVariants.{Rate, Post, Void, File, Enter, Report}
use Rattle.calls.specs.Letters.{letter_code, letters}

pub letter_found : (l : Letter) → (coded letter_code letters (letter_code l) ≡ Some l) × (plain (letter_code l) ≡ true)
unfolding coded
letter_found Rate = (refl, refl)
letter_found Post = (refl, refl)
letter_found Void = (refl, refl)
letter_found File = (refl, refl)
letter_found Enter = (refl, refl)
letter_found Report = (refl, refl)
