-- What is written of a call, and how the order of writing decides.
use Rattle.std.proofs.Common.{◌≡◌, ℕ, ◌<◌, ◌≤◌, List, [], length, Some, Err, Option, refl}
use Rattle.std.proofs.lemmas.Bool.{lt-ltb, le-ltb}
use Rattle.fields.specs.Buffers.{copied}
use Rattle.fields.specs.LineBuffers.{at_most, extended}
use Rattle.fields.specs.declared.fault.LineFault.{LineFault}
use Rattle.fields.specs.declared.fault.LineFault.TheVariants.{Shape}
use Rattle.fields.proofs.Copies.{copied_last}
use Rattle.fields.proofs.LineBuffers.{extended_all}
use Rattle.tariff.specs.Orders.{decision}
use Rattle.tariff.proofs.Orders.{Clear, refused_early}
use Rattle.calls.specs.declared.letter.Letter.{Letter}
use Rattle.calls.specs.Limits.{max_line}
use Rattle.calls.specs.Letters.{letter_code}
use Rattle.calls.specs.Records.{Record}
use Rattle.calls.specs.Writes.{letter, field_bytes, line_of, record_misspellings, written}

-- a buffer holds the call's line, once its letter and its fields were written
pub write_text : (r : Record) (l : Letter) (bs : List ℕ) (o p q : Option (List ℕ)) → l ≡ letter r → bs ≡ letter_code l → o ≡ Some [] → p ≡ extended max_line o bs → q ≡ extended max_line p (field_bytes r)
    → q ≡ at_most max_line (line_of r)
unfolding line_of
write_text r l bs o p q e c n a f = extended_all max_line o p q (letter_code (letter r)) (field_bytes r) n (rw (c, e) at a) f

pub write_long : (r : Record) (room : ℕ) → max_line < length (line_of r) → Err Shape ≡ written r room
write_long r room l = rw (lt-ltb max_line (length (line_of r)) l) refl

pub write_misspelt : (r : Record) (room : ℕ) (d : LineFault) → length (line_of r) ≤ max_line → Err d ≡ decision (record_misspellings r) → Err d ≡ written r room
write_misspelt r room d l e =
    rw (le-ltb max_line (length (line_of r)) l) (refused_early (record_misspellings r) _ tt (length (line_of r)) d e)

pub write_copied : (r : Record) (room : ℕ) → length (line_of r) ≤ max_line → Clear (record_misspellings r) → copied (length (line_of r)) room ≡ written r room
write_copied r room l k = rw (le-ltb max_line (length (line_of r)) l) (copied_last (record_misspellings r) (length (line_of r)) room k)
