-- How an answer is written as a line.
use Rattle.std.specs.Prelude.{ℕ, not, List, [], ◌∷◌, ◌++◌, map, length, codes, decimal, Result, nat_lt}
use Rattle.std.specs.Fmt.{signed_decimal}
use Rattle.fields.specs.Accounts.{is_account}
use Rattle.fields.specs.Lines.{with_commas}
use Rattle.fields.specs.Riders.{rider_code}
use Rattle.fields.specs.declared.fault.LineField.TheVariants.{Account}
use Rattle.fields.specs.declared.fault.LineFault.{LineFault}
use Rattle.fields.specs.declared.fault.LineFault.TheVariants.{Misspelt, BufferTooShort}
use Rattle.tariff.specs.Orders.{Order, first}
use Rattle.answers.specs.Replies.{Reply, bill, posted, voided, filed, entered, reported, refused}

-- the letter of an answer
abbrev pub reply_letter : Reply → List ℕ
reply_letter (bill number account base riders total) = codes "D"
reply_letter (posted number) = codes "P"
reply_letter (voided number) = codes "V"
reply_letter (filed rider factor) = codes "F"
reply_letter (entered rider balance) = codes "C"
reply_letter (reported rider balance factor forecast sold bills money) = codes "Q"
reply_letter (refused refusal) = codes "X"

-- its fields
abbrev pub reply_fields : Reply → List (List ℕ)
reply_fields (bill number account base riders total) =
    decimal number ∷ account ∷ (map signed_decimal base ++ (map signed_decimal riders ++ signed_decimal total ∷ []))
reply_fields (posted number) = decimal number ∷ []
reply_fields (voided number) = decimal number ∷ []
reply_fields (filed rider factor) = rider_code rider ∷ signed_decimal factor ∷ []
reply_fields (entered rider balance) = rider_code rider ∷ signed_decimal balance ∷ []
reply_fields (reported rider balance factor forecast sold bills money) =
    rider_code rider ∷ signed_decimal balance ∷ signed_decimal factor ∷ decimal forecast ∷ decimal sold ∷ decimal bills ∷ signed_decimal money ∷ []
reply_fields (refused refusal) = decimal refusal.number ∷ decimal refusal.layer ∷ decimal refusal.field ∷ []

-- each field of an answer after a comma, and the answer's line
unfoldable pub field_bytes : Reply → List ℕ
field_bytes r = with_commas (reply_fields r)

unfoldable pub reply_line : Reply → List ℕ
reply_line r = reply_letter r ++ field_bytes r

-- a bill's account may be misspelt
abbrev pub misspellings : Reply → Order LineFault
misspellings (bill number account base riders total) = (not (is_account account), Misspelt Account) ∷ []
misspellings (posted number) = []
misspellings (voided number) = []
misspellings (filed rider factor) = []
misspellings (entered rider balance) = []
misspellings (reported rider balance factor forecast sold bills money) = []
misspellings (refused refusal) = []

-- the order of writing into a buffer of so many bytes: a misspelt account, a buffer too short
abbrev pub answering_order : Reply → ℕ → Order LineFault
answering_order r room = misspellings r ++ (nat_lt room (length (reply_line r)), BufferTooShort) ∷ []

-- what writing answers: a refusal, or the number of bytes
abbrev pub answered : Reply → ℕ → Result ℕ LineFault
answered r room = first (answering_order r room) (length (reply_line r))
