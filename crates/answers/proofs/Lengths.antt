-- What is written of an answer, and how long it is at most.
use Rattle.std.proofs.Common.{◌≡◌, ℕ, ◌<◌, ◌≤◌, false, not, ◌&&◌, leb, List, [], ◌∷◌, ◌++◌, length, Some, Option, sym, refl, ap, ◌∙◌, subst, arith}
use Rattle.std.proofs.lemmas.List.{length-append}
use Rattle.std.proofs.lemmas.Bool.{and_parts, leb-true, not-false}
use Rattle.std.specs.List.{list_all}
use Rattle.fields.specs.Accounts.{account_byte, is_account}
use Rattle.fields.specs.Limits.{max_account}
use Rattle.fields.specs.Lines.{with_commas}
use Rattle.fields.specs.Riders.{rider_code}
use Rattle.fields.specs.declared.rider.HouseRider.{HouseRider}
use Rattle.fields.specs.declared.rider.HouseRider.TheVariants.{Fca, Ppca, Fos, Cilta, SubaHh, SubaNhh, Imp}
use Rattle.fields.specs.LineBuffers.{at_most, extended}
use Rattle.fields.proofs.LineBuffers.{extended_all, commas_append, commas_push}
use Rattle.answers.specs.Limits.{max_answer}
use Rattle.answers.specs.Lines.{reply_letter, field_bytes, reply_line}
use Rattle.answers.specs.Replies.{Reply, bill, posted, voided, filed, entered, reported, refused}

pub rider_code_short : (r : HouseRider) → length (rider_code r) ≤ 8
rider_code_short Fca = omega arith
rider_code_short Ppca = omega arith
rider_code_short Fos = omega arith
rider_code_short Cilta = omega arith
rider_code_short SubaHh = omega arith
rider_code_short SubaNhh = omega arith
rider_code_short Imp = omega arith

-- the fields of a bill
pub bill_fields : (number account : List ℕ) (base riders : List (List ℕ)) (total : List ℕ)
    → with_commas (number ∷ account ∷ (base ++ (riders ++ total ∷ [])))
    ≡ (44 ∷ number) ++ ((44 ∷ account) ++ (with_commas base ++ (with_commas riders ++ 44 ∷ total)))
bill_fields number account base riders total =
    ap (λ (z : List ℕ). (44 ∷ number) ++ ((44 ∷ account) ++ z))
    (commas_append base (riders ++ total ∷ []) ∙ ap (λ (z : List ℕ). with_commas base ++ z) (commas_push riders total))

pub bill_short : (number account : List ℕ) (base riders : List (List ℕ)) (total : List ℕ)
    → length number ≤ 10 → length account ≤ 12 → length (with_commas base) ≤ 105 → length (with_commas riders) ≤ 147 → length total ≤ 20
    → length (with_commas (number ∷ account ∷ (base ++ (riders ++ total ∷ [])))) ≤ 297
bill_short number account base riders total n a b r t =
    let q : length ((44 ∷ number) ++ ((44 ∷ account) ++ (with_commas base ++ (with_commas riders ++ 44 ∷ total)))) ≤ 297 = simp length-append (omega arith) in
    let P : List ℕ → Type 0 = λ z. length z ≤ 297 in
    subst P (sym (bill_fields number account base riders total)) q

pub account_short : (a : List ℕ) → not (is_account a) ≡ false → length a ≤ max_account
account_short a h =
    let p = and_parts (leb 1 (length a) && leb (length a) max_account) (list_all account_byte a) (not-false (is_account a) h) in
    leb-true (length a) max_account (and_parts (leb 1 (length a)) (leb (length a) max_account) p.0).1

-- every answer begins with one letter
letter_short : (r : Reply) → length (reply_letter r) ≡ 1
letter_short (bill number account base riders total) = refl
letter_short (posted number) = refl
letter_short (voided number) = refl
letter_short (filed rider factor) = refl
letter_short (entered rider balance) = refl
letter_short (reported rider balance factor forecast sold bills money) = refl
letter_short (refused refusal) = refl

-- a buffer holds the answer's line, once its letter and its fields were written
pub answer_text : (r : Reply) (bs : List ℕ) (o p q : Option (List ℕ)) → bs ≡ reply_letter r → o ≡ Some [] → p ≡ extended max_answer o bs → q ≡ extended max_answer p (field_bytes r)
    → q ≡ at_most max_answer (reply_line r)
unfolding reply_line
answer_text r bs o p q e n a f = extended_all max_answer o p q (reply_letter r) (field_bytes r) n (rw e at a) f

pub line_short : (r : Reply) → length (field_bytes r) < max_answer → length (reply_line r) ≤ max_answer
unfolding reply_line
line_short r l = simp length-append (omega (arith, letter_short r))
