-- Digits read one by one, and what a number's spelling is.
use Rattle.std.proofs.Common.{◌≡◌, ℕ, ◌+◌, ◌-◌, ◌^◌, ◌<◌, ◌≤◌, true, List, length, get_or, refl, ap, ◌∙◌, arith}
use native.Mathlib.Nat.{pow-le-pow_right}
use Rattle.std.specs.List.{between}
use Rattle.std.proofs.lemmas.Slice.{first_rest}
use Rattle.fields.specs.Numbers.{read_on, leads_number, natural_of, integer_of, minus}

-- a number of i + 1 digits is one of k digits, if i is below k
pub fewer_digits : (i k n : ℕ) → i < k → n < 10 ^ (i + 1) → n < 10 ^ k
fewer_digits i k n l h =
    let q : i + 1 ≤ k = omega arith in
    let p : 10 ^ (i + 1) ≤ 10 ^ k = pow-le-pow_right {n = 10} (omega arith) q in
    omega arith

-- a number by its first byte and the others
pub natural_by_parts : (bs : List ℕ) → 0 < length bs → true ≡ leads_number (get_or bs 0 0) (between 1 (length bs) bs) → natural_of bs ≡ read_on (get_or bs 0 0 - 48) (between 1 (length bs) bs)
natural_by_parts bs l t = ap natural_of (first_rest bs 0 l) ∙ rw (← t) refl

pub integer_minus : (bs : List ℕ) → 0 < length bs → get_or bs 0 0 ≡ 45 → integer_of bs ≡ minus (natural_of (between 1 (length bs) bs))
integer_minus bs l e = ap integer_of (first_rest bs 0 l) ∙ rw e refl
