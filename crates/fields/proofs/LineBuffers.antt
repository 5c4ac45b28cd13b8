-- What a line buffer holds as it grows.
use Rattle.std.proofs.Common.{IsTrue, ◌≡◌, ℕ, ◌+◌, ◌*◌, ◌<◌, ◌≤◌, Bool, true, false, cond, leb, List, [], ◌∷◌, ◌++◌, length, Some, None, Option, sym, refl, ap, ◌∙◌, arith}
use Rattle.std.proofs.Math.Nat.{mul-add}
use Rattle.std.proofs.lemmas.Bool.{lt-leb, leb-true, leb-false}
use Rattle.std.proofs.lemmas.Bool.Decides.{nat_tests}
use Rattle.std.proofs.lemmas.List.{append_assoc, append-nil, length-append}
use Rattle.std.specs.Option.{option_map}
use Rattle.arrayvec.specs.ArrayVec.{ArrayVec}
use Rattle.fields.specs.Buffers.{fits}
use Rattle.fields.specs.Lines.{with_commas}
use Rattle.fields.specs.declared.line.LineBuffer.{LineBuffer}
use Rattle.fields.specs.LineBuffers.{at_most, held, extended}

-- adding nothing, and adding twice
pub extended_none : (n : ℕ) (t : LineBuffer n) → held n t ≡ extended n (held n t) []
unfolding extended
extended_none n t = none_by t.bytes t.within
  where
    none_by : (b : Option (ArrayVec ℕ)) → IsTrue (fits n b) → option_map (λ v. v.items) b ≡ extended n (option_map (λ v. v.items) b) []
    none_by None w = refl
    none_by (Some v) w = rw (append-nil v.items, w) refl

twice_by : (n : ℕ) (xs ys zs : List ℕ) (b : Bool) → leb (length (xs ++ ys)) n ≡ b → extended n (cond b (Some (xs ++ ys)) None) zs ≡ at_most n (xs ++ (ys ++ zs))
unfolding extended
twice_by n xs ys zs true e = rw (append_assoc xs ys zs) refl
twice_by n xs ys zs false e =
    let l : n < length (xs ++ (ys ++ zs)) = omega (arith, leb-false (length (xs ++ ys)) n e, length-append xs ys, length-append xs (ys ++ zs), length-append ys zs) in
    rw (lt-leb (length (xs ++ (ys ++ zs))) n l) refl

extended_twice : (n : ℕ) (o : Option (List ℕ)) (ys zs : List ℕ) → extended n (extended n o ys) zs ≡ extended n o (ys ++ zs)
unfolding extended
extended_twice n None ys zs = refl
extended_twice n (Some xs) ys zs = twice_by n xs ys zs (leb (length (xs ++ ys)) n) refl

-- a step that adds ys and then one that adds zs
pub extended_both : (n : ℕ) (o p q : Option (List ℕ)) (ys zs : List ℕ) → p ≡ extended n o ys → q ≡ extended n p zs → q ≡ extended n o (ys ++ zs)
extended_both n o p q ys zs e f = f ∙ (ap (λ (x : Option (List ℕ)). extended n x zs) e ∙ extended_twice n o ys zs)

-- the last field of a line: nothing follows it
pub extended_last : (n : ℕ) (o p : Option (List ℕ)) (ys : List ℕ) → p ≡ extended n o ys → p ≡ extended n o (ys ++ [])
extended_last n o p ys e = rw (append-nil ys) e

pub extended_same : (n : ℕ) (o p : Option (List ℕ)) (ys zs : List ℕ) → ys ≡ zs → p ≡ extended n o ys → p ≡ extended n o zs
extended_same n o p ys zs e f = rw e at f

-- what a new text holds once bytes were added
extended_new : (n : ℕ) (o : Option (List ℕ)) (ys : List ℕ) → o ≡ Some [] → extended n o ys ≡ at_most n ys
unfolding extended
extended_new n o ys e = rw e refl

-- what a buffer holds that was new and to which ys and then zs were added
pub extended_all : (n : ℕ) (o p q : Option (List ℕ)) (ys zs : List ℕ) → o ≡ Some [] → p ≡ extended n o ys → q ≡ extended n p zs → q ≡ at_most n (ys ++ zs)
extended_all n o p q ys zs e f g = extended_both n o p q ys zs f g ∙ extended_new n o (ys ++ zs) e

-- bytes that are too many, and bytes that are not
pub at_most_none : (n : ℕ) (ys : List ℕ) → None ≡ at_most n ys → n < length ys
at_most_none n ys e = grind (arith, nat_tests)

pub at_most_some : (n : ℕ) (xs ys : List ℕ) → Some xs ≡ at_most n ys → (xs ≡ ys) × (length ys ≤ n)
at_most_some n xs ys e = some_by (leb (length ys) n) refl e
  where
    some_by : (b : Bool) → leb (length ys) n ≡ b → Some xs ≡ cond b (Some ys) None → (xs ≡ ys) × (length ys ≤ n)
    some_by true t e = (cc, leb-true (length ys) n t)
    some_by false t e = absurd (grind arith)

-- one field more, and one list of fields after another
pub commas_append : (fs gs : List (List ℕ)) → with_commas (fs ++ gs) ≡ with_commas fs ++ with_commas gs
commas_append [] gs = refl
commas_append (f ∷ fs) gs =
    ap (λ (z : List ℕ). 44 ∷ z) (ap (λ (z : List ℕ). f ++ z) (commas_append fs gs) ∙ sym (append_assoc f (with_commas fs) (with_commas gs)))

pub commas_push : (fs : List (List ℕ)) (f : List ℕ) → with_commas (fs ++ f ∷ []) ≡ with_commas fs ++ 44 ∷ f
commas_push fs f = commas_append fs (f ∷ []) ∙ ap (λ (z : List ℕ). with_commas fs ++ 44 ∷ z) (append-nil f)

-- one more field of at most m bytes, with its comma
pub more_bytes : (m : ℕ) (xs ys : List ℕ) (i : ℕ) (c : ℕ) → length xs ≤ (m + 1) * i → length ys ≤ m → length (xs ++ c ∷ ys) ≤ (m + 1) * (i + 1)
more_bytes m xs ys i c p q = omega (arith, length-append xs (c ∷ ys), mul-add (m + 1) i 1)
