-- A value written and read again, bytes read and written again; and no value's spelling holds a comma.
use Rattle.std.proofs.Common.{◌≡◌, ℕ, zero, suc, ◌-◌, ◌^◌, ◌<◌, ◌≤◌, Bool, true, false, cond, ◌&&◌, eqb, leb, List, [], ◌∷◌, length, get_or, ℤ, pos, negsuc, nat_abs, Some, None, decimal, Option, sym, refl, ap, ◌∙◌, zero-add, arith}
use Rattle.std.specs.List.{list_all}
use Rattle.std.specs.Char.{is_ascii_digit}
use Rattle.std.specs.Fmt.{signed_decimal}
use Rattle.std.specs.Str.{all_ascii_digits}
use Rattle.std.proofs.lemmas.Fmt.{digits_decimal, digits_value-decimal, length-decimal-le, decimal_nonempty, first_decimal, decimal_digit, decimal-digits_value}
use Rattle.std.proofs.lemmas.Str.Parse.{IsNumeralModel, numerals_by_fold, tells_all_ascii_digits, digits_value_short}
use Rattle.std.proofs.lemmas.Bool.{ne_eqb, eqb-true, lt-ltb, and_parts}
use Rattle.std.proofs.lemmas.Bool.Decides.{nat_tests}
use Rattle.fields.specs.Accounts.{account_byte, is_account}
use Rattle.fields.specs.Lines.{plain}
use Rattle.fields.specs.Limits.{max_account, max_digits}
use Rattle.fields.specs.Numbers.{value_on, leads_number, natural_of, integer_of, minus, plus, SpellsNatural, SpellsInteger}

own : IsNumeralModel (λ ds. all_ascii_digits ds ≡ true) (value_on 0)
own = numerals_by_fold _ tells_all_ascii_digits value_on (record { empty = λ n. refl; more = λ n c cs h. refl })

-- a number's digits are read as that number
by_first : (ds : List ℕ) → all_ascii_digits ds ≡ true → 0 < length ds → length ds ≤ max_digits → 48 < get_or ds 0 0 → natural_of ds ≡ Some (value_on 0 ds)
by_first [] d s l f = absurd (omega arith)
by_first (c ∷ cs) d s l f =
    let p = and_parts (is_ascii_digit c) (all_ascii_digits cs) d in
    let h : leads_number c cs ≡ true = rw (p.0, ne_eqb c 48 (λ e. omega arith), lt-ltb (length cs) max_digits (omega arith)) refl in
    let e : value_on 0 (c ∷ cs) ≡ value_on (c - 48) cs = ap (λ (n : ℕ). value_on n cs) (zero-add (c - 48)) in
    rw (h, p.1, e) refl

pub natural_back : (n : ℕ) → n < 10 ^ max_digits → natural_of (decimal n) ≡ Some n
natural_back zero h = rw (decimal_digit 0 (omega arith)) refl
natural_back (suc n) h =
    let s : suc n < 2 ^ 64 = omega arith in
    by_first (decimal (suc n)) (digits_decimal own (suc n) s) (decimal_nonempty (suc n) s) (length-decimal-le max_digits (suc n) (omega arith) h s) (first_decimal (suc n) (omega arith) s)
    ∙ ap (λ (m : ℕ). Some m) (digits_value-decimal own (suc n) s)

-- what is read as a number is that number's digits
natural_digits : (c n : ℕ) (cs : List ℕ) → natural_of (c ∷ cs) ≡ Some n → (all_ascii_digits (c ∷ cs) ≡ true) × (c ≡ 48 → length cs ≡ 0) × (length cs < max_digits) × (value_on (c - 48) cs ≡ n)
natural_digits c n [] e = (grind (arith, nat_tests), λ _. refl, omega arith, grind (arith, nat_tests))
natural_digits c n (d ∷ ds) e = (grind (arith, nat_tests), grind (arith, nat_tests), grind (arith, nat_tests), grind (arith, nat_tests))

pub natural_text : (bs : List ℕ) (n : ℕ) → natural_of bs ≡ Some n → (decimal n ≡ bs) × (n < 10 ^ max_digits)
natural_text [] n e = absurd (grind arith)
natural_text (c ∷ cs) n e =
    let p = natural_digits c n cs e in
    let v : value_on 0 (c ∷ cs) ≡ n = ap (λ (m : ℕ). value_on m cs) (zero-add (c - 48)) ∙ p.3 in
    let s : value_on 0 (c ∷ cs) < 10 ^ max_digits = digits_value_short own (c ∷ cs) max_digits p.0 (omega (arith, p.2)) in
    let one : c ≡ 48 → suc (length cs) ≡ 1 = λ h. omega (arith, p.1 h) in
    (sym (ap decimal v) ∙ decimal-digits_value own (c ∷ cs) p.0 (omega arith) one (omega arith), omega arith)

-- the same of signed numbers
integer_plain : (ds : List ℕ) (n : ℕ) → natural_of ds ≡ Some n → integer_of ds ≡ Some (pos n)
integer_plain [] n e = absurd (grind arith)
integer_plain (c ∷ cs) n e =
    let p = natural_digits c n cs e in
    let d = and_parts (is_ascii_digit c) (all_ascii_digits cs) p.0 in
    let g : 48 ≤ c = grind (arith, nat_tests) in
    rw (ne_eqb c 45 (λ h. omega arith), e) refl

pub integer_back : (z : ℤ) → nat_abs z < 10 ^ max_digits → integer_of (signed_decimal z) ≡ Some z
integer_back (pos n) h = integer_plain (decimal n) n (natural_back n h)
integer_back (negsuc n) h = rw (natural_back (suc n) h) refl

minus_of : (o : Option ℕ) (z : ℤ) → minus o ≡ Some z → (n : ℕ) × (o ≡ Some (suc n)) × (z ≡ negsuc n)
minus_of None z e = absurd (grind arith)
minus_of (Some zero) z e = absurd (grind arith)
minus_of (Some (suc n)) z e = (n, refl, cc)

plus_of : (o : Option ℕ) (z : ℤ) → plus o ≡ Some z → (n : ℕ) × (o ≡ Some n) × (z ≡ pos n)
plus_of None z e = absurd (grind arith)
plus_of (Some n) z e = (n, refl, cc)

integer_text_by : (b : Bool) (c : ℕ) (cs : List ℕ) (z : ℤ) → eqb c 45 ≡ b → cond b (minus (natural_of cs)) (plus (natural_of (c ∷ cs))) ≡ Some z → (signed_decimal z ≡ c ∷ cs) × (nat_abs z < 10 ^ max_digits)
integer_text_by true c cs z t e =
    let p = minus_of (natural_of cs) z e in
    let q = natural_text cs (suc p.0) p.1 in
    (ap signed_decimal p.2 ∙ (ap (λ (ys : List ℕ). 45 ∷ ys) q.0 ∙ ap (λ (k : ℕ). k ∷ cs) (sym (eqb-true c 45 t))), rw p.2 q.1)
integer_text_by false c cs z t e =
    let p = plus_of (natural_of (c ∷ cs)) z e in
    let q = natural_text (c ∷ cs) p.0 p.1 in
    rw p.2 (q.0, q.1)

pub integer_text : (bs : List ℕ) (z : ℤ) → integer_of bs ≡ Some z → (signed_decimal z ≡ bs) × (nat_abs z < 10 ^ max_digits)
integer_text [] z e = absurd (grind arith)
integer_text (c ∷ cs) z e = integer_text_by (eqb c 45) c cs z refl e

-- so a field spells a number exactly where it is what the number is written as
pub natural_law : (bs : List ℕ) (o : Option ℕ) → o ≡ natural_of bs → SpellsNatural bs o
natural_law bs None e = λ n l h.
    let q : None ≡ Some n = e ∙ (ap natural_of (sym h) ∙ natural_back n l) in
    grind arith
natural_law bs (Some n) e = natural_text bs n (sym e)

pub integer_law : (bs : List ℕ) (o : Option ℤ) → o ≡ integer_of bs → SpellsInteger bs o
integer_law bs None e = λ z l h.
    let q : None ≡ Some z = e ∙ (ap integer_of (sym h) ∙ integer_back z l) in
    grind arith
integer_law bs (Some z) e = integer_text bs z (sym e)

-- there is no comma in bytes that pass a test which a comma does not
plain_by : (test : ℕ → Bool) (all : List ℕ → Bool) → ((c : ℕ) (cs : List ℕ) → all (c ∷ cs) ≡ (test c && all cs)) → ((c : ℕ) → test c ≡ true → c ≡ 44 → ⊥)
    → (bs : List ℕ) → all bs ≡ true → plain bs ≡ true
plain_by test all step apart [] h = refl
plain_by test all step apart (c ∷ cs) h =
    let p = and_parts (test c) (all cs) (sym (step c cs) ∙ h) in
    rw (ne_eqb c 44 (apart c p.0), plain_by test all step apart cs p.1) refl

digit_no_comma : (c : ℕ) → is_ascii_digit c ≡ true → c ≡ 44 → ⊥
digit_no_comma c h e = let g : 48 ≤ c = grind (arith, nat_tests) in omega arith

account_no_comma : (c : ℕ) → account_byte c ≡ true → c ≡ 44 → ⊥
account_no_comma c h e = let g : 48 ≤ c = grind (arith, nat_tests) in omega arith

pub plain_decimal : (n : ℕ) → n < 10 ^ max_digits → plain (decimal n) ≡ true
plain_decimal n h = plain_by is_ascii_digit all_ascii_digits (λ _ _. refl) digit_no_comma (decimal n) (digits_decimal own n (omega arith))

pub plain_signed : (z : ℤ) → nat_abs z < 10 ^ max_digits → plain (signed_decimal z) ≡ true
plain_signed (pos n) h = plain_decimal n h
plain_signed (negsuc n) h = plain_decimal (suc n) h

pub plain_account : (a : List ℕ) → is_account a ≡ true → plain a ≡ true
plain_account a h =
    plain_by account_byte (list_all account_byte) (λ _ _. refl) account_no_comma a (and_parts (leb 1 (length a) && leb (length a) max_account) (list_all account_byte a) h).1
