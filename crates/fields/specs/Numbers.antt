-- How a number is spelt.
use Rattle.std.specs.Prelude.{◌≡◌, ℕ, zero, suc, ◌+◌, ◌-◌, ◌*◌, ◌^◌, ◌<◌, Bool, cond, not, ◌&&◌, ◌||◌, List, [], ◌∷◌, length, ℤ, pos, negsuc, Some, None, decimal, Option, ◌==◌, ◌≢◌, nat_lt, unsigned_abs}
use Rattle.std.specs.Char.{is_ascii_digit}
use Rattle.std.specs.Fmt.{signed_decimal}
use Rattle.std.specs.Str.{all_ascii_digits}
use Rattle.fields.specs.Limits.{max_digits}

-- the number that digits go on to from the number n
abbrev pub value_on : ℕ → List ℕ → ℕ
value_on n [] = n
value_on n (c ∷ cs) = value_on (n * 10 + (c - 48)) cs

-- the same, where all are digits
abbrev pub read_on : ℕ → List ℕ → Option ℕ
read_on n cs = cond (all_ascii_digits cs) (Some (value_on n cs)) None

-- a number may begin so: a digit, 0 only where no other follows, and not too many bytes in all
abbrev pub leads_number : ℕ → List ℕ → Bool
leads_number c cs = is_ascii_digit c && (not (c == 48) || length cs == 0) && nat_lt (length cs) max_digits

-- 1 to 16 digits, the first one 0 only where it is the only one
abbrev pub natural_of : List ℕ → Option ℕ
natural_of [] = None
natural_of (c ∷ cs) = cond (leads_number c cs) (read_on (c - 48) cs) None

-- what stands after a minus: a number other than 0
abbrev pub minus : Option ℕ → Option ℤ
minus None = None
minus (Some zero) = None
minus (Some (suc n)) = Some (negsuc n)

-- no minus
abbrev pub plus : Option ℕ → Option ℤ
plus None = None
plus (Some n) = Some (pos n)

-- such a number, or a minus and then one other than 0
abbrev pub integer_of : List ℕ → Option ℤ
integer_of [] = None
integer_of (c ∷ cs) = cond (c == 45) (minus (natural_of cs)) (plus (natural_of (c ∷ cs)))

-- a field can spell the number: it has at most 16 digits
abbrev pub spells_natural : ℕ → Bool
spells_natural n = nat_lt n (10 ^ max_digits)

-- the same, its sign aside
abbrev pub spells_integer : ℤ → Bool
spells_integer z = spells_natural (unsigned_abs z)

-- the law of numbers: bytes spell the number that is written as them, and none where no number of at most 16 digits is
abbrev pub SpellsNatural : List ℕ → Option ℕ → Type 0
SpellsNatural bs None = (n : ℕ) → n < 10 ^ max_digits → decimal n ≢ bs
SpellsNatural bs (Some n) = (decimal n ≡ bs) × (n < 10 ^ max_digits)

-- the same of signed numbers
abbrev pub SpellsInteger : List ℕ → Option ℤ → Type 0
SpellsInteger bs None = (z : ℤ) → unsigned_abs z < 10 ^ max_digits → signed_decimal z ≢ bs
SpellsInteger bs (Some z) = (signed_decimal z ≡ bs) × (unsigned_abs z < 10 ^ max_digits)
