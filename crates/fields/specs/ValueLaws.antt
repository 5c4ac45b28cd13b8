-- The values of fields, there and back.
use Rattle.std.proofs.Common.{◌≡◌, ℕ, ◌^◌, Bool, true, false, cond, List, [], ◌∷◌, ℤ, nat_abs, Some, Option, decimal, sym, refl, ap, ◌∙◌, arith}
use Rattle.std.specs.Fmt.{signed_decimal}
use Rattle.std.specs.Str.{bytes_eq}
use Rattle.std.proofs.lemmas.Bool.{ltb-true, lt-ltb}
use Rattle.std.proofs.lemmas.Slice.Eq.{bytes_eq-Decides}
use Rattle.fields.specs.Codes.{coded}
use Rattle.fields.specs.Limits.{max_digits}
use Rattle.fields.specs.Lines.{plain}
use Rattle.fields.specs.Numbers.{natural_of, integer_of, spells_natural, spells_integer}
use Rattle.fields.specs.Riders.{rider_code, house_riders}
use Rattle.fields.specs.declared.rider.HouseRider.{HouseRider}
use Rattle.fields.specs.declared.rider.HouseRider.TheVariants.{Fca, Ppca, Fos, Cilta, SubaHh, SubaNhh, Imp}
use Rattle.fields.specs.SpellingLaws.{natural_back, natural_text, integer_back, integer_text, plain_decimal, plain_signed}
use Rattle.tariff.specs.Schedules.{code_of, schedules}
use Rattle.tariff.specs.declared.schedule.Schedule.{Schedule}
use Rattle.tariff.specs.declared.schedule.Schedule.TheVariants.{Grs, Lrs, Rh3, Rfr, Gss, Gsp, Gst, TouP, TouT, Gas, Lp13}

pub natural_said : (bs : List ℕ) (n : ℕ) → natural_of bs ≡ Some n → (decimal n ≡ bs) × (spells_natural n ≡ true)
natural_said bs n e = let p = natural_text bs n e in (p.0, lt-ltb n (10 ^ max_digits) p.1)

pub natural_again : (n : ℕ) → spells_natural n ≡ true → (natural_of (decimal n) ≡ Some n) × (plain (decimal n) ≡ true)
natural_again n h = let l = ltb-true n (10 ^ max_digits) h in (natural_back n l, plain_decimal n l)

pub integer_said : (bs : List ℕ) (z : ℤ) → integer_of bs ≡ Some z → (signed_decimal z ≡ bs) × (spells_integer z ≡ true)
integer_said bs z e = let p = integer_text bs z e in (p.0, lt-ltb (nat_abs z) (10 ^ max_digits) p.1)

pub integer_again : (z : ℤ) → spells_integer z ≡ true → (integer_of (signed_decimal z) ≡ Some z) × (plain (signed_decimal z) ≡ true)
integer_again z h = let l = ltb-true (nat_abs z) (10 ^ max_digits) h in (integer_back z l, plain_signed z l)

-- what a list of codes finds has that code
coded_by : {X : Type 0} (spelling : X → List ℕ) (b : Bool) (x y : X) (o : Option X) (bs : List ℕ) → bytes_eq bs (spelling x) ≡ b → (o ≡ Some y → spelling y ≡ bs) → cond b (Some x) o ≡ Some y
    → spelling y ≡ bs
coded_by spelling true x y o bs t go e = let q : x ≡ y = cc in ap spelling (sym q) ∙ sym ((bytes_eq-Decides bs (spelling x)).0 t)
coded_by spelling false x y o bs t go e = go e

pub coded_text : {X : Type 0} (spelling : X → List ℕ) (xs : List X) (bs : List ℕ) (y : X) → coded spelling xs bs ≡ Some y → spelling y ≡ bs
unfolding coded
coded_text spelling [] bs y e = absurd (grind arith)
coded_text spelling (x ∷ xs) bs y e = coded_by spelling (bytes_eq bs (spelling x)) x y (coded spelling xs bs) bs refl (coded_text spelling xs bs y) e

pub schedule_found : (s : Schedule) → (coded code_of schedules (code_of s) ≡ Some s) × (plain (code_of s) ≡ true)
unfolding coded
schedule_found Grs = (refl, refl)
schedule_found Lrs = (refl, refl)
schedule_found Rh3 = (refl, refl)
schedule_found Rfr = (refl, refl)
schedule_found Gss = (refl, refl)
schedule_found Gsp = (refl, refl)
schedule_found Gst = (refl, refl)
schedule_found TouP = (refl, refl)
schedule_found TouT = (refl, refl)
schedule_found Gas = (refl, refl)
schedule_found Lp13 = (refl, refl)

pub rider_found : (r : HouseRider) → (coded rider_code house_riders (rider_code r) ≡ Some r) × (plain (rider_code r) ≡ true)
unfolding coded
rider_found Fca = (refl, refl)
rider_found Ppca = (refl, refl)
rider_found Fos = (refl, refl)
rider_found Cilta = (refl, refl)
rider_found SubaHh = (refl, refl)
rider_found SubaNhh = (refl, refl)
rider_found Imp = (refl, refl)
