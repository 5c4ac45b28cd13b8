-- Copying a line into a buffer, as the last step of an order of refusals.
use Rattle.std.proofs.Common.{◌≡◌, ℕ, ◌≤◌, Bool, true, false, cond, ltb, leb, [], ◌∷◌, ◌++◌, Ok, Err, sym, refl, ◌∙◌, arith}
use Rattle.std.proofs.lemmas.Bool.{lt-leb, le-leb, ltb-true, ltb-false}
use Rattle.tariff.specs.Orders.{Order, first}
use Rattle.tariff.proofs.Orders.{Clear, passes_on}
use Rattle.fields.specs.Buffers.{copied}
use Rattle.fields.specs.declared.fault.LineFault.{LineFault}
use Rattle.fields.specs.declared.fault.LineFault.TheVariants.{BufferTooShort}

copied_by : (len room : ℕ) (b : Bool) → ltb room len ≡ b → copied len room ≡ cond b (Err BufferTooShort) (Ok len)
copied_by len room true t = rw (lt-leb len room (ltb-true room len t)) refl
copied_by len room false t = rw (le-leb len room (ltb-false room len t)) refl

-- where nothing before it refuses, copying decides
pub copied_last : (rs : Order LineFault) (len room : ℕ) → Clear rs → copied len room ≡ first (rs ++ (ltb room len, BufferTooShort) ∷ []) len
copied_last rs len room k = copied_by len room (ltb room len) refl ∙ sym (passes_on rs ((ltb room len, BufferTooShort) ∷ []) len k)

-- where there is room, it is done, and what it answers is the line's length
pub copied_fits : (len room : ℕ) → len ≤ room → copied len room ≡ Ok len
copied_fits len room l = rw (le-leb len room l) refl

pub copied_length : (len room n : ℕ) → Ok n ≡ copied len room → n ≡ len
copied_length len room n e = length_by (leb len room) e
  where
    length_by : (b : Bool) → Ok n ≡ cond b (Ok len) (Err BufferTooShort) → n ≡ len
    length_by true e = cc
    length_by false e = absurd (grind arith)
