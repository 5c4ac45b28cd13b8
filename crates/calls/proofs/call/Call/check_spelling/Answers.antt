-- Each test in its turn decides.
use Rattle.std.proofs.Common.{◌≡◌, refl, w64, to_z, of_z, rules}
use Rattle.std.proofs.lemmas.Int.{to_z-of_z}
use Rattle.calls.proofs.call.Call.check_spelling.Goals as goal

pub returns-then-not-is_account : goal.returns-then-not-is_account
returns-then-not-is_account c = rw (c.in-Rate.is, ← c.if-not-is_account.ensures) refl

pub returns-else-not-is_account : goal.returns-else-not-is_account
returns-else-not-is_account c = rw (c.in-Rate.is, ← c.if-not-is_account.ensures) c.check_numbers.ensures

pub returns-then-not-spells_integer : goal.returns-then-not-spells_integer
returns-then-not-spells_integer c =
    let z : to_z w64 (of_z w64 c.in-File.cost.0) ≡ c.in-File.cost.0 = search (rules, to_z-of_z) in
    rw (c.in-File.is, ← z, ← c.if-not-spells_integer.ensures) refl

pub returns-then-not-spells_natural : goal.returns-then-not-spells_natural
returns-then-not-spells_natural c =
    let z : to_z w64 (of_z w64 c.in-File.cost.0) ≡ c.in-File.cost.0 = search (rules, to_z-of_z) in
    rw (c.in-File.is, ← z, ← c.if-not-spells_integer.ensures, ← c.if-not-spells_natural.ensures) refl

pub returns-else-not-spells_natural : goal.returns-else-not-spells_natural
returns-else-not-spells_natural c =
    let z : to_z w64 (of_z w64 c.in-File.cost.0) ≡ c.in-File.cost.0 = search (rules, to_z-of_z) in
    rw (c.in-File.is, ← z, ← c.if-not-spells_integer.ensures, ← c.if-not-spells_natural.ensures) refl

pub returns-then-not-spells_integer-2 : goal.returns-then-not-spells_integer-2
returns-then-not-spells_integer-2 c =
    let z : to_z w64 (of_z w64 c.in-Enter.amount.0) ≡ c.in-Enter.amount.0 = search (rules, to_z-of_z) in
    rw (c.in-Enter.is, ← z, ← c.if-not-spells_integer-2.ensures) refl

pub returns-else-not-spells_integer-2 : goal.returns-else-not-spells_integer-2
returns-else-not-spells_integer-2 c =
    let z : to_z w64 (of_z w64 c.in-Enter.amount.0) ≡ c.in-Enter.amount.0 = search (rules, to_z-of_z) in
    rw (c.in-Enter.is, ← z, ← c.if-not-spells_integer-2.ensures) refl
