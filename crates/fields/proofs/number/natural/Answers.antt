-- A first byte that may lead, and then the digits after it.
use Rattle.std.proofs.Common.{◌≡◌, ◌-◌, ◌<◌, length, get_or, None, sym, refl, ◌∙◌, rules}
use Rattle.fields.proofs.Numbers.{natural_by_parts}
use Rattle.fields.specs.SpellingLaws.{natural_law}
use Rattle.fields.proofs.number.natural.Goals as goal

pub returns : goal.returns
returns c =
    let bs : _ = c.args.bytes.now in
    let l : 0 < length bs = search rules in
    let e : c.from.result ≡ get_or bs 0 0 - 48 = search rules in
    let v = c.digits.ensures ∙ (rw e refl ∙ sym (natural_by_parts bs l c.if-not-leads.ensures)) in
    record { value = v; law = natural_law bs _ v }

pub returns-in_default-clause-law : goal.returns-in_default-clause-law
returns-in_default-clause-law c = natural_law c.args.bytes.now None (search rules)

pub returns-then-not-leads-clause-law : goal.returns-then-not-leads-clause-law
returns-then-not-leads-clause-law c = natural_law c.args.bytes.now None (search rules)
