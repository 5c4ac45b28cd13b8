-- After a minus the rest decides.
use Rattle.std.proofs.Common.{◌<◌, length, None, sym, ap, ◌∙◌, rules}
use Rattle.fields.specs.Numbers.{minus}
use Rattle.fields.proofs.Numbers.{integer_minus}
use Rattle.fields.specs.SpellingLaws.{integer_law}
use Rattle.fields.proofs.number.integer.Goals as goal

pub returns-in_err-natural : goal.returns-in_err-natural
returns-in_err-natural c =
    let l : 0 < length c.args.bytes.now = search rules in
    let v = c.from_residual.ensures ∙ (ap minus c.in_err-natural.ensures.value ∙ sym (integer_minus c.args.bytes.now l c.if-first-eq45.true)) in
    record { value = v; law = integer_law c.args.bytes.now _ v }

pub returns-in_ok-natural : goal.returns-in_ok-natural
returns-in_ok-natural c =
    let l : 0 < length c.args.bytes.now = search rules in
    let v = c.negative.ensures ∙ (ap minus c.in_ok-natural.ensures.value ∙ sym (integer_minus c.args.bytes.now l c.if-first-eq45.true)) in
    record { value = v; law = integer_law c.args.bytes.now _ v }

pub returns-in_default-clause-law : goal.returns-in_default-clause-law
returns-in_default-clause-law c = integer_law c.args.bytes.now None (search rules)
