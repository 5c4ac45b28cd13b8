-- Two fields, one after the other.
use Rattle.std.proofs.Common.{◌≡◌, w64, to_z, of_z, arith, rules}
use Rattle.std.proofs.lemmas.Int.{to_z-of_z}
use Rattle.std.proofs.lemmas.List.{length-append}
use Rattle.fields.proofs.LineBuffers.{extended_both, extended_last}
use Rattle.answers.proofs.Lengths.{rider_code_short}
use Rattle.answers.proofs.write.put_money.Goals as goal

pub returns : goal.returns
returns c =
    let z : to_z w64 (of_z w64 c.args.money.0) ≡ c.args.money.0 = search (rules, to_z-of_z) in
    let n = rw z at c.number.ensures in
    record {
      value = rw (← c.code_bytes.ensures) (extended_both _ _ _ _ _ _ c.field.ensures (extended_last _ _ _ _ n.value));
      bound = simp length-append (omega (arith, n.bound, rider_code_short c.args.rider));
    }
