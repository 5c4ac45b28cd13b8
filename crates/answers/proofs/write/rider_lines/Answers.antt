-- Each place of the result is that of the line at it.
use Rattle.std.proofs.Common.{◌≡◌, length, get_or, pos, sym, ◌∙◌, arith, rules}
use Rattle.std.proofs.lemmas.List.{ext_get_or, length-map, get_or-map}
use Rattle.money.specs.declared.amount.Cents.{Cents}
use Rattle.answers.specs.Replies.{amounts}
use Rattle.answers.proofs.write.rider_lines.Goals as goal

pub returns : goal.returns
returns c =
    let h = c.map.ensures.items in
    let d : Cents = record { 0 = pos 0 } in
    let n : length c.map.result ≡ 7 = search rules in
    let m : length (amounts c.args.lines.now) ≡ 7 = length-map c.args.lines.now (λ x. x.0) ∙ c.told-lines in
    ext_get_or (pos 0) c.map.result (amounts c.args.lines.now) (n ∙ sym m) (λ i l.
    let k = h.at i d (pos 0) (omega arith) in
    let e : get_or c.map.result i (pos 0) ≡ (get_or c.args.lines.now i d).0 = search rules in
    e ∙ sym (get_or-map (λ (x : Cents). x.0) c.args.lines.now i d (pos 0) (omega (arith, c.told-lines))))
