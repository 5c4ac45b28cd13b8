-- A line of the right shape is read by its fields, and written again.
use Rattle.std.proofs.Common.{◌≡◌, ℕ, ◌≤◌, List, length, Some, sym, ap, ◌∙◌}
use Rattle.std.proofs.lemmas.Bool.{ltb-false}
use Rattle.calls.specs.Limits.{max_line}
use Rattle.calls.specs.Letters.{letter_of}
use Rattle.calls.specs.Reads.{meant, read_as, read_line}
use Rattle.calls.specs.Splits.{split, next, later}
use Rattle.calls.proofs.RoundTrips.{placed, read_shaped, read_rewrites}
use Rattle.calls.proofs.call.Call.read.Goals as goal

pub returns : goal.returns
returns c =
    let line : List ℕ = c.args.line.now in
    let s : length line ≤ max_line = ltb-false _ _ (sym c.if-too_long.ensures) in
    let e : c.new-reader.result ≡ split line = c.new-reader.ensures in
    let l : letter_of (next (split line)) ≡ Some c.in-Some.letter
    = sym (c.in-Some.ensures.value ∙ ap letter_of (ap next e)) in
    let a : c.value.new.self ≡ later (split line) = c.in-Some.ensures.after ∙ ap later e in
    let v : meant c.read_fields.result ≡ read_line line
    = c.read_fields.ensures ∙ (ap (read_as c.in-Some.letter) a ∙ sym (read_shaped line c.in-Some.letter s l c.if-not-is_complete.ensures)) in
    record { value = v; places = placed; back = read_rewrites c.read_fields.result line v }
