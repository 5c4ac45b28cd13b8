-- The loop writes one field more.
use Rattle.std.proofs.Common.{◌∙◌, [], ap, sym, rules, drop}
use Rattle.std.specs.List.{flat_map}
use Rattle.std.proofs.Output.{has_written_append, has_written_of_eq}
use Rattle.std.proofs.lemmas.List.{take_more, flat_map_more}
use Rattle.tariff.specs.declared.fault.Field.TheVariants.{Rooms}
use Rattle.tariff.specs.Readings.{fields}
use Rattle.tariff.specs.Texts.{next_text}
use Rattle.tariff.proofs.reading.ReadingDisplay.fmt.Goals as goal

pub loop-field-preserved : goal.loop-field-preserved
loop-field-preserved g c = λ plain.
    let text = next_text c.args.self.now in
    let more = flat_map_more text [] _ _ ∙ ap (flat_map text) (sym (take_more (drop 1 fields) c.loop-field.field-index Rooms c.loop-field-test.true)) in
    has_written_of_eq _ _ _ _ _ more (has_written_append _ _ _ _ _ _ (c.loop-field.invariant plain) (search rules))
