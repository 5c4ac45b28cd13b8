-- What is written to an empty string is all that it holds.
use Rattle.std.proofs.Common.{ap, ◌∙◌, ◌++◌}
use Rattle.std.proofs.Output.{if_some_weaken}
use Rattle.std.proofs.lemmas.Fmt.{contents_after_writes}
use Rattle.statement.proofs.text.text.Goals as goal

pub returns : goal.returns
returns g c =
    if_some_weaken (g.D.Display.output c.args.value) _ _
    (λ bytes wrote. contents_after_writes _ (λ t. t.bytes) (λ w l v t. t) _ bytes _ wrote ∙ ap (λ l. l ++ bytes) c.new-text.ensures)
    c.in_ok-write.ensures.writes
