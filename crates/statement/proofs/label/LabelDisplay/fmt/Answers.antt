-- What is written is the label.
use Rattle.std.proofs.Common.{◌≡◌, ◌≤◌, ◌^◌, ◌-◌, List, ℕ, ◌∷◌, length, arith}
use Rattle.std.proofs.Output.{has_written_of_eq}
use Rattle.std.specs.Fmt.{padded, format_spec}
use Rattle.statement.specs.Layout.{label}
use Rattle.statement.proofs.Columns.{padded_left}
use Rattle.statement.proofs.label.LabelDisplay.fmt.Goals as goal

in_columns : (name : List ℕ) → length name ≤ 20 → 32 ∷ 32 ∷ padded (format_spec 32 1 0 20 (2 ^ 64 - 1)) name ≡ label name
unfolding label
in_columns name short = rw (padded_left 20 name (omega arith))

pub returns-clause-writes : goal.returns-clause-writes
returns-clause-writes g c =
    let written = rw (c.laid_out.ensures) at c.write.ensures.writes in
    λ p k. has_written_of_eq _ _ _ _ _ (in_columns _ c.args.self.now.short) (written p k)
