-- The first field that is found is the one that the order refuses.
use Rattle.std.proofs.Common.{sym}
use Rattle.tariff.specs.Readings.{stray, fields}
use Rattle.tariff.proofs.Orders.{found}
use Rattle.tariff.proofs.reading.Reading.check_unused.Goals as goal

pub returns-in-Some : goal.returns-in-Some
returns-in-Some c = sym (found (stray c.args.self.now) fields _ (sym c.in-Some.ensures))
