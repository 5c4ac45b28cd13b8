-- An accepted reading comes to what its month comes to.
use Rattle.tariff.proofs.Bills.{rates}
use Rattle.tariff.proofs.reading.Reading.rate.Goals as goal

pub returns-clause-values : goal.returns-clause-values
returns-clause-values c = rates c.args.self.now _ c.rated.result c.in_ok-usage.ensures.values (rw c.priced.ensures at c.rated.ensures)
