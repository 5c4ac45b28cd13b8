-- The parts of the order decide in turn.
use Rattle.std.proofs.Common.{◌≡◌, Some, arith}
use Rattle.std.proofs.lemmas.Result.{err_from_is_err_and}
use Rattle.tariff.specs.Schedules.{rate_of}
use Rattle.tariff.proofs.Readings.{in_turn}
use Rattle.tariff.proofs.reading.Reading.usage.Goals as goal

pub returns-in_err-check_limits-clause-verdict : goal.returns-in_err-check_limits-clause-verdict
returns-in_err-check_limits-clause-verdict c =
    let r = c.args.self.now in
    let p = err_from_is_err_and c.from_residual-in_err-check_limits.result c.from_residual-in_err-check_limits.ensures.1 in
    let q : rate_of r.schedule r.rooms ≡ Some c.in_ok-rate.rate = grind arith in
    rw (p.1, p.2, in_turn r _ q, ← c.in_err-check_limits.ensures)

pub returns-in_err-check_unused-clause-verdict : goal.returns-in_err-check_unused-clause-verdict
returns-in_err-check_unused-clause-verdict c =
    let r = c.args.self.now in
    let p = err_from_is_err_and c.from_residual-in_err-check_unused.result c.from_residual-in_err-check_unused.ensures.1 in
    let q : rate_of r.schedule r.rooms ≡ Some c.in_ok-rate.rate = grind arith in
    rw (p.1, p.2, in_turn r _ q, ← c.in_ok-check_limits.ensures, ← c.in_err-check_unused.ensures)

pub returns-in_err-check_agreement-clause-verdict : goal.returns-in_err-check_agreement-clause-verdict
returns-in_err-check_agreement-clause-verdict c =
    let r = c.args.self.now in
    let p = err_from_is_err_and c.from_residual-in_err-check_agreement.result c.from_residual-in_err-check_agreement.ensures.1 in
    let q : rate_of r.schedule r.rooms ≡ Some c.in_ok-rate.rate = grind arith in
    rw (p.1, p.2, in_turn r _ q, ← c.in_ok-check_limits.ensures, ← c.in_ok-check_unused.ensures, ← c.in_err-check_agreement.ensures)

pub returns-clause-verdict : goal.returns-clause-verdict
returns-clause-verdict c =
    let r = c.args.self.now in
    let q : rate_of r.schedule r.rooms ≡ Some c.in_ok-rate.rate = grind arith in
    rw (in_turn r _ q, ← c.in_ok-check_limits.ensures, ← c.in_ok-check_unused.ensures, ← c.in_ok-check_agreement.ensures)
