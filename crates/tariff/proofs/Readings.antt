-- The order of rating, part by part.
use Rattle.std.proofs.Common.{◌≡◌, ◌++◌, map, Some, None, Ok, Err, refl, ap, ◌∙◌}
use Rattle.std.specs.Result.{result_and}
use Rattle.std.proofs.lemmas.Bool.{ltb-false}
use Rattle.tariff.specs.declared.reading.Reading.{Reading}
use Rattle.tariff.specs.declared.fault.Field.TheVariants.{Rooms}
use Rattle.tariff.specs.declared.fault.RatingFault.TheVariants.{OutOfRange}
use Rattle.tariff.specs.declared.schedule.Rate.{Rate}
use Rattle.tariff.specs.Orders.{decision}
use Rattle.tariff.specs.Schedules.{rate_of}
use Rattle.tariff.specs.Readings.{beyond, limits, ranges, unused, contradictions, rating_order}
use Rattle.tariff.specs.Usages.{Within}
use Rattle.tariff.proofs.Orders.{passed, decision-append}

-- a reading with no rate is refused at once
pub no_rate : (r : Reading) → rate_of r.schedule r.rooms ≡ None → decision (rating_order r) ≡ Err (OutOfRange Rooms)
unfolding rating_order
no_rate r e = rw e refl

-- with a rate, its three parts decide in turn
pub in_turn : (r : Reading) (q : Rate) → rate_of r.schedule r.rooms ≡ Some q → decision (rating_order r) ≡ result_and (decision (map (beyond r) limits)) (result_and (decision (unused r)) (decision (contradictions r)))
unfolding rating_order
in_turn r q e =
    decision-append (ranges r) (unused r ++ contradictions r)
    ∙ ap (result_and (decision (ranges r))) (decision-append (unused r) (contradictions r))
    ∙ rw e refl

-- the numbers of an accepted reading are within their limits
pub within : (r : Reading) → Ok tt ≡ decision (map (beyond r) limits) → Ok tt ≡ decision (contradictions r) → Within r
within r e f =
    let k = passed (map (beyond r) limits) e in
    let m = passed (contradictions r) f in
    record {
      few = ltb-false _ _ m.1.0;
      kw = ltb-false _ _ k.1.1.0;
      kva = ltb-false _ _ k.1.1.1.0;
      off_peak_kva = ltb-false _ _ k.1.1.1.1.0;
      load = ltb-false _ _ k.1.1.1.1.1.0;
    }
