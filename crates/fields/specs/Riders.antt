-- The riders of the house bank: their codes and their order.
use Rattle.std.specs.Prelude.{ℕ, List, [], ◌∷◌, codes, Option}
use Rattle.fields.specs.Codes.{coded}
use Rattle.fields.specs.declared.rider.HouseRider.{HouseRider}
use Rattle.fields.specs.declared.rider.HouseRider.TheVariants.{Fca, Ppca, Fos, Cilta, SubaHh, SubaNhh, Imp}

-- a rider's code
abbrev pub rider_code : HouseRider → List ℕ
rider_code Fca = codes "FCA"
rider_code Ppca = codes "PPCA"
rider_code Fos = codes "FOS"
rider_code Cilta = codes "CILTA"
rider_code SubaHh = codes "SUBA-HH"
rider_code SubaNhh = codes "SUBA-NHH"
rider_code Imp = codes "IMP"

-- all of them, in the order of the bank
abbrev pub house_riders : List HouseRider
house_riders = Fca ∷ Ppca ∷ Fos ∷ Cilta ∷ SubaHh ∷ SubaNhh ∷ Imp ∷ []

-- the rider that has this code
abbrev pub rider_of : List ℕ → Option HouseRider
rider_of bs = coded rider_code house_riders bs
