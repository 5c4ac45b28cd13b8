-- How an order of refusals decides.
use Rattle.std.proofs.Common.{◌≡◌, Bool, true, false, cond, ◌⊎◌, List, [], ◌∷◌, ◌++◌, map, Some, Ok, Err, Result, refl, inl, inr}
use Rattle.std.specs.List.{find}
use Rattle.std.specs.Result.{result_and}
use Rattle.tariff.specs.Orders.{Order, first, decision}

-- no condition of an order holds
abbrev pub Clear : {E : Type 0} → Order E → Type 0
Clear [] = Unit {0}
Clear (r ∷ rs) = (r.0 ≡ false) × Clear rs

pub clear_first : {E X : Type 0} (rs : Order E) (x : X) → Clear rs → first rs x ≡ Ok x
clear_first [] x k = refl
clear_first (r ∷ rs) x k = rw k.0 (clear_first rs x k.1)

-- either none holds, or one refuses
pub ways : {E X : Type 0} (rs : Order E) (x : X) → Clear rs ⊎ ((d : E) × (first rs x ≡ Err d))
ways [] x = inl tt
ways (r ∷ rs) x = by_test r.0 r.1 rs x (ways rs x)
  where
    by_test : {E X : Type 0} (t : Bool) (e : E) (rs : Order E) (x : X) → Clear rs ⊎ ((d : E) × (first rs x ≡ Err d)) → ((t ≡ false) × Clear rs) ⊎ ((d : E) × (cond t (Err e) (first rs x) ≡ Err d))
    by_test true e rs x k = inr (e, refl)
    by_test false e rs x (inl k) = inl (refl, k)
    by_test false e rs x (inr k) = inr k

-- what passes meets no condition
pub passed : {E : Type 0} (rs : Order E) → Ok tt ≡ decision rs → Clear rs
passed [] e = tt
passed (r ∷ rs) e = by_head r.0 r.1 rs (passed rs) e
  where
    by_head : {E : Type 0} (t : Bool) (d : E) (rs : Order E) → (Ok tt ≡ decision rs → Clear rs) → Ok tt ≡ cond t (Err d) (decision rs) → (t ≡ false) × Clear rs
    by_head true d rs k e = cc
    by_head false d rs k e = (refl, k e)

-- one order after another
pub decision-append : {E : Type 0} (rs ss : Order E) → decision (rs ++ ss) ≡ result_and (decision rs) (decision ss)
decision-append [] ss = refl
decision-append (r ∷ rs) ss = by_head r.0 r.1 _ _ _ (decision-append rs ss)
  where
    by_head : {E : Type 0} (t : Bool) (e : E) (a b c : Result (Unit {0}) E) → a ≡ result_and b c → cond t (Err e) a ≡ result_and (cond t (Err e) b) c
    by_head true e a b c h = refl
    by_head false e a b c h = h

-- the same, the answer of each aside
pub refused_early : {E X Y : Type 0} (rs ss : Order E) (x : X) (y : Y) (d : E) → Err d ≡ first rs x → Err d ≡ first (rs ++ ss) y
refused_early [] ss x y d e = cc
refused_early (r ∷ rs) ss x y d e = early_by r.0 r.1 rs ss x y d e (refused_early rs ss x y d)
  where
    early_by : {E X Y : Type 0} (t : Bool) (f : E) (rs ss : Order E) (x : X) (y : Y) (d : E) → Err d ≡ cond t (Err f) (first rs x) → (Err d ≡ first rs x → Err d ≡ first (rs ++ ss) y) → Err d ≡ cond t (Err f) (first (rs ++ ss) y)
    early_by true f rs ss x y d e k = cc
    early_by false f rs ss x y d e k = k e

pub passes_on : {E X : Type 0} (rs ss : Order E) (x : X) → Clear rs → first (rs ++ ss) x ≡ first ss x
passes_on [] ss x k = refl
passes_on (r ∷ rs) ss x k = rw k.0 (passes_on rs ss x k.1)

-- the first thing of a list that its condition holds of refuses
pub found : {E X : Type 0} (f : X → Bool × E) (xs : List X) (x : X) → find (λ y. (f y).0) xs ≡ Some x → decision (map f xs) ≡ Err (f x).1
found f [] x e = cc
found f (y ∷ ys) x e = by_head (f y).0 (found f ys x) e
  where
    by_head : (t : Bool) → (find (λ z. (f z).0) ys ≡ Some x → decision (map f ys) ≡ Err (f x).1) → cond t (Some y) (find (λ z. (f z).0) ys) ≡ Some x → cond t (Err (f y).1) (decision (map f ys)) ≡ Err (f x).1
    by_head true k h = let q : y ≡ x = cc in rw q
    by_head false k h = k h
