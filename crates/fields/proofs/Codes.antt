-- The search through a list of codes, step by step.
use Rattle.std.proofs.Common.{◌≡◌, ℕ, ◌+◌, ◌<◌, ◌≤◌, Bool, cond, List, length, get_or, drop, Some, None, sym, refl, ◌∙◌}
use Rattle.std.specs.Str.{bytes_eq}
use Rattle.std.proofs.lemmas.List.{at_drop_more, at_drop_all}
use Rattle.fields.specs.Codes.{coded}

-- at an item that is or is not spelt so, what the search finds from there on
pub coded_step : {X : Type 0} (spelling : X → List ℕ) (xs : List X) (i : ℕ) (x : X) (bs ys : List ℕ) (r : Bool) → i < length xs → x ≡ get_or xs i x → ys ≡ spelling x → r ≡ bytes_eq bs ys
    → coded spelling (drop i xs) bs ≡ cond r (Some x) (coded spelling (drop (i + 1) xs) bs)
unfolding coded
coded_step spelling xs i x bs ys r l q e m =
    let t : bytes_eq bs (spelling x) ≡ r = rw e at (sym m) in
    at_drop_more (λ (zs : List _). coded spelling zs bs) xs i x l ∙ rw (← q, t) refl

pub coded_end : {X : Type 0} (spelling : X → List ℕ) (xs : List X) (i : ℕ) (bs : List ℕ) → length xs ≤ i → coded spelling (drop i xs) bs ≡ None
unfolding coded
coded_end spelling xs i bs l = at_drop_all (λ (zs : List _). coded spelling zs bs) xs i l
