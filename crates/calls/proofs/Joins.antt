-- Fields joined by commas and parted again, a line parted and joined again.
use Rattle.std.proofs.Common.{◌≡◌, ℕ, Bool, true, false, cond, not, eqb, List, [], ◌∷◌, ◌++◌, refl, ap}
use Rattle.std.proofs.lemmas.Bool.{and_parts, not-true, eqb-true}
use Rattle.fields.specs.Lines.{with_commas}
use Rattle.fields.specs.Lines.{plain}
use Rattle.calls.specs.Splits.{split, onto, next, later}
use Rattle.calls.proofs.Fields.{split_parts}

-- no field holds a comma
abbrev pub AllPlain : List (List ℕ) → Type 0
AllPlain [] = Unit {0}
AllPlain (f ∷ fs) = (plain f ≡ true) × AllPlain fs

split_field : (f rest : List ℕ) (gs : List (List ℕ)) → plain f ≡ true → split rest ≡ [] ∷ gs → split (f ++ rest) ≡ f ∷ gs
split_field [] rest gs p h = h
split_field (c ∷ cs) rest gs p h =
    let q = and_parts (not (eqb c 44)) (plain cs) p in
    rw (not-true (eqb c 44) q.0, split_field cs rest gs q.1 h) refl

split_commas : (fs : List (List ℕ)) → AllPlain fs → split (with_commas fs) ≡ [] ∷ fs
split_commas [] p = refl
split_commas (f ∷ fs) p = rw (split_field f (with_commas fs) fs p.0 (split_commas fs p.1)) refl

pub split_joined : (f : List ℕ) (fs : List (List ℕ)) → plain f ≡ true → AllPlain fs → split (f ++ with_commas fs) ≡ f ∷ fs
split_joined f fs p ps = split_field f (with_commas fs) fs p (split_commas fs ps)

join_by : (b : Bool) (c : ℕ) (cs : List ℕ) (gs : List (List ℕ)) → eqb c 44 ≡ b → next gs ++ with_commas (later gs) ≡ cs → gs ≡ next gs ∷ later gs
    → next (cond b ([] ∷ gs) (onto c gs)) ++ with_commas (later (cond b ([] ∷ gs) (onto c gs))) ≡ c ∷ cs
join_by true c cs gs t h n = rw (eqb-true c 44 t) (rw n (ap (λ (ys : List ℕ). 44 ∷ ys) h))
join_by false c cs [] t h n = ap (λ (ys : List ℕ). c ∷ ys) h
join_by false c cs (g ∷ gs) t h n = ap (λ (ys : List ℕ). c ∷ ys) h

pub joined_split : (bs : List ℕ) → next (split bs) ++ with_commas (later (split bs)) ≡ bs
joined_split [] = refl
joined_split (c ∷ cs) = join_by (eqb c 44) c cs (split cs) refl (joined_split cs) (split_parts cs)
