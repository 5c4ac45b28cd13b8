-- A line's fields, found byte by byte.
use Rattle.std.proofs.Common.{◌≡◌, ℕ, suc, count_by, not, position, unwrap_or, ◌+◌, ◌-◌, ◌≤◌, Bool, true, false, cond, eqb, leb, List, [], ◌∷◌, length, take, drop, sym, refl, ap, ◌∙◌, arith}
use Rattle.std.specs.List.{position_or_len}
use Rattle.std.proofs.lemmas.List.{take_rest, length-drop, drop-drop}
use Rattle.std.proofs.lemmas.List.Recursion.{is_count_by}
use Rattle.std.proofs.lemmas.Bool.{le-leb}
use Rattle.std.proofs.lemmas.Bool.Decides.{nat_tests}
use Rattle.calls.specs.Splits.{split, onto, left_at, next, later}

next_onto : (c : ℕ) (fs : List (List ℕ)) → next (onto c fs) ≡ c ∷ next fs
next_onto c [] = refl
next_onto c (f ∷ fs) = refl

later_onto : (c : ℕ) (fs : List (List ℕ)) → later (onto c fs) ≡ later fs
later_onto c [] = refl
later_onto c (f ∷ fs) = refl

-- a field ends before a comma or at the end of the line
pub record Ends (bs : List ℕ) (n : ℕ) : Type 0 where
  pub within : n ≤ length bs
  pub value : take n bs ≡ next (split bs)
  pub after : left_at bs (suc n) ≡ later (split bs)

left_within : (bs : List ℕ) (i : ℕ) → i ≤ length bs → left_at bs i ≡ split (drop i bs)
left_within bs i l = rw (le-leb i (length bs) l) refl

left_more : (c : ℕ) (cs : List ℕ) (i : ℕ) → left_at (c ∷ cs) (suc i) ≡ left_at cs i
left_more c cs i =
    let e : leb (suc i) (length (c ∷ cs)) ≡ leb i (length cs) = grind (arith, nat_tests) in
    rw e refl

ends_first : (bs : List ℕ) → Ends bs (position_or_len (λ c. eqb c 44) bs)
ends_first [] = record { within = omega arith; value = refl; after = refl }
ends_first (c ∷ cs) = ends_by (eqb c 44) refl (ends_first cs)
  where
    ends_by : (b : Bool) → eqb c 44 ≡ b → Ends cs (position_or_len (λ c. eqb c 44) cs) → Ends (c ∷ cs) (cond (not b) (1 + position_or_len (λ c. eqb c 44) cs) 0)
    ends_by true t e = record { within = omega arith; value = rw t refl; after = rw t (left_more c cs 0 ∙ left_within cs 0 (omega arith)) }
    ends_by false t e =
        let o : 1 + position_or_len (λ c. eqb c 44) cs ≡ suc (position_or_len (λ c. eqb c 44) cs) = omega arith in
        rw o (record { within = omega (arith, e.within); value = rw (t, next_onto c (split cs), ← e.value) refl; after = rw (t, later_onto c (split cs)) (left_more c cs _ ∙ e.after) })

pub ends : (bs : List ℕ) (n : ℕ) → n ≡ unwrap_or (position (λ c. eqb c 44) bs) (length bs) → Ends bs n
ends bs n e =
    let f = ends_first bs in
    let l : position_or_len (λ c. eqb c 44) bs ≤ length bs = f.within in
    let q : n ≡ position_or_len (λ c. eqb c 44) bs = grind (arith, nat_tests) in
    rw q f

-- the fields from a later place
left_drop : (bs : List ℕ) (i n : ℕ) → i ≤ length bs → left_at bs (i + n + 1) ≡ left_at (drop i bs) (suc n)
left_drop bs i n l =
    let e : leb (suc n) (length (drop i bs)) ≡ leb (i + n + 1) (length bs) = rw (length-drop i bs) (grind (arith, nat_tests)) in
    let d : drop (suc n) (drop i bs) ≡ drop (i + n + 1) bs = drop-drop (suc n) i bs ∙ ap (λ (k : ℕ). drop k bs) (omega arith) in
    rw (e, d) refl

pub step_value : (line : List ℕ) (i n : ℕ) → i ≤ length line
    → take n (take (length line - i) (drop i line)) ≡ next (split (take (length line - i) (drop i line)))
    → take (i + n - i) (drop i line) ≡ next (left_at line i)
step_value line i n l h =
    let e : i + n - i ≡ n = omega arith in
    rw (e, left_within line i l) (rw (take_rest line i) at h)

pub step_after : (line : List ℕ) (i n : ℕ) → i ≤ length line
    → left_at (take (length line - i) (drop i line)) (suc n) ≡ later (split (take (length line - i) (drop i line)))
    → left_at line (i + n + 1) ≡ later (left_at line i)
step_after line i n l h = rw (left_drop line i n l, left_within line i l) (rw (take_rest line i) at h)

-- every line has a first field
pub split_parts : (bs : List ℕ) → split bs ≡ next (split bs) ∷ later (split bs)
split_parts [] = refl
split_parts (c ∷ cs) = some_by (eqb c 44) c (split cs)
  where
    some_by : (b : Bool) (c : ℕ) (gs : List (List ℕ)) → cond b ([] ∷ gs) (onto c gs) ≡ next (cond b ([] ∷ gs) (onto c gs)) ∷ later (cond b ([] ∷ gs) (onto c gs))
    some_by true c gs = refl
    some_by false c [] = refl
    some_by false c (g ∷ gs) = refl

-- the fields after the first, counted by commas
later_more : (b : Bool) (c : ℕ) (cs : List ℕ) → length (later (cond b ([] ∷ split cs) (onto c (split cs)))) ≡ cond b (1 + length (later (split cs))) (length (later (split cs)))
later_more true c cs = omega (arith, ap length (split_parts cs))
later_more false c cs = rw (later_onto c (split cs)) refl

pub commas_count : (bs : List ℕ) → count_by (λ c. eqb c 44) bs ≡ length (later (split bs))
commas_count bs = sym (is_count_by (λ cs. length (later (split cs))) (λ c. eqb c 44) refl (λ c cs. later_more (eqb c 44) c cs) bs)
