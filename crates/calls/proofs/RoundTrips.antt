-- A call written and read again, a line read and written again.
use Rattle.std.proofs.Common.{◌≡◌, ℕ, suc, ◌≤◌, Bool, true, false, cond, eqb, leb, List, [], ◌∷◌, ◌++◌, length, take, drop, is_ok, IfOk, Some, None, Ok, Err, Option, Result, sym, refl, ap, ◌∙◌, subst, arith}
use Rattle.std.proofs.lemmas.List.{take_at}
use Rattle.std.proofs.lemmas.Bool.{not-false, not_from_true, le-leb, leb-true, eq-eqb, eqb-true}
use Rattle.fields.specs.Buffers.{copied, at_front}
use Rattle.fields.specs.Lines.{with_commas}
use Rattle.fields.specs.ValueLaws.{coded_text}
use Rattle.fields.specs.declared.fault.LineFault.{LineFault}
use Rattle.fields.specs.declared.fault.LineFault.TheVariants.{Shape}
use Rattle.fields.proofs.Copies.{copied_length}
use Rattle.tariff.proofs.Orders.{Clear}
use Rattle.calls.specs.declared.call.Call.{Call}
use Rattle.calls.specs.declared.letter.Letter.{Letter}
use Rattle.calls.specs.declared.letter.Letter.TheVariants.{Rate, Post, Void, File, Enter, Report}
use Rattle.calls.specs.LetterLaws.{letter_found}
use Rattle.calls.specs.Limits.{max_line}
use Rattle.calls.specs.Formats.{Format, Values, value_in, format, Placed, record_of}
use Rattle.calls.specs.Letters.{letter_code, letters, letter_of}
use Rattle.calls.specs.Reads.{meant, taken, read_by, read_as, read_after, read_line}
use Rattle.calls.specs.Records.{Record, meaning, rate, post, void, file, enter, report}
use Rattle.calls.specs.Splits.{split, next, later}
use Rattle.calls.specs.Writes.{letter, values_of, spellings, field_bytes, line_of, misspellings, record_misspellings, Rewrites}
use Rattle.calls.proofs.Joins.{AllPlain, split_joined, joined_split}
use Rattle.calls.proofs.FieldKinds.{kind_text, kind_back}
use Rattle.calls.proofs.Orders.{write_copied}

-- values, written and read by a format
read_back : {X : Type 0} (fs : Format) (vs : Values fs) (make : Values fs → X) → Clear (misspellings fs vs) → read_by fs (spellings fs vs) make ≡ Ok (make vs)
read_back [] vs make k = refl
read_back (f ∷ fs) vs make k =
    rw (kind_back f.0 vs.0 (not-false _ k.0)).0 (read_back fs vs.1 (λ us. make (vs.0, us)) k.1)

plain_back : (fs : Format) (vs : Values fs) → Clear (misspellings fs vs) → AllPlain (spellings fs vs)
plain_back [] vs k = tt
plain_back (f ∷ fs) vs k = ((kind_back f.0 vs.0 (not-false _ k.0)).1, plain_back fs vs.1 k.1)

-- fields that a format reads are the spellings of the values that it reads
record Said {X : Type 0} (fs : Format) (bs : List (List ℕ)) (make : Values fs → X) (x : X) : Type 0 where
  values : Values fs
  is : make values ≡ x
  fields : spellings fs values ≡ bs
  clear : Clear (misspellings fs values)

taken_ok : {V X : Type 0} (d : LineFault) (o : Option V) (go : V → Result X LineFault) (x : X) → taken d o go ≡ Ok x → (v : V) × (o ≡ Some v) × (go v ≡ Ok x)
taken_ok d None go x e = absurd (grind arith)
taken_ok d (Some v) go x e = (v, refl, e)

said : {X : Type 0} (fs : Format) (bs : List (List ℕ)) (make : Values fs → X) (x : X) → length bs ≡ length fs → read_by fs bs make ≡ Ok x → Said fs bs make x
said [] [] make x l e = record { values = tt; is = cc; fields = refl; clear = tt }
said [] (b ∷ bs) make x l e = absurd (omega arith)
said (f ∷ fs) [] make x l e = absurd (omega arith)
said (f ∷ fs) (b ∷ bs) make x l e =
    let p = taken_ok f.1 (value_in f.0 b) _ x e in
    let t = kind_text f.0 b p.0 p.1 in
    let s = said fs bs (λ us. make (p.0, us)) x (omega arith) p.2 in
    record {
      values = (p.0, s.values);
      is = s.is;
      fields = rw (t.0, s.fields) refl;
      clear = (not_from_true _ t.1, s.clear);
    }

-- a call and its values
same_record : (r : Record) → record_of (letter r) (values_of r) ≡ r
same_record (rate a d) = refl
same_record post = refl
same_record void = refl
same_record (file r cost forecast) = refl
same_record (enter r amount) = refl
same_record (report r) = refl

record Listed (l : Letter) (vs : Values (format l)) (r : Record) : Type 0 where
  line : line_of r ≡ letter_code l ++ with_commas (spellings (format l) vs)
  clear : Clear (misspellings (format l) vs) → Clear (record_misspellings r)

listed : (l : Letter) (vs : Values (format l)) → Listed l vs (record_of l vs)
unfolding line_of field_bytes
listed Rate vs = record { line = refl; clear = λ k. k }
listed Post vs = record { line = refl; clear = λ k. k }
listed Void vs = record { line = refl; clear = λ k. k }
listed File vs = record { line = refl; clear = λ k. k }
listed Enter vs = record { line = refl; clear = λ k. k }
listed Report vs = record { line = refl; clear = λ k. k }

-- faults name places
pub placed : (l : Letter) → Placed 2 (format l)
placed Rate = (refl, (refl, (refl, (refl, (refl, (refl, (refl, (refl, (refl, tt)))))))))
placed Post = tt
placed Void = tt
placed File = (refl, (refl, (refl, tt)))
placed Enter = (refl, (refl, tt))
placed Report = (refl, tt)

-- a line of a letter and as many fields as it has is read by them
pub read_shaped : (line : List ℕ) (l : Letter) → length line ≤ max_line → letter_of (next (split line)) ≡ Some l → true ≡ eqb (length (later (split line))) (length (format l))
    → read_line line ≡ read_as l (later (split line))
read_shaped line l s e n = rw (le-leb (length line) max_line s, e, ← n) refl

-- a line written from a call is read as that call
spelt_count : (fs : Format) (vs : Values fs) → length (spellings fs vs) ≡ length fs
spelt_count [] vs = refl
spelt_count (f ∷ fs) vs = ap suc (spelt_count fs vs.1)

pub reads_back : (r : Record) → length (line_of r) ≤ max_line → Clear (record_misspellings r) → read_line (line_of r) ≡ Ok r
unfolding line_of field_bytes
reads_back r s k =
    let l = letter r in
    let vs = values_of r in
    let b = letter_found l in
    let q : split (line_of r) ≡ letter_code l ∷ spellings (format l) vs = split_joined (letter_code l) (spellings (format l) vs) b.1 (plain_back (format l) vs k) in
    read_shaped (line_of r) l s (rw q b.0) (sym (eq-eqb _ _ (ap (λ (fs : List (List ℕ)). length (later fs)) q ∙ spelt_count (format l) vs)))
    ∙ (rw q (read_back (format l) vs (record_of l) k) ∙ ap (λ (x : Record). Ok x) (same_record r))

-- what a buffer holds that a call was written into is read as that call
pub buffer_reads_back : (r : Record) (x : Result ℕ LineFault) (before after : List ℕ) → length (line_of r) ≤ max_line → Clear (record_misspellings r)
    → x ≡ copied (length (line_of r)) (length before) → after ≡ cond (is_ok x) (at_front (line_of r) before) before
    → IfOk x (λ n. read_line (take n after) ≡ Ok r)
buffer_reads_back r (Ok n) before after s k e f =
    let m : length (line_of r) ≡ n = sym (copied_length (length (line_of r)) (length before) n e) in
    rw (f, take_at (line_of r) (drop (length (line_of r)) before) n m) (reads_back r s k)
buffer_reads_back r (Err d) before after s k e f = tt

-- an accepted line is the line written from its call
cond_ok : {X : Type 0} (b : Bool) (x : Result X LineFault) (r : X) → cond b x (Err Shape) ≡ Ok r → (b ≡ true) × (x ≡ Ok r)
cond_ok true x r e = (refl, e)
cond_ok false x r e = absurd (grind arith)

record Accepted (line : List ℕ) (r : Record) : Type 0 where
  short : length line ≤ max_line
  by : Letter
  letter : letter_of (next (split line)) ≡ Some by
  fields : Said (format by) (later (split line)) (record_of by) r

after_ok : (o : Option Letter) (bs : List (List ℕ)) (r : Record) → read_after o bs ≡ Ok r → (l : Letter) × (o ≡ Some l) × Said (format l) bs (record_of l) r
after_ok None bs r e = absurd (grind arith)
after_ok (Some l) bs r e =
    let p = cond_ok (eqb (length bs) (length (format l))) (read_as l bs) r e in
    (l, refl, said (format l) bs (record_of l) r (eqb-true _ _ p.0) p.1)

accepted : (line : List ℕ) (r : Record) → read_line line ≡ Ok r → Accepted line r
accepted line r e =
    let p = cond_ok (leb (length line) max_line) (read_after (letter_of (next (split line))) (later (split line))) r e in
    let q = after_ok (letter_of (next (split line))) (later (split line)) r p.1 in
    record { short = leb-true _ _ p.0; by = q.0; letter = q.1; fields = q.2 }

same_line : (line : List ℕ) (r : Record) → Accepted line r → (line_of r ≡ line) × Clear (record_misspellings r)
same_line line r a =
    let l = a.by in
    let s = a.fields in
    let T : Record → Type 0 = λ x. Listed l s.values x in
    let m = subst T s.is (listed l s.values) in
    (m.line ∙ (rw (s.fields, coded_text letter_code letters _ l a.letter) (joined_split line)), m.clear s.clear)

rewrites : (line : List ℕ) (r : Record) → read_line line ≡ Ok r → Rewrites line r
rewrites line r e =
    let a = accepted line r e in
    let m = same_line line r a in
    let s : length (line_of r) ≤ max_line = rw m.0 a.short in
    record { same = m.0; fits = λ room. sym (write_copied r room s m.1) ∙ rw m.0 refl }

pub read_rewrites : (x : Result Call LineFault) (line : List ℕ) → meant x ≡ read_line line → IfOk x (λ call. Rewrites line (meaning call))
read_rewrites (Ok call) line e = rewrites line (meaning call) (sym e)
read_rewrites (Err d) line e = tt
