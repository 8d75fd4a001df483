-- What is written to a comparison.
use Rattle.std.proofs.Common.{◌≡◌, ℕ, zero, suc, ◌+◌, ◌<◌, ◌≤◌, true, false, List, [], ◌∷◌, ◌++◌, length, take, drop, map, length-drop, min, Option, Some, None, Ok, Err, refl, sym, ap, subst, ◌∙◌, append_assoc, append-nil, arith}
use Rattle.std.specs.Prelude.{slice_get, is_some, IfSome, IsSome}
use Rattle.std.proofs.Math.Seq.{take-add}
use Rattle.cf_io.specs.Puts.{Puts}
use Rattle.cf_audit.specs.Compared.{Comparison, IsComparison, HasOther, IsOther, DifferAt, byte_list, put_of, exposed_by_sink}

-- the bytes up to an index, and the byte there
one_more : (bytes : List ℕ) (same : ℕ) → same ≤ length bytes → take (min (length bytes) (same + 1)) bytes ≡ take same bytes ++ byte_list (slice_get bytes same)
one_more [] same within = let none : min 0 (same + 1) ≡ zero = omega arith in let start : same ≡ zero = omega arith in rw (none, start) refl
one_more (x ∷ bytes) zero within = let one : min (suc (length bytes)) (0 + 1) ≡ suc zero = omega arith in rw one refl
one_more (x ∷ bytes) (suc same) within =
    let count : min (suc (length bytes)) (suc same + 1) ≡ suc (min (length bytes) (same + 1)) = omega arith in
    rw count (ap (λ (rest : List ℕ). x ∷ rest) (one_more bytes same (omega arith)))

-- what was written, with a prefix of more bytes that agree, and the byte after it
put_more : (text bytes : List ℕ) (agreed same : ℕ) → same ≤ length bytes → take same (drop agreed text) ≡ take same bytes
    → take (agreed + same) text ++ byte_list (slice_get bytes same) ≡ (take agreed text ++ []) ++ take (min (length bytes) (same + 1)) bytes
put_more text bytes agreed same within agrees =
    rw (one_more bytes same within, append-nil, take-add agreed same text, agrees) (append_assoc (take agreed text) (take same bytes)
    (byte_list (slice_get bytes same)))

-- a put of bytes that agree so far
put_taken : {E : Type 0} (text bytes : List ℕ) (agreed same faults : ℕ) → 0 < length bytes → same ≤ length bytes →
    take same (drop agreed text) ≡ take same bytes
    → Puts {E = E} (Some (exposed_by_sink (record { text = text; agreed = agreed; other = None; faults = faults })))
    (Some (exposed_by_sink (record { text = text; agreed = agreed + same; other = slice_get bytes same; faults = faults }))) bytes
    (Ok (min (length bytes) (same + 1)))
unfolding exposed_by_sink
put_taken text bytes agreed same faults some within agrees = record {
  count = omega arith;
  some = λ h. omega arith;
  told = ap Some (ap (λ (put : List ℕ). map suc text ++ 0 ∷ put) (put_more text bytes agreed same within agrees)
      ∙ sym (append_assoc (map suc text) (0 ∷ (take agreed text ++ [])) (take (min (length bytes) (same + 1)) bytes)));
  empty = λ none. absurd (omega arith);
  unchanged = tt;
}

-- no other byte
none_other : (other : Option ℕ) → is_some other ≡ false → other ≡ None
none_other None h = refl
none_other (Some byte) h = absurd (cc)

-- the comparison before the put, by its parts
pub taken : {E : Type 0} (text rest bytes : List ℕ) (agreed same faults count : ℕ) (other next : Option ℕ) (old : Comparison)
    → record { text = text; agreed = agreed; other = other; faults = faults } ≡ old → is_some other ≡ false → rest ≡ drop old.agreed old.text
    → 0 < length bytes → same ≤ length bytes → take same rest ≡ take same bytes → next ≡ slice_get bytes same → count ≡ min (length bytes) (same + 1)
    → Puts {E = E} (Some (exposed_by_sink old)) (Some (exposed_by_sink (record { text = text; agreed = agreed + same; other = next; faults = faults }))) bytes
    (Ok count)
taken {E} text rest bytes agreed same faults count other next old is none after some within agrees next_is count_is =
    let blank : record { text = text; agreed = agreed; other = None; faults = faults } ≡ old =
    ap (λ (o : Option ℕ). record { text = text; agreed = agreed; other = o; faults = faults }) (sym (none_other other none)) ∙ is in
    let place : drop old.agreed old.text ≡ drop agreed text = ap (λ (c : Comparison). drop c.agreed c.text) (sym is) in
    let front : take same (drop agreed text) ≡ take same bytes = ap (take same) (sym (after ∙ place)) ∙ agrees in
    let put : Puts {E = E} (Some (exposed_by_sink (record { text = text; agreed = agreed; other = None; faults = faults })))
    (Some (exposed_by_sink (record { text = text; agreed = agreed + same; other = slice_get bytes same; faults = faults }))) bytes
    (Ok (min (length bytes) (same + 1))) = put_taken {E = E} text bytes agreed same faults some within front in
    let started : Puts {E = E} (Some (exposed_by_sink old)) (Some (exposed_by_sink
    (record { text = text; agreed = agreed + same; other = slice_get bytes same; faults = faults }))) bytes (Ok (min (length bytes) (same + 1))) =
    subst (λ (c : Comparison). Puts {E = E} (Some (exposed_by_sink c))
    (Some (exposed_by_sink (record { text = text; agreed = agreed + same; other = slice_get bytes same; faults = faults }))) bytes
    (Ok (min (length bytes) (same + 1)))) blank put in
    rw (next_is, count_is) started

-- a put that fails
pub refused : (text bytes : List ℕ) (agreed faults more : ℕ) (other : Option ℕ) (old : Comparison) {E : Type 0} (e : E) →
    record { text = text; agreed = agreed; other = other; faults = faults } ≡ old → 0 < length bytes
    → Puts {E = E} (Some (exposed_by_sink old)) (Some (exposed_by_sink (record { text = text; agreed = agreed; other = other; faults = more }))) bytes (Err e)
unfolding exposed_by_sink
refused text bytes agreed faults more other old e is some = record {
  count = tt;
  some = tt;
  told = tt;
  empty = λ none. absurd (omega arith);
  unchanged = ap (λ (c : Comparison). Some (exposed_by_sink c)) is;
}

-- a byte after a prefix
get-after : (text : List ℕ) (front place : ℕ) → slice_get (drop front text) place ≡ slice_get text (front + place)
get-after text zero place = let same : zero + place ≡ place = omega arith in rw same refl
get-after [] (suc front) place = refl
get-after (x ∷ text) (suc front) place = let same : suc front + place ≡ suc (front + place) = omega arith in rw same (get-after text front place)

other_is : (text : List ℕ) (agreed same : ℕ) (other : Option ℕ) → ((byte : ℕ) → other ≡ Some byte → IsOther (drop agreed text) same byte) →
    IfSome other (λ byte. IsOther text (agreed + same) byte)
other_is text agreed same None apart = tt
other_is text agreed same (Some byte) apart = λ here. apart byte refl (get-after text agreed same ∙ here)

-- a comparison after a put of bytes
pub compared-more : (text rest bytes : List ℕ) (agreed same faults : ℕ) (other next : Option ℕ) (old : Comparison)
    → record { text = text; agreed = agreed; other = other; faults = faults } ≡ old → IsComparison
    (record { text = text; agreed = agreed; other = other; faults = faults }) → is_some other ≡ false
    → rest ≡ drop old.agreed old.text → same ≤ length rest → DifferAt rest bytes same → next ≡ slice_get bytes same
    → IsComparison (record { text = text; agreed = agreed + same; other = next; faults = faults })
compared-more text rest bytes agreed same faults other next old is was none after within apart next_is =
    let place : rest ≡ drop agreed text = after ∙ ap (λ (c : Comparison). drop c.agreed c.text) (sym is) in
    let front : DifferAt (drop agreed text) bytes same = subst (λ (r : List ℕ). DifferAt r bytes same) place apart in
    let low : same ≤ length (drop agreed text) = subst (λ (r : List ℕ). same ≤ length r) place within in
    record {
      within = omega (arith, length-drop {A = ℕ}, was.within, low);
      other = other_is text agreed same next (λ byte here. front byte (sym next_is ∙ here));
      failed = λ some. absurd (failed_not other none (was.failed some));
    }
  where
    failed_not : (other : Option ℕ) → is_some other ≡ false → IsSome other → ⊥
    failed_not None e h = absurd (cc)
    failed_not (Some byte) e h = absurd (cc)

other_there : (text : List ℕ) (agreed faults : ℕ) (other : Option ℕ) → IsComparison (record { text = text; agreed = agreed; other = other; faults = faults }) →
    is_some other ≡ true → HasOther (record { text = text; agreed = agreed; other = other; faults = faults })
other_there text agreed faults None was some = absurd (cc)
other_there text agreed faults (Some byte) was some = record { other = byte; is = refl; differs = was.other; within = was.within }

-- a byte was written that does not agree
pub has-other : (text : List ℕ) (agreed faults : ℕ) (other : Option ℕ) (seen : Comparison) →
    record { text = text; agreed = agreed; other = other; faults = faults } ≡ seen
    → IsComparison (record { text = text; agreed = agreed; other = other; faults = faults }) → is_some other ≡ true → HasOther seen
has-other text agreed faults other seen is was some = subst HasOther is (other_there text agreed faults other was some)

-- a list of raised bytes, and what comes after it
raised_same : (one other : List ℕ) (put more : List ℕ) → map suc one ++ 0 ∷ put ≡ map suc other ++ 0 ∷ more → (one ≡ other) × (put ≡ more)
raised_same [] [] put more e = (refl, cc)
raised_same [] (y ∷ other) put more e = absurd (cc)
raised_same (x ∷ one) [] put more e = absurd (cc)
raised_same (x ∷ one) (y ∷ other) put more e =
    let first : x ≡ y = cc in
    let rest : map suc one ++ 0 ∷ put ≡ map suc other ++ 0 ∷ more = cc in
    let both = raised_same one other put more rest in
    (cc, both.1)

-- a comparison to which a piece was written has the same text, and the piece follows what was written before
pub told-more : (now new : Comparison) (piece : List ℕ) → exposed_by_sink new ≡ exposed_by_sink now ++ piece → (new.text ≡ now.text) ×
    (put_of new ≡ put_of now ++ piece)
unfolding exposed_by_sink
told-more now new piece told = raised_same new.text now.text (put_of new) (put_of now ++ piece) (told ∙ append_assoc (map suc now.text) (0 ∷ put_of now) piece)
