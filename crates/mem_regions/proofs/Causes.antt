-- The tests of the parts find what their names say.
use Rattle.std.proofs.Common.{◌≡◌, ℕ, ◌+◌, ◌-◌, ◌<◌, ◌≤◌, ◌^◌, List, [], ◌∷◌, ◌++◌, Bool, true, false, Option, Some, None, Err, length, get_or, cond, min, max, refl, subst, arith, add-zero, append_assoc, length-append, ◌⊎◌, inl, inr}
use Rattle.std.specs.Prelude.{position, nat_lt}
use Rattle.std.proofs.lemmas.List.Quantifiers.{position-Some}
use Rattle.std.proofs.Math.ListN.{get_or-append}
use Rattle.std.proofs.Math.Seq.{get_or-append_seam}
use Rattle.std.proofs.lemmas.Bool.Decides.{nat_tests}
use Rattle.std.specs.Option.{option_or}
use Rattle.mem_regions.specs.declared.part.Part.{Part}
use Rattle.mem_regions.specs.declared.refusal.LoadErr.{LoadErr}
use Rattle.mem_regions.specs.declared.refusal.LoadErr.TheVariants.{Overlap, TooMany, TooLarge, WrapsAround, NoMemory}
use Rattle.mem_regions.specs.Refusal.{refusal, wraps, wraps_at, overlaps, overlap_or, overlap_from, too_many, first_wrapping, too_large, first_overlap, total_size, load_answer}
use Rattle.mem_regions.proofs.Finding.{passes_none}
use Rattle.mem_regions.proofs.Parts.{first_passes, next_passes, no_index}
use Rattle.mem_regions.specs.Causes.{IsAddressOf, Share, Wraps, IsFirstToWrap, ShareAt, ApartAt, IsFirstOverlap, IsLoadCause, AreAccepted}

-- parts that overlap share an address: the larger base is one
pub overlaps-share : (p q : Part) → overlaps p q ≡ true → Share p q
overlaps-share p q e = (max p.base q.base, (grind (arith, nat_tests), grind (arith, nat_tests)), (grind (arith, nat_tests), grind (arith, nat_tests)))

-- and if they do not overlap, they share none
pub apart-share : (p q : Part) → overlaps p q ≡ false → ¬ Share p q
apart-share p q e = λ s. let a = s.0 in let inp : IsAddressOf p s.0 = s.1 in let inq : IsAddressOf q s.0 = s.2 in grind (arith, nat_tests)

-- a part that wraps around according to the test wraps around
pub wraps-Wraps : (p : Part) → wraps p ≡ true → Wraps p
wraps-Wraps p e = grind (arith, nat_tests)

-- a part that does not according to the test does not
pub wraps-in : (p : Part) → wraps p ≡ false → ¬ Wraps p
wraps-in p e = λ h. grind (arith, nat_tests)

-- an index at or after another is that one or comes after it
here_or_after : (m n : ℕ) → m ≤ n → (n ≡ m) ⊎ (m + 1 ≤ n)
here_or_after m n le = grind arith

-- a part to use as a default
abbrev no_part : Part
no_part = record { base = 0; start = 0; len = 0; size = 0; write = false; exec = false }

-- the index that the test gives is that of the first part that wraps around
pub first_to_wrap : (parts : List Part) (i : ℕ) → position wraps parts ≡ Some i → IsFirstToWrap parts i
first_to_wrap parts i e = record {
  within = (position-Some wraps parts i no_part e).0;
  wraps = λ d. wraps-Wraps (get_or parts i d) (position-Some wraps parts i d e).1;
  first = λ k below d. wraps-in (get_or parts k d) ((position-Some wraps parts i d e).2 k below);
}

-- the first overlap of the whole list whose second part is at or after an index
record IsOverlapFrom (whole : List Part) (from i j : ℕ) : Type 0 where
  before : i < j
  within : j < length whole
  share : ShareAt whole i j
  least_second : (k n : ℕ) → k < n → from ≤ n → n < j → ApartAt whole k n
  least_first : (k : ℕ) → k < i → ApartAt whole k j

-- the parts before a part, and the part itself, in the whole list
at_part : (before : List Part) (p : Part) (ps : List Part) (n : ℕ) (d : Part) → n ≡ length before → get_or (before ++ p ∷ ps) n d ≡ p
at_part before p ps n d e = rw (e, get_or-append_seam) refl

-- the part that overlaps one before it shares an address with that one
share_here : (before : List Part) (p : Part) (ps : List Part) (k : ℕ) → position (λ b. overlaps b p) before ≡ Some k →
    ShareAt (before ++ p ∷ ps) k (length before)
share_here before p ps k e d d' =
    let at = position-Some (λ b. overlaps b p) before k d' e in
    rw (get_or-append_seam before p ps d, get_or-append before (p ∷ ps) d' k at.0) (overlaps-share (get_or before k d') p at.1)

-- and shares none with those before that one
apart_first : (before : List Part) (p : Part) (ps : List Part) (i k : ℕ) → position (λ b. overlaps b p) before ≡ Some i → k < i →
    ApartAt (before ++ p ∷ ps) k (length before)
apart_first before p ps i k e below d d' =
    let at = position-Some (λ b. overlaps b p) before i d' e in let within : i < length before = at.0 in
    rw (get_or-append_seam before p ps d, get_or-append before (p ∷ ps) d' k (omega arith)) (apart-share (get_or before k d') p (at.2 k below))

-- a part that overlaps none before it shares an address with none of them
apart_here : (before : List Part) (p : Part) (ps : List Part) (k : ℕ) → position (λ b. overlaps b p) before ≡ None → k < length before →
    ApartAt (before ++ p ∷ ps) k (length before)
apart_here before p ps k e below d d' =
    rw (get_or-append_seam before p ps d, get_or-append before (p ∷ ps) d' k below) (apart-share (get_or before k d') p
    (passes_none (λ b. overlaps b p) before e k d' below))

-- the overlap found for a part is the first from that part on
found_here : (before : List Part) (p : Part) (ps : List Part) (k : ℕ) → position (λ b. overlaps b p) before ≡ Some k →
    IsOverlapFrom (before ++ p ∷ ps) (length before) k (length before)
found_here before p ps k e = record {
  before = (position-Some (λ b. overlaps b p) before k no_part e).0;
  within = rw length-append (omega arith);
  share = share_here before p ps k e;
  least_second = λ n m below from to. absurd (omega arith);
  least_first = λ n below. apart_first before p ps k n e below;
}

-- parts that are apart, by whether the second is the part itself or comes after it
after_second : (before : List Part) (p : Part) (ps : List Part) (i j : ℕ) → position (λ b. overlaps b p) before ≡ None →
    IsOverlapFrom (before ++ p ∷ ps) (length before + 1) i j → (k n : ℕ) → k < n → length before ≤ n → n < j → (n ≡ length before) ⊎ (length before + 1 ≤ n) →
    ApartAt (before ++ p ∷ ps) k n
after_second before p ps i j e r k n below from to (inl here) = rw here (apart_here before p ps k e (omega arith))
after_second before p ps i j e r k n below from to (inr after) = r.least_second k n below after to

-- if a part overlaps none before it, the first overlap after it is the first from it on
found_after : (before : List Part) (p : Part) (ps : List Part) (i j : ℕ) → position (λ b. overlaps b p) before ≡ None →
    IsOverlapFrom (before ++ p ∷ ps) (length before + 1) i j → IsOverlapFrom (before ++ p ∷ ps) (length before) i j
found_after before p ps i j e r = record {
  before = r.before;
  within = r.within;
  share = r.share;
  least_second = λ k n below from to. after_second before p ps i j e r k n below from to (here_or_after (length before) n from);
  least_first = r.least_first;
}

-- moving a part to those before it leaves the list unchanged
more_before : (before : List Part) (p : Part) (ps : List Part) → (before ++ p ∷ []) ++ ps ≡ before ++ p ∷ ps
more_before before p ps = append_assoc before (p ∷ []) ps

-- and their number grows by one
one_more : (before : List Part) (p : Part) → length (before ++ p ∷ []) ≡ length before + 1
one_more before p = length-append before (p ∷ [])

-- the first overlap from a part on, by whether the part overlaps one before it
found_step : (before : List Part) (p : Part) (ps : List Part) (i j : ℕ) (o : Option ℕ) (after : Option LoadErr) → position (λ b. overlaps b p) before ≡ o →
    overlap_or o (length before) after ≡ Some (Overlap i j) → (after ≡ Some (Overlap i j) → IsOverlapFrom (before ++ p ∷ ps) (length before + 1) i j) →
    IsOverlapFrom (before ++ p ∷ ps) (length before) i j
found_step before p ps i j None after e h later = found_after before p ps i j e (later h)
found_step before p ps i j (Some k) after e h later =
    let first : k ≡ i = cc in let second : length before ≡ j = cc in
    subst (λ (n : ℕ). IsOverlapFrom (before ++ p ∷ ps) (length before) i n) second
    (subst (λ (n : ℕ). IsOverlapFrom (before ++ p ∷ ps) (length before) n (length before)) first (found_here before p ps k e))

-- the overlap that the test finds is the first from the index at which the test begins
found_from : (whole before ps : List Part) (i j : ℕ) → before ++ ps ≡ whole → overlap_from before ps ≡ Some (Overlap i j) →
    IsOverlapFrom whole (length before) i j
found_from whole before [] i j e h = cc
found_from whole before (p ∷ ps) i j e h =
    subst (λ (w : List Part). IsOverlapFrom w (length before) i j) e
    (found_step before p ps i j (position (λ b. overlaps b p) before) (overlap_from (before ++ p ∷ []) ps) refl h
    (λ g. subst (λ (n : ℕ). IsOverlapFrom (before ++ p ∷ ps) n i j) (one_more before p) (found_from (before ++ p ∷ ps) (before ++ p ∷ []) ps i j
    (more_before before p ps) g)))

-- the overlap that the test finds is the first
pub first_overlap-is_first : (parts : List Part) (i j : ℕ) → first_overlap parts ≡ Some (Overlap i j) → IsFirstOverlap parts i j
unfolding first_overlap
first_overlap-is_first parts i j e = let r = found_from parts [] parts i j refl e in record {
  before = r.before;
  within = r.within;
  share = r.share;
  least_second = λ k n below to. r.least_second k n below (omega arith) to;
  least_first =
      r.least_first;
}

-- the parts from an index on share no address with those before them
abbrev ApartFrom : List Part → ℕ → Type 0
ApartFrom whole from = (k n : ℕ) → k < n → from ≤ n → n < length whole → ApartAt whole k n

-- the same by whether the second is the part itself or comes after it
after_apart : (before : List Part) (p : Part) (ps : List Part) → position (λ b. overlaps b p) before ≡ None → ApartFrom (before ++ p ∷ ps) (length before + 1) →
    (k n : ℕ) → k < n → n < length (before ++ p ∷ ps) → (n ≡ length before) ⊎ (length before + 1 ≤ n) → ApartAt (before ++ p ∷ ps) k n
after_apart before p ps e later k n below to (inl here) = rw here (apart_here before p ps k e (omega arith))
after_apart before p ps e later k n below to (inr after) = later k n below after to

-- a part and those after it are apart from all before them if the test finds no overlap
apart_step : (before : List Part) (p : Part) (ps : List Part) (o : Option ℕ) (after : Option LoadErr) → position (λ b. overlaps b p) before ≡ o →
    overlap_or o (length before) after ≡ None → (after ≡ None → ApartFrom (before ++ p ∷ ps) (length before + 1)) → ApartFrom (before ++ p ∷ ps) (length before)
apart_step before p ps None after e h later = λ k n below from to. after_apart before p ps e (later h) k n below to (here_or_after (length before) n from)
apart_step before p ps (Some k) after e h later = cc

-- the same for all parts from the index at which the test begins
apart_from : (whole before ps : List Part) → before ++ ps ≡ whole → overlap_from before ps ≡ None → ApartFrom whole (length before)
apart_from whole before [] e h = λ k n below from to. let same : length before ≡ length whole = rw (← e, length-append, add-zero) refl in absurd (omega arith)
apart_from whole before (p ∷ ps) e h =
    subst (λ (w : List Part). ApartFrom w (length before)) e
    (apart_step before p ps (position (λ b. overlaps b p) before) (overlap_from (before ++ p ∷ []) ps) refl h
    (λ g. subst (λ (n : ℕ). ApartFrom (before ++ p ∷ ps) n) (one_more before p) (apart_from (before ++ p ∷ ps) (before ++ p ∷ []) ps
    (more_before before p ps) g)))

-- if the test finds no overlap, no two parts share an address
pub first_overlap-none : (parts : List Part) → first_overlap parts ≡ None → (k n : ℕ) → k < n → n < length parts → ApartAt parts k n
unfolding first_overlap
first_overlap-none parts e = λ k n below to. apart_from parts [] parts refl e k n below (omega arith) to

-- what a refusal, if there is one, says about the parts
Says : List Part → Option LoadErr → Type 0
Says parts None = Unit
Says parts (Some e) = IsLoadCause parts e

-- if two tests say the truth, so does the first of them that fails
says-or_else : (parts : List Part) (a b : Option LoadErr) → Says parts a → Says parts b → Says parts (option_or a b)
unfolding Says
says-or_else parts None b s t = t
says-or_else parts (Some e) b s t = s

-- the test of the number says the truth
says-too_many : (parts : List Part) (over : Bool) → nat_lt 16 (length parts) ≡ over → Says parts
    (cond over (Some (TooMany (min (length parts) (2 ^ 32 - 1)))) None)
unfolding Says
says-too_many parts true e = (grind (arith, nat_tests), refl)
says-too_many parts false e = tt

-- the test of the ends says the truth
says-wraps : (parts : List Part) (o : Option ℕ) → position wraps parts ≡ o → Says parts (wraps_at o)
unfolding Says
says-wraps parts None e = tt
says-wraps parts (Some i) e = first_to_wrap parts i e

-- the test of the sum says the truth
says-too_large : (parts : List Part) (over : Bool) → nat_lt 67108864 (total_size parts) ≡ over →
    Says parts (cond over (Some (TooLarge (total_size parts))) None)
unfolding Says
says-too_large parts true e = (grind (arith, nat_tests), refl)
says-too_large parts false e = tt

-- the test for overlaps gives no other refusal
TellsOverlap : Option LoadErr → Type 0
TellsOverlap (Some (TooMany n)) = ⊥
TellsOverlap (Some (WrapsAround i)) = ⊥
TellsOverlap (Some (TooLarge n)) = ⊥
TellsOverlap (Some NoMemory) = ⊥
TellsOverlap (Some (Overlap i j)) = Unit
TellsOverlap None = Unit

-- an overlap, or the answer for the later parts
tells-overlap_or : (o : Option ℕ) (j : ℕ) (after : Option LoadErr) → TellsOverlap after → TellsOverlap (overlap_or o j after)
unfolding TellsOverlap
tells-overlap_or None j after t = t
tells-overlap_or (Some i) j after t = tt

-- from each index on
tells-overlap_from : (before ps : List Part) → TellsOverlap (overlap_from before ps)
unfolding TellsOverlap
tells-overlap_from before [] = tt
tells-overlap_from before (p ∷ ps) = tells-overlap_or (position (λ b. overlaps b p) before) (length before) (overlap_from (before ++ p ∷ []) ps)
    (tells-overlap_from (before ++ p ∷ []) ps)

-- what the test for overlaps says is true
says-overlap_told : (parts : List Part) (o : Option LoadErr) → TellsOverlap o → first_overlap parts ≡ o → Says parts o
unfolding Says TellsOverlap
says-overlap_told parts None t e = tt
says-overlap_told parts (Some (Overlap i j)) t e = first_overlap-is_first parts i j e
says-overlap_told parts (Some (TooMany n)) t e = absurd t
says-overlap_told parts (Some (TooLarge n)) t e = absurd t
says-overlap_told parts (Some (WrapsAround n)) t e = absurd t
says-overlap_told parts (Some NoMemory) t e = absurd t

-- the test for overlaps says the truth
says-overlap : (parts : List Part) → Says parts (first_overlap parts)
unfolding first_overlap
says-overlap parts = says-overlap_told parts (overlap_from [] parts) (tells-overlap_from [] parts) (unfold first_overlap in refl)

-- a refusal is a true cause
says-refusal : (parts : List Part) → Says parts (refusal parts)
unfolding refusal too_many first_wrapping too_large
says-refusal parts = says-or_else parts _ _ (says-too_many parts _ refl) (says-or_else parts _ _ (says-wraps parts _ refl)
    (says-or_else parts _ _ (says-too_large parts _ refl) (says-overlap parts)))

-- the refusal in an answer is the one that was found
says_where : (parts : List Part) (o : Option LoadErr) (e : LoadErr) → Says parts o → Err e ≡ load_answer o → IsLoadCause parts e
unfolding Says
says_where parts None e s h = cc
says_where parts (Some x) e s h = let same : x ≡ e = cc in subst (λ (y : LoadErr). IsLoadCause parts y) same s

-- an answer that refuses the parts names a true cause
pub refused-cause : (parts : List Part) (e : LoadErr) → Err e ≡ load_answer (refusal parts) → IsLoadCause parts e
refused-cause parts e h = says_where parts (refusal parts) e (says-refusal parts) h

-- if there are not too many, there are at most 16
few_where : (t : Bool) (n : ℕ) (e : LoadErr) → nat_lt 16 n ≡ t → cond t (Some e) None ≡ None → n ≤ 16
few_where true n e h k = cc
few_where false n e h k = grind (arith, nat_tests)

-- if they are not too large, they are at most as large as allowed
small_where : (t : Bool) (n : ℕ) (e : LoadErr) → nat_lt 67108864 n ≡ t → cond t (Some e) None ≡ None → n ≤ 67108864
small_where true n e h k = cc
small_where false n e h k = grind (arith, nat_tests)

-- parts that pass all tests have the properties tested
pub accepted-parts : (parts : List Part) → refusal parts ≡ None → AreAccepted parts
unfolding refusal too_many first_wrapping too_large
accepted-parts parts e = record {
  few = few_where (nat_lt 16 (length parts)) (length parts) _ refl (first_passes _ _ e);
  in_space = λ k d within. wraps-in (get_or parts k d) (passes_none wraps parts (no_index _ (first_passes _ _ (next_passes _ _ e))) k d within);
  small = small_where (nat_lt 67108864 (total_size parts)) (total_size parts) _ refl (first_passes _ _ (next_passes _ _ (next_passes _ _ e)));
  apart = first_overlap-none parts (next_passes (too_large parts) _ (next_passes (first_wrapping parts) _ (next_passes (too_many parts) _ e)));
}

pub ruleset causes = (refused-cause, accepted-parts)
