-- What the tests of the parts say.
use Rattle.std.proofs.Common.{◌≡◌, ℕ, ◌+◌, ◌<◌, ◌≤◌, ◌^◌, List, [], ◌∷◌, ◌++◌, All, Bool, true, false, Option, Some, None, Err, length, get_or, take, drop, cond, refl, sym, arith, add-one, drop-cons, length-take}
use Rattle.std.proofs.Math.Seq.{take-suc}
use Rattle.std.specs.Prelude.{position}
use Rattle.std.proofs.lemmas.Bool.Decides.{nat_tests}
use Rattle.std.specs.Option.{option_or}
use Rattle.mem_regions.proofs.Finding.{passes_none}
use Rattle.mem_regions.specs.declared.part.Part.{Part}
use Rattle.mem_regions.specs.declared.refusal.LoadErr.{LoadErr}
use Rattle.mem_regions.specs.declared.refusal.LoadErr.TheVariants.{Overlap, TooMany, TooLarge}
use Rattle.mem_regions.specs.Refusal.{refusal, refusal_told, load_answer, wraps, wraps_at, overlaps, overlap_or, overlap_from, too_many, first_wrapping, too_large, first_overlap}

-- of two tests that both pass, the first passes
pub first_passes : (a b : Option LoadErr) → option_or a b ≡ None → a ≡ None
first_passes None b e = refl
first_passes (Some x) b e = cc

-- and so does the second
pub next_passes : (a b : Option LoadErr) → option_or a b ≡ None → b ≡ None
next_passes None b e = e
next_passes (Some x) b e = cc

-- if no index is given, there is none
pub no_index : (o : Option ℕ) → wraps_at o ≡ None → o ≡ None
no_index None e = refl
no_index (Some i) e = cc

-- if no part wraps around, each ends at or below 2^32
none_wraps : (parts : List Part) → position wraps parts ≡ None → All (λ (p : Part). p.base + p.size ≤ 2 ^ 32) parts
none_wraps parts e = λ k d within. let fails = passes_none wraps parts e k d within in grind (arith, nat_tests)

-- parts that are not refused end at or below 2^32
pub ends_within : (parts : List Part) → refusal parts ≡ None → All (λ (p : Part). p.base + p.size ≤ 2 ^ 32) parts
unfolding refusal first_wrapping
ends_within parts e = none_wraps parts (no_index _ (first_passes _ _ (next_passes _ _ e)))

-- the overlaps from a part on are those of the part itself, or otherwise those of the later parts
pub overlap_step : (parts : List Part) (j : ℕ) (p : Part) → j < length parts → overlap_from (take j parts) (drop j parts)
    ≡ overlap_or (position (λ b. overlaps b (get_or parts j p)) (take j parts)) j (overlap_from (take (j + 1) parts) (drop (j + 1) parts))
overlap_step parts j p within = let short : length (take j parts) ≡ j = rw length-take (omega arith) in
    rw (drop-cons parts j p, add-one, take-suc parts j p, short)

-- if the first overlap of the parts up to one is an overlap of that one, it is the first overlap of all
pub overlap_here : (parts : List Part) (j : ℕ) (p : Part) (i : ℕ) → j < length parts → overlap_from (take j parts) (drop j parts) ≡ overlap_from [] parts →
    Some i ≡ position (λ b. overlaps b (get_or parts j p)) (take j parts) → Err (Overlap i j) ≡ load_answer (first_overlap parts)
unfolding first_overlap
overlap_here parts j p i within so_far here = rw (← so_far, overlap_step parts j p within, ← here) refl

-- if the part overlaps none before it, the first overlap comes after it
pub overlap_after : (parts : List Part) (j : ℕ) (p : Part) → j < length parts → overlap_from (take j parts) (drop j parts) ≡ overlap_from [] parts →
    position (λ b. overlaps b (get_or parts j p)) (take j parts) ≡ None → overlap_from (take (j + 1) parts) (drop (j + 1) parts) ≡ overlap_from [] parts
overlap_after parts j p within so_far none = rw (← so_far, overlap_step parts j p within, none) refl

-- a refusal as an answer reports it
told_again : Option LoadErr → Option LoadErr
told_again None = None
told_again (Some e) = refusal_told e

-- if two refusals are reported unchanged, so is the first of them
told-or_else : (a b : Option LoadErr) → told_again a ≡ a → told_again b ≡ b → told_again (option_or a b) ≡ option_or a b
unfolding told_again
told-or_else None b e f = f
told-or_else (Some x) b e f = e

-- so is the refusal because of too many parts
told-too_many : (t : Bool) (n : ℕ) → told_again (cond t (Some (TooMany n)) None) ≡ cond t (Some (TooMany n)) None
unfolding told_again
told-too_many true n = refl
told-too_many false n = refl

-- so is the refusal because of a part that wraps around
told-wraps : (o : Option ℕ) → told_again (wraps_at o) ≡ wraps_at o
unfolding told_again
told-wraps None = refl
told-wraps (Some i) = refl

-- so is the refusal because of too large parts
told-too_large : (t : Bool) (n : ℕ) → told_again (cond t (Some (TooLarge n)) None) ≡ cond t (Some (TooLarge n)) None
unfolding told_again
told-too_large true n = refl
told-too_large false n = refl

-- so is the refusal because of a part that overlaps one before it
told-overlap_or : (o : Option ℕ) (j : ℕ) (after : Option LoadErr) → told_again after ≡ after → told_again (overlap_or o j after) ≡ overlap_or o j after
unfolding told_again
told-overlap_or None j after e = e
told-overlap_or (Some i) j after e = refl

-- so is the refusal because of overlapping parts
told-overlap : (before parts : List Part) → told_again (overlap_from before parts) ≡ overlap_from before parts
unfolding told_again
told-overlap before [] = refl
told-overlap before (p ∷ ps) = told-overlap_or (position (λ b. overlaps b p) before) (length before) (overlap_from (before ++ p ∷ []) ps)
    (told-overlap (before ++ p ∷ []) ps)

-- the refusal is reported unchanged: it is never that there was not enough memory
told-refusal : (parts : List Part) → told_again (refusal parts) ≡ refusal parts
unfolding refusal too_many first_wrapping too_large first_overlap
told-refusal parts = told-or_else _ _ (told-too_many _ _) (told-or_else _ _ (told-wraps _) (told-or_else _ _ (told-too_large _ _) (told-overlap [] parts)))

-- the refusal in an answer is the one that was found
told_where : (o : Option LoadErr) (e : LoadErr) → told_again o ≡ o → Err e ≡ load_answer o → o ≡ refusal_told e
unfolding told_again
told_where None e f h = cc
told_where (Some x) e f h = let same : x ≡ e = cc in rw (← same) (sym f)

-- an answer gives the refusal of the parts
pub refusal_is_told : (parts : List Part) (e : LoadErr) → Err e ≡ load_answer (refusal parts) → refusal parts ≡ refusal_told e
refusal_is_told parts e h = told_where (refusal parts) e (told-refusal parts) h

pub ruleset ends = (ends_within, refusal_is_told)
