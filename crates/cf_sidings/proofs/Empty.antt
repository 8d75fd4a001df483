-- Empty sidings, one after the other.
use Rattle.std.proofs.Common.{◌≡◌, ◌∙◌, ℕ, zero, suc, ◌+◌, ◌/◌, ◌%◌, ◌<◌, ◌≤◌, Bool, true, false, nat_lt, List, [], ◌∷◌, ◌++◌, Option, None, length, map, take, replicate, refl, sym, ap, arith}
use Rattle.std.proofs.lemmas.List.{length-map, length-replicate}
use Rattle.std.proofs.lemmas.Bool.Decides.{nat_tests}
use Rattle.std.proofs.lemmas.Option.{slice_get_past}
use Rattle.cf_bind.specs.declared.cell.Op.{Op}
use Rattle.cf_layout.specs.Accepted.{IsAccepted}
use Rattle.cf_layout.specs.Words.{has_bit}
use Rattle.cf_layout.proofs.Words.{no_bits}
use Rattle.cf_semantics.specs.state.Options.{is_some}
use Rattle.cf_semantics.specs.moves.Bars.{cell_is_taken}
use Rattle.cf_sidings.specs.Sidings.{HaveWords, cells_in}
use Rattle.cf_sidings.proofs.Small.{few-cells}
use Rattle.cf_layout.specs.Layout.{SidingPlan, Plan, no_siding, cells_of}
use Rattle.std.specs.Prelude.{slice_get, unwrap_or}

-- one more element, and what it becomes
pub take-more : {A B : Type 0} (f : A → B) (xs : List A) (k n : ℕ) (d : A) → n ≡ suc k → k < length xs →
    map f (take n xs) ≡ map f (take k xs) ++ f (unwrap_or (slice_get xs k) d) ∷ []
take-more f [] k n d e h = absurd (omega arith)
take-more f (x ∷ xs) zero n d e h = rw e refl
take-more f (x ∷ xs) (suc k) n d e h = rw e (ap (λ (l : List _). f x ∷ l) (take-more f xs k (suc k) d refl (omega arith)))

-- an empty siding
abbrev empty : SidingPlan → List (Option Op)
empty siding = replicate siding.cells None

-- one more siding is empty
pub one-more : (plan : Plan) (k : ℕ) → k < length plan.sidings → map empty (take (k + 1) plan.sidings) ≡ map empty (take k plan.sidings)
    ++ replicate (cells_of plan k) None ∷ []
unfolding cells_of
one-more plan k h = take-more empty plan.sidings k (k + 1) no_siding (omega arith) h

pub ruleset emptying = (one-more)

-- The words of empty sidings --

-- how many cells the siding of this number has
abbrev cells_at : List SidingPlan → ℕ → ℕ
cells_at plans k = (unwrap_or (slice_get plans k) no_siding).cells

-- they are empty
cells_from : (plans : List SidingPlan) (k : ℕ) → cells_in (map empty plans) k ≡ replicate (cells_at plans k) None
cells_from [] k = refl
cells_from (p ∷ ps) zero = refl
cells_from (p ∷ ps) (suc k) = cells_from ps k

none_taken : (n c : ℕ) → cell_is_taken (slice_get (replicate n None) c) ≡ false
none_taken zero c = refl
none_taken (suc n) zero = refl
none_taken (suc n) (suc c) = none_taken n c

-- an empty cell
abbrev none : Option Op
none = None

one_there : (n c : ℕ) → is_some (slice_get (replicate n none) c) ≡ nat_lt c n
one_there zero c = grind (arith, nat_tests)
one_there (suc n) zero = grind (arith, nat_tests)
one_there (suc n) (suc c) = let e : nat_lt (suc c) (suc n) ≡ nat_lt c n = grind (arith, nat_tests) in one_there n c ∙ sym e

few_of : (plan : Plan) (k : ℕ) (there : Bool) → IsAccepted plan → nat_lt k (length plan.sidings) ≡ there → cells_of plan k ≤ 8
unfolding cells_of
few_of plan k true a e = few-cells plan k a (grind (arith, nat_tests))
few_of plan k false a e =
    let past : length plan.sidings ≤ k = grind (arith, nat_tests) in
    rw (cells_of, slice_get_past plan.sidings k past) (omega arith)

all_taken : (plans : List SidingPlan) (n : ℕ) → n ≡ length plans → take n plans ≡ plans
all_taken [] n e = rw e refl
all_taken (p ∷ ps) zero e = absurd (omega arith)
all_taken (p ∷ ps) (suc n) e = ap (λ (l : List SidingPlan). p ∷ l) (all_taken ps n (omega arith))

pub empty-words : (plan : Plan) (k inner : ℕ) → IsAccepted plan → k ≡ length plan.sidings →
    ((j : ℕ) → has_bit inner j ≡ nat_lt (j % 8 + 1) (cells_of plan (j / 8))) →
    HaveWords (map empty (take k plan.sidings)) 0 inner
unfolding cells_of
empty-words plan k inner a e bits = rw (all_taken plan.sidings k e) record {
  small = record {
    few = let n = length-map plan.sidings empty in omega (arith, n, a.few_sidings);
    short = λ m. let f = few_of plan m (nat_lt m (length plan.sidings)) a refl in
        rw (cells_from plan.sidings m, length-replicate (cells_at plan.sidings m) none) f;
  };
  with_op = λ j. no_bits j ∙ sym (rw (cells_from plan.sidings (j / 8)) (none_taken (cells_at plan.sidings (j / 8)) (j % 8)));
  with_next = λ j. bits j ∙ sym (rw (cells_from plan.sidings (j / 8)) (one_there (cells_at plan.sidings (j / 8)) (j % 8 + 1)));
}
