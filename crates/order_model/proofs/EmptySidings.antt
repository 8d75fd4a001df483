-- Empty sidings, one after another.
use Rattle.std.proofs.Common.{◌≡◌, ℕ, zero, suc, ◌+◌, ◌<◌, List, [], ◌∷◌, ◌++◌, None, length, map, take, replicate, refl, ap, arith}
use Rattle.cf_layout.specs.Layout.{Plan, no_siding, cells_of}
use Rattle.cf_semantics.specs.runs.Runs.{empty_siding}
use Rattle.std.specs.Prelude.{slice_get, unwrap_or}

-- one more element, and what it becomes
take-more : {A B : Type 0} (f : A → B) (xs : List A) (k n : ℕ) (d : A) → n ≡ suc k → k < length xs →
    map f (take n xs) ≡ map f (take k xs) ++ f (unwrap_or (slice_get xs k) d) ∷ []
take-more f [] k n d e h = absurd (omega arith)
take-more f (x ∷ xs) zero n d e h = rw e refl
take-more f (x ∷ xs) (suc k) n d e h = rw e (ap (λ (l : List _). f x ∷ l) (take-more f xs k (suc k) d refl (omega arith)))

-- one more siding is empty
pub one-more : (plan : Plan) (k : ℕ) → k < length plan.sidings → map empty_siding (take (k + 1) plan.sidings) ≡ map empty_siding (take k plan.sidings)
    ++ replicate (cells_of plan k) None ∷ []
unfolding cells_of
one-more plan k h = take-more empty_siding plan.sidings k (k + 1) no_siding (omega arith) h

pub ruleset emptying = (one-more)
