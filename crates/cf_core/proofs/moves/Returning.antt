-- An operation that comes back has an answer, unless it is computed from its sources.
use Rattle.std.proofs.Common.{◌≡◌, ℕ, Bool, true, false, not, ◌&&◌, Option, Some, None, refl, arith}
use Rattle.std.specs.Prelude.{IfNone, IsTrue}
use Rattle.rv_inst.specs.declared.classes.Class.{Class}
use Rattle.rv_mul.specs.Values.{computes}
use Rattle.cf_layout.specs.Layout.{Plan, siding_of}
use Rattle.cf_layout.specs.Accepted.{IsAccepted}
use Rattle.cf_passengers.proofs.Computing.{siding-computes}
use Rattle.cf_semantics.specs.moves.Instructions.{is_memory}
use Rattle.cf_semantics.specs.state.Options.{is_some}

-- without an answer it is not a load or a store
unanswered : (b : Bool) (answer : Option ℕ) → (b && not (is_some answer)) ≡ false → answer ≡ None → b ≡ false
unanswered true answer e n = grind arith
unanswered false answer e n = refl

pub computed : (plan : Plan) (c : Class) (k : ℕ) (answer : Option ℕ) → IsAccepted plan → siding_of plan c ≡ Some k →
    (is_memory c && not (is_some answer)) ≡ false → IfNone answer (IsTrue (computes c))
computed plan c k (Some v) a e h = tt
computed plan c k None a e h = siding-computes plan c k a e (unanswered (is_memory c) None h refl)

pub ruleset returning = (computed)
