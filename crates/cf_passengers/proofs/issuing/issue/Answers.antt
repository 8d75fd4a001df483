-- What is issued for an instruction of the set is a `Passenger` of the set.
use Rattle.std.proofs.Common.{subst}
use Rattle.std.specs.Prelude.{IfOk, Result}
use Rattle.rv_inst.specs.declared.instruction.Instr.{Instr}
use Rattle.cf_bind.specs.declared.passenger.End.{End}
use Rattle.cf_semantics.specs.moves.Instructions.{Got}
use Rattle.cf_passengers.specs.Facts.{IsInstruction}
use Rattle.cf_passengers.proofs.Kept.{fresh-passenger}
use Rattle.cf_passengers.proofs.issuing.issue.Goals as goal

pub returns-in-Ok-clause-facts : goal.returns-in-Ok-clause-facts
returns-in-Ok-clause-facts c isa h =
    rw c.issue_decoded.ensures (fresh-passenger isa c.args.ends.now.cache (Got c.in-Ok.i) _ _ (subst (λ (r : Result Instr End). IfOk r (IsInstruction isa))
    c.in-Ok.is h))
