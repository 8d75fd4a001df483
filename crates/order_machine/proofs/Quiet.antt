-- A step of the machine when nothing is left of the input, and nothing fails.
use Rattle.std.proofs.Common.{◌≡◌, ℕ, ◌≤◌, List, [], Option, Some, sym, ap, ◌∙◌, arith}
use Rattle.cf_io.specs.Causes.{HasCause, Rose}
use Rattle.rv_inst.specs.declared.isa.Isa.{Isa}
use Rattle.rv_machine.specs.Hart.{Hart}
use Rattle.rv_machine.specs.Acts.{Acts, CallsHere}
use Rattle.rv_machine.specs.Step.{step_on}
use Rattle.rv_machine.specs.Streams.{Streams, Becomes}
use Rattle.rv_machine.specs.Faults.{input_stepped, output_stepped}
use Rattle.rv_machine.specs.declared.outcome.Stepped.{Stepped}
use Rattle.rv_machine.specs.declared.outcome.Stepped.TheVariants as answer
use Rattle.cf_semantics.specs.moves.Instructions.{stepped}
use Rattle.order_machine.specs.NextSteps.{IsAnswered}

left_is : (before after : Option (List ℕ)) (rest : List ℕ) → before ≡ Some [] → after ≡ Some [] → Becomes before after rest → rest ≡ []
left_is before after rest e f h = let g : after ≡ Some rest = rw e at h in cc

pub answered_quietly : (isa : Isa) (old new : Hart) (before after : Streams) (s : Stepped) → before.input ≡ Some [] → after.input ≡ Some [] →
    Acts (CallsHere isa old) (step_on isa old) old new before after s → HasCause 0 0 (input_stepped s) → HasCause 0 0 (output_stepped s) →
    IsAnswered isa old new s
unfolding Acts
answered_quietly isa old new before after (answer.Next line) e f r i o =
    let g : r.rest ≡ [] = rw e at r.told in
    record {
      next = r.next;
      is = ap (step_on isa old) (sym g) ∙ r.is;
      hart = r.hart;
      rest = left_is before.input after.input r.next.rest e f r.leaves.input;
    }
answered_quietly isa old new before after (answer.Trap cause pc detail) e f r i o =
    let g : r.rest ≡ [] = rw e at r.told in
    record { is = ap stepped (ap (step_on isa old) (sym g) ∙ r.is); hart = r.hart }
answered_quietly isa old new before after (answer.Exit status) e f r i o =
    let g : r.rest ≡ [] = rw e at r.told in
    record { is = ap stepped (ap (step_on isa old) (sym g) ∙ r.is); hart = r.hart }
answered_quietly isa old new before after answer.ReadFault e f r i o = let h : Rose 0 0 = i.rose in absurd (omega arith)
answered_quietly isa old new before after answer.WriteFault e f r i o = let h : Rose 0 0 = o.rose in absurd (omega arith)

pub ruleset answering = (answered_quietly)
