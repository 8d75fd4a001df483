-- Replies: the environment's answer to an instruction, as a value, and when two of them are the same.
use Rattle.std.specs.Prelude.{◌≡◌}
use Rattle.mem_regions.specs.Memory.{Memory}
use Rattle.rv_machine.specs.Call.{Called}
use Rattle.rv_machine.specs.declared.outcome.Served.{Served}
use Rattle.rv_machine.specs.declared.outcome.Served.TheVariants.{Value, Exit, ReadFault, WriteFault}
use Rattle.mem_changes.specs.Differing.{AreChangesOf}
use Rattle.order_model.specs.ServeEffects.{memory_served, output_added, told}
use Rattle.order_judging.specs.declared.replies.Reply.{Reply}

-- this is the reply of a call with this answer, made in this memory
pub record IsReply (loaded mem : Memory) (c : Called) (a : Reply) : Type 0 where
  pub told : a.told ≡ told c
  pub changes : AreChangesOf loaded (memory_served c mem) a.changes
  pub output : a.output.items ≡ output_added c

-- memory and output are the same
abbrev pub HaveSameEffects : Reply → Reply → Type 0
HaveSameEffects a b = (a.changes ≡ b.changes) × (a.output.items ≡ b.output.items)

-- this holds, if the program goes on
abbrev pub IfValue : Served → Type 0 → Type 0
IfValue (Value v) P = P
IfValue (Exit status) P = Unit {0}
IfValue ReadFault P = Unit {0}
IfValue WriteFault P = Unit {0}

-- the value, the memory and the output are the same, or the exit status of the program is
abbrev pub AreSameReplies : Reply → Reply → Type 0
AreSameReplies a b = (a.told ≡ b.told) × IfValue a.told (HaveSameEffects a b)
