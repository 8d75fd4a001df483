-- The sequential machine after some instructions of its set.
use Rattle.std.specs.Prelude.{◌≡◌, ℕ, zero, suc, Option, Some, None}
use Rattle.rv_inst.specs.declared.isa.Isa.{Isa}
use Rattle.rv_machine.specs.Machine.{Machine}
use Rattle.rv_machine.specs.Outcome.{Outcome, Next, Trap, Exit}
use Rattle.rv_machine.specs.Step.{step}

-- the machine that an outcome goes on to
abbrev pub next_machine : Outcome Machine → Option Machine
next_machine (Next m line) = Some m
next_machine (Trap cause pc detail) = None
next_machine (Exit status) = None

-- a step from a machine, if there is one
abbrev pub step_from : Isa → Option Machine → Option Machine
step_from isa None = None
step_from isa (Some m) = next_machine (step isa m)

-- the machine after n steps that all retire an instruction; there is no such machine if one of them does not
unfoldable pub after : Isa → Machine → ℕ → Option Machine
after isa m zero = Some m
after isa m (suc n) = step_from isa (after isa m n)

-- the same machine except for the rest of the input
pub record SameButInput (m k : Machine) : Type 0 where
  pub hart : k.hart ≡ m.hart
  pub output : k.output ≡ m.output
