-- What is shown of the instructions that the sequential machine retires, in order.
use Rattle.std.specs.Prelude.{◌≡◌, ℕ, zero, suc, List, [], ◌++◌, Option, Some, None}
use Rattle.rv_machine.specs.declared.outcome.Retired.{Retired}
use Rattle.rv_machine.specs.Machine.{Machine}
use Rattle.rv_machine.specs.Outcome.{Outcome, Next, Trap, Exit}
use Rattle.rv_machine.specs.Step.{step}
use Rattle.rv_machine.specs.After.{after, SameButInput}
use Rattle.cli_machine.specs.Options.{Chosen, shown_text}

-- what is shown of an outcome: nothing if nothing retired
abbrev pub outcome_text : Chosen → Outcome Machine → List ℕ
outcome_text c (Next m line) = shown_text c.shows c.every m.hart.retired line
outcome_text c (Trap cause pc detail) = []
outcome_text c (Exit status) = []

-- what is shown of the next step of the machine, if there is one
abbrev pub text_from : Chosen → Option Machine → List ℕ
text_from c None = []
text_from c (Some m) = outcome_text c (step c.isa m)

-- what is shown of the first n steps: those of the machines after 0, 1, .. and n - 1 instructions
unfoldable pub retired_texts : Chosen → Machine → ℕ → List ℕ
retired_texts c start zero = []
retired_texts c start (suc n) = retired_texts c start n ++ text_from c (after c.isa start n)

-- n instructions of which this is shown lead from one machine to another, over an input that does not expose its
-- remaining bytes: each finds some input
unfoldable pub LeadsBy : Chosen → Machine → ℕ → Machine → List ℕ → Type 0
LeadsBy c start zero m text = SameButInput start m × (text ≡ [])
LeadsBy c start (suc n) m text =
    (before : Machine) × (earlier : List ℕ) × (line : Retired) × (next : Machine)
    × LeadsBy c start n before earlier × (step c.isa before ≡ Next next line)
    × SameButInput next m × (text ≡ earlier ++ outcome_text c (Next next line))

-- if the input exposes its remaining bytes, the machine is the one after n instructions, and this is shown of them;
-- otherwise n instructions of which this is shown lead to it
abbrev pub ReachesBy : Chosen → Option (List ℕ) → Machine → ℕ → Machine → List ℕ → Type 0
ReachesBy c (Some left) start n m text =
    (after c.isa start n ≡ Some m) × (text ≡ retired_texts c start n)
ReachesBy c None start n m text = LeadsBy c start n m text
