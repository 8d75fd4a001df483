-- Guess rules: which guess of a branch or a jump is offered, and which candidates a rule leaves.
use Rattle.std.specs.Prelude.{ℤ, pos, negsuc, List, Bool, true, false, filter}
use Rattle.rv_inst.specs.declared.instruction.Instr.{Instr}
use Rattle.rv_inst.specs.declared.instruction.Instr.TheVariants.{Branch, Jal, Jalr}
use Rattle.run_options.specs.declared.guess_rule.GuessRule.{GuessRule}
use Rattle.run_options.specs.declared.guess_rule.GuessRule.TheVariants as rule
use Rattle.cf_layout.specs.Layout.{Plan}
use Rattle.cf_bind.specs.declared.passenger.Guess.{Guess}
use Rattle.cf_bind.specs.declared.passenger.Guess.TheVariants.{Next, Taken, Wait}
use Rattle.cf_bind.specs.declared.moves.Move.{Move}
use Rattle.cf_bind.specs.declared.moves.Move.TheVariants.{Issue}
use Rattle.cf_semantics.specs.state.Layouts.{isa_of}
use Rattle.cf_semantics.specs.state.Options.{on}
use Rattle.cf_semantics.specs.state.State.{State}
use Rattle.cf_semantics.specs.moves.Bars.{running}
use Rattle.cf_semantics.specs.moves.Candidates.{candidates}
use Rattle.cf_semantics.specs.moves.Instructions.{Fetched, Got, Bad, fetched}

-- a branch is guessed taken if it goes back
abbrev pub guess_back : ℤ → Guess
guess_back (negsuc n) = Taken
guess_back (pos n) = Next

-- the guess of a rule for an instruction
unfoldable pub guess_of : GuessRule → Instr → Guess
guess_of rule.Taken (Branch c rs1 rs2 imm) = Taken
guess_of rule.Taken (Jal rd imm) = Taken
guess_of rule.Taken (Jalr rd rs1 imm) = Wait
guess_of rule.Backward (Branch c rs1 rs2 imm) = guess_back imm
guess_of rule.Backward (Jal rd imm) = Taken
guess_of rule.Backward (Jalr rd rs1 imm) = Wait
guess_of rule.Wait (Branch c rs1 rs2 imm) = Wait
guess_of rule.Wait (Jal rd imm) = Wait
guess_of rule.Wait (Jalr rd rs1 imm) = Wait
guess_of r i = Next

-- its guess for what was fetched, even if there is no instruction
abbrev pub guess_for : GuessRule → Fetched → Guess
guess_for r (Got i) = guess_of r i
guess_for r (Bad end) = Next

-- its guess for what is at the address of fetch
unfoldable pub guess_at : GuessRule → Plan → State → Guess
guess_at r plan s = on (running s.fetch) Next (λ pc. guess_for r (fetched (isa_of plan) s.mem pc))

-- the two are the same guess, and not an address
abbrev pub is_guess : Guess → Guess → Bool
is_guess Next Next = true
is_guess Taken Taken = true
is_guess Wait Wait = true
is_guess g h = false

-- the rule keeps an Issue by this guess
abbrev pub keeps_guess : GuessRule → Plan → State → Guess → Bool
keeps_guess rule.Any plan s g = true
keeps_guess r plan s g = is_guess (guess_at r plan s) g

-- the rule keeps the move: it drops only Issues by another guess than its own
abbrev pub keeps_move : GuessRule → Plan → State → Move → Bool
keeps_move r plan s (Issue g) = keeps_guess r plan s g
keeps_move r plan s mv = true

-- the candidates that a rule leaves
unfoldable pub guided : GuessRule → Plan → State → List Move
guided r plan s = filter (keeps_move r plan s) (candidates plan s)
