-- The lines of a report other than the picture (a format of this project).
use Rattle.std.specs.Prelude.{ℕ, List, ◌++◌, codes, decimal}
use Rattle.rv_machine.specs.declared.outcome.Retired.{Retired}
use Rattle.cf_bind.specs.declared.moves.Move.{Move}
use Rattle.cf_bind.specs.MoveTexts.{move_line}
use Rattle.texts.specs.Lines.{line, counted_line, registers_from}
use Rattle.texts.specs.Retirement.{retirement_text}
use Rattle.cf_report.specs.declared.tally.Tally.{Tally}
use Rattle.cf_report.specs.Passengers.{value_text}

-- the line of the instruction that retired as the n-th
abbrev pub retired_line : ℕ → Retired → List ℕ
retired_line n r = retirement_text n r.pc r.word r.reg r.value

-- the line of the move of this number
unfoldable pub numbered_move : ℕ → Move → List ℕ
numbered_move n mv = (codes "move " ++ decimal n ++ codes " ") ++ line (move_line mv)

-- the counts, a line each
unfoldable pub tally_text : Tally → List ℕ
tally_text t =
    counted_line (codes "moves ") t.moves ++ counted_line (codes "meets ") t.meets
    ++ counted_line (codes "kills ") t.kills ++ counted_line (codes "dead ") t.dead

-- the 32 registers, four a line
abbrev pub registers_text : List ℕ → List ℕ
registers_text regs = registers_from 0 regs

-- the line of one register
abbrev pub register_line : ℕ → ℕ → List ℕ
register_line r value = line (value_text r value)
