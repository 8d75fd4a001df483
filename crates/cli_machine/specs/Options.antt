-- What the options of a run of the sequential machine choose.
use Rattle.std.specs.Prelude.{ℕ, List, [], ◌++◌, Bool, true, false, ◌||◌, Option, Some, None, if◌then◌else◌}
use Rattle.rv_inst.specs.declared.isa.Isa.{Isa}
use Rattle.rv_inst.specs.declared.isa.Isa.TheVariants.{Rv32i, Rv32im}
use Rattle.rv_machine.specs.declared.outcome.Retired.{Retired}
use Rattle.cf_report.specs.Lines.{retired_line}
use Rattle.cf_report.specs.Progress.{is_step, machine_line}

-- the instruction set, the number of retired instructions at which the run stops, whether a line shows each of them,
-- and the number of them after which the report says each time how far the run has come, if it does
pub record Chosen : Type 0 where
  pub isa : Isa
  pub limit : ℕ
  pub shows : Bool
  pub every : Option ℕ

-- RV32IM if the machine multiplies and divides, and otherwise RV32I
abbrev pub machine_isa : Bool → Isa
machine_isa mul = if mul then Rv32im else Rv32i

abbrev pub chosen_of : ℕ → Bool → Bool → Option ℕ → Chosen
chosen_of limit shows mul every = record { isa = machine_isa mul; limit = limit; shows = shows; every = every }

-- the lines, if they are shown
abbrev pub lines_shown : Bool → List ℕ → List ℕ
lines_shown shows text = if shows then text else []

-- what is shown of the instruction that retired as the n-th: its line, and how far the run has come
abbrev pub shown_text : (shows : Bool) (every : Option ℕ) → ℕ → Retired → List ℕ
shown_text shows every n line = lines_shown shows (retired_line n line) ++ lines_shown (is_step every n) (machine_line n)

-- whether something is shown of it
abbrev pub is_shown : (shows : Bool) (every : Option ℕ) → ℕ → Bool
is_shown shows every n = shows || is_step every n

-- whether nothing is shown while the machine runs
abbrev pub is_silent : (shows : Bool) (every : Option ℕ) → Bool
is_silent true every = false
is_silent false None = true
is_silent false (Some step) = false
