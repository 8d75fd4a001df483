-- The report that closes a run, of the sequential machine or of the processor (a format of this project).
use Rattle.std.specs.Prelude.{ℕ, List, ◌++◌, Bool, true, false, codes}
use Rattle.cf_layout.specs.Layout.{Plan}
use Rattle.cf_semantics.specs.state.State.{State}
use Rattle.texts.specs.Lines.{counted_line}
use Rattle.cf_report.specs.declared.tally.Tally.{Tally}
use Rattle.cf_report.specs.Lines.{tally_text, registers_text}
use Rattle.cf_report.specs.Picture.{picture}
use Rattle.run_finishes.specs.declared.finish.Ran.{Ran as Answer}
use Rattle.run_finishes.specs.declared.finish.Ran.TheVariants.{ReportFault}
use Rattle.run_finishes.specs.declared.finish.Scripted.{Scripted}
use Rattle.run_finishes.specs.declared.finish.Scripted.TheVariants.{Ran}
use Rattle.report_closing.specs.Lines.{first_line}

-- the report failed during the run
abbrev pub is_report_fault : Scripted → Bool
is_report_fault (Ran ReportFault) = true
is_report_fault answer = false

-- how the run finished, and how many instructions have retired
unfoldable pub head_text : (limit moves : ℕ) → Scripted → (retired : ℕ) → List ℕ
head_text limit moves answer retired = first_line limit moves answer ++ counted_line (codes "retired ") retired

-- the report that closes a run of the sequential machine: the head, and the registers
unfoldable pub machine_closing : (limit : ℕ) → Answer → (retired : ℕ) → (regs : List ℕ) → List ℕ
machine_closing limit answer retired regs = head_text limit 0 (Ran answer) retired ++ registers_text regs

-- the counts, the registers, and the picture of the processor
unfoldable pub rest_text : Plan → State → Tally → List ℕ
rest_text plan s tally = tally_text tally ++ registers_text s.regs ++ picture plan s

-- the report that closes a run of the processor: the head, and all of that
unfoldable pub closing : (limit : ℕ) → Scripted → Plan → State → Tally → List ℕ
closing limit answer plan s tally = head_text limit tally.moves answer s.retired ++ rest_text plan s tally

-- the report that closes a run in rounds: the same, with the number of rounds after that of the retired instructions
unfoldable pub closing_in_rounds : (limit : ℕ) → Scripted → (rounds : ℕ) → Plan → State → Tally → List ℕ
closing_in_rounds limit answer rounds plan s tally =
    head_text limit tally.moves answer s.retired ++ counted_line (codes "rounds ") rounds ++ rest_text plan s tally
