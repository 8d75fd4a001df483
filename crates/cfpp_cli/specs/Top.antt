-- The answer of the top call, and its effect on the outside.
use Rattle.std.specs.Prelude.{◌≡◌, ◌⊎◌, ℕ, List, ◌++◌, codes, Bool, true, false, if◌then◌else◌, Option, Result, Ok, Err}
use Rattle.run_options.specs.declared.reporting.Reporting.{Reporting}
use Rattle.run_options.specs.declared.show.Show.TheVariants as shows
use Rattle.cf_io.specs.Causes.{Rose, HasCause}
use Rattle.cf_io.specs.Puts.{Writes}
use Rattle.cf_report.specs.Putting.{WritesPart}
use Rattle.cf_gen.specs.Program.{program_text}
use Rattle.texts.specs.Lines.{counted_line}
use Rattle.cli_arguments.specs.Arguments.{Asks, IsBadAt, Asked, machine, run, moves, rounds, orders, conform, debug, time, audit, check, asm, listing, gen, help, version, help_on}
use Rattle.cli_machine.specs.Options.{chosen_of}
use Rattle.cli_audit.specs.Audit.{AnswersAudit, audit_asked}
use Rattle.cli_conform.specs.Conform.{AnswersConform, conform_asked}
use Rattle.cli_debug.specs.Debug.{AnswersDebug, BreaksDebug}
use Rattle.cli_time.specs.Asked.{time_asked}
use Rattle.cli_time.specs.Times.{AnswersTime, BreaksTime}
use Rattle.cli_files.specs.Causes.{files_answered, input_answered, output_answered, reading_answered}
use Rattle.cli_files.specs.Outside.{Outside, Report}
use Rattle.cli_files.specs.Reads.{WereRead}
use Rattle.cli_machine.specs.Machine.{AnswersMachine, BreaksProgram}
use Rattle.cli_check.specs.Check.{AnswersCheck}
use Rattle.cli_gen.specs.Drawn.{AnswersDrawn, BreaksDrawn}
use Rattle.cli_help.specs.Table.{help_text}
use Rattle.cli_reports.specs.FileCommands.{PutsOrFails, side_of}
use Rattle.cli_reports.specs.OutsideChanges.{OutsideChange}
use Rattle.cli_audit.specs.Effects.{input_side_of}
use Rattle.cli_list.specs.Listings.{AnswersList}
use Rattle.cli_orders.specs.Orders.{AnswersOrders, orders_asked}
use Rattle.cfpp_cli.specs.NamedFiles.{files_named}
use Rattle.cli_asm.specs.Sources.{AnswersAsm}
use Rattle.cli_files.specs.RunFiles.{run_asked}
use Rattle.cli_rounds.specs.Rounds.{rounds_asked, AnswersRounds, BreaksRounds}
use Rattle.cli_run.specs.Run.{AnswersRun, BreaksRun}
use Rattle.cfpp_cli.specs.Version.{version_line}
use Rattle.cfpp_cli.specs.declared.help.TheConstants.{HELP}
use Rattle.cli_run.specs.declared.tail.Tail.TheVariants.{Nothing, Moves}
use Rattle.cli_files.specs.declared.status.Status.{Status}
use Rattle.cli_files.specs.declared.status.Status.TheVariants as status

-- the arguments ask for this command, or this is the index of the first unexpected argument
abbrev pub ReadsArguments : List (List ℕ) → Result Asked ℕ → Type 0
ReadsArguments arguments (Ok asked) = Asks arguments asked
ReadsArguments arguments (Err index) = IsBadAt arguments index

-- the arguments are not those of any command, and no file was read
pub record RefusesArguments (index : ℕ) (before after : Outside) (answer : Status)
    (report : List ℕ) : Type 0 where
  pub status_is : answer ≡ status.BadWords index
  pub files : after.files ≡ before.files
  pub reports : report ≡ counted_line (codes "bad words at ") index
  pub streams : after.streams ≡ before.streams

-- a text was written to the output, or the output failed while it was written, and nothing else was touched
pub record PutsAlone (text : List ℕ) (before after : Outside) (answer : Status) (report : List ℕ) : Type 0 where
  pub put : PutsOrFails text before.streams.output after.streams.output answer report
  pub files : after.files ≡ before.files
  pub input : after.streams.input ≡ before.streams.input

-- `moves` shows nothing of a run except how far it has come
abbrev pub closing_and : (every : Option ℕ) → Reporting
closing_and every = record { show = shows.Report; every = every }

-- for what the arguments ask: the answer, what is shown of a run, and the closing lines of the report, after its text
-- so far; together, what is shown and these lines are the whole report
abbrev pub Answers : Result Asked ℕ → Outside → Outside → Option (List ℕ) → Status → (shown closing : List ℕ) → Type 0
Answers (Ok (machine program limit retired mul every)) before after blank answer shown closing =
    AnswersMachine program (chosen_of limit retired mul every) before after answer shown closing
Answers (Ok (run layout program schedule limit reporting)) before after blank answer shown closing =
    AnswersRun Nothing (run_asked layout program schedule limit reporting) before after blank answer shown closing
Answers (Ok (moves layout program schedule limit every)) before after blank answer shown closing =
    AnswersRun Moves (run_asked layout program schedule limit (closing_and every)) before after blank answer shown closing
Answers (Ok (rounds layout program limit every rule)) before after blank answer shown closing =
    AnswersRounds (rounds_asked layout program limit every rule) before after blank answer shown closing
Answers (Ok (conform layout program limit)) before after blank answer shown closing =
    AnswersConform (conform_asked layout program limit) before after answer (shown ++ closing)
Answers (Ok (debug layout program)) before after blank answer shown closing = AnswersDebug layout program before after answer (shown ++ closing)
Answers (Ok (time delays program layouts chosen)) before after blank answer shown closing =
    AnswersTime (time_asked delays program layouts chosen) before.files after.files answer (shown ++ closing)
    × (after.streams ≡ before.streams)
Answers (Ok (orders layout program chosen)) before after blank answer shown closing =
    AnswersOrders (orders_asked layout program chosen) before after answer (shown ++ closing)
Answers (Ok (audit layout program trace)) before after blank answer shown closing =
    AnswersAudit (audit_asked layout program trace) (input_side_of before) (input_side_of after) answer (shown ++ closing)
    × (after.streams.output ≡ before.streams.output)
Answers (Ok (check layout)) before after blank answer shown closing =
    AnswersCheck layout (side_of before) (side_of after) answer (shown ++ closing)
    × (after.streams.input ≡ before.streams.input)
Answers (Ok (asm source)) before after blank answer shown closing =
    AnswersAsm source (side_of before) (side_of after) answer (shown ++ closing)
    × (after.streams.input ≡ before.streams.input)
Answers (Ok (listing program)) before after blank answer shown closing =
    AnswersList program (side_of before) (side_of after) answer (shown ++ closing)
    × (after.streams.input ≡ before.streams.input)
Answers (Ok (gen number true)) before after blank answer shown closing =
    AnswersDrawn number before.streams after.streams blank answer shown closing × (after.files ≡ before.files)
Answers (Ok (gen number false)) before after blank answer shown closing =
    PutsAlone (program_text number) before after answer (shown ++ closing)
Answers (Ok help) before after blank answer shown closing = PutsAlone HELP.now before after answer (shown ++ closing)
Answers (Ok (help_on name)) before after blank answer shown closing = PutsAlone (help_text name) before after answer (shown ++ closing)
Answers (Ok version) before after blank answer shown closing = PutsAlone version_line before after answer (shown ++ closing)
Answers (Err index) before after blank answer shown closing = RefusesArguments index before after answer (shown ++ closing)

-- the report failed while the command was carried out
abbrev pub Breaks : Result Asked ℕ → Outside → Outside → Option (List ℕ) → Option (List ℕ) → Type 0
Breaks (Ok (machine program limit retired mul every)) before after blank full =
    BreaksProgram program (chosen_of limit retired mul every) before after blank full
Breaks (Ok (run layout program schedule limit reporting)) before after blank full =
    BreaksRun (run_asked layout program schedule limit reporting) before after blank full
Breaks (Ok (moves layout program schedule limit every)) before after blank full =
    BreaksRun (run_asked layout program schedule limit (closing_and every)) before after blank full
Breaks (Ok (rounds layout program limit every rule)) before after blank full =
    BreaksRounds (rounds_asked layout program limit every rule) before after blank full
Breaks (Ok (debug layout program)) before after blank full = BreaksDebug layout program before after blank full
Breaks (Ok (gen number true)) before after blank full =
    BreaksDrawn number before.streams after.streams blank full × (after.files ≡ before.files)
Breaks (Ok (time delays program layouts chosen)) before after blank full =
    BreaksTime (time_asked delays program layouts chosen) before.files after.files blank full
    × (after.streams ≡ before.streams)
Breaks (Ok asked) before after blank full = ⊥
Breaks (Err index) before after blank full = ⊥

-- what was shown was written, then the closing lines, and the status is the answer; or the report failed at the closing
-- lines, of which it has a prefix, or while passing on what it had gathered, its count of faults rose, and the status
-- is WriteFault
pub record Reports (before after : Report) (shown closing : List ℕ) (answer result : Status) : Type 0 where
  pub told : Option (List ℕ)
  pub shows : Writes before.written told shown
  pub closes : ((result ≡ answer) × Writes told after.written closing × (after.faults ≡ before.faults))
      ⊎ ((result ≡ status.WriteFault) × WritesPart told after.written closing × Rose before.faults after.faults)

-- the program's input is in a file that the arguments name
abbrev pub input_is_file : Result Asked ℕ → Bool
input_is_file (Ok (time delays program layouts chosen)) = true
input_is_file _ = false

-- an error if the answer is that a file could not be read, and one if it is that the program's input could not be; an
-- input in a file counts as a file
abbrev pub files_failed : (is_file : Bool) → Status → Result (Unit {0}) (Unit {0})
files_failed is_file answer = if is_file then reading_answered answer else files_answered answer

abbrev pub input_failed : (is_file : Bool) → Status → Result (Unit {0}) (Unit {0})
input_failed is_file answer = if is_file then Ok tt else input_answered answer

-- the command was carried out, with this answer and this report; a count of faults rose exactly if the answer says so
pub record Completes (reading : Result Asked ℕ) (before after : Outside) (blank full : Report)
    (result : Status) : Type 0 where
  pub answer : Status
  pub shown : List ℕ
  pub closing : List ℕ
  pub answers : Answers reading before after blank.written answer shown closing
  pub files : HasCause before.file_faults after.file_faults (files_failed (input_is_file reading) answer)
  pub input : HasCause before.input_faults after.input_faults (input_failed (input_is_file reading) answer)
  pub output : HasCause before.output_faults after.output_faults (output_answered answer)
  pub reports : Reports blank full shown closing answer result

-- the report failed while the command was carried out, and nothing else failed; the status is WriteFault
pub record ReportFailsFirst (reading : Result Asked ℕ) (before after : Outside) (blank full : Report)
    (result : Status) : Type 0 where
  pub status_is : result ≡ status.WriteFault
  pub breaks : Breaks reading before after blank.written full.written
  pub rose : Rose blank.faults full.faults
  pub files : after.file_faults ≡ before.file_faults
  pub input : after.input_faults ≡ before.input_faults
  pub output : after.output_faults ≡ before.output_faults

-- the top call: its arguments, the outside and the report before and after it, and its status; of the files that the
-- arguments name, it read the first ones, in order and each once
pub record IsTop (arguments : List (List ℕ)) (s : OutsideChange) (result : Status) : Type 0 where
  pub reading : Result Asked ℕ
  pub reads : ReadsArguments arguments reading
  pub read : WereRead (files_named reading) s.before.files s.after.files
  pub ends : Completes reading s.before s.after s.blank s.full result
      ⊎ ReportFailsFirst reading s.before s.after s.blank s.full result

-- the status says that something could not be read or written
abbrev pub says_fault : Status → Bool
says_fault (status.ReadFault kind) = true
says_fault status.WriteFault = true
says_fault _ = false

-- no count of faults rose
pub record NoneRose (s : OutsideChange) : Type 0 where
  pub files : s.after.file_faults ≡ s.before.file_faults
  pub input : s.after.input_faults ≡ s.before.input_faults
  pub output : s.after.output_faults ≡ s.before.output_faults
  pub report : s.full.faults ≡ s.blank.faults
