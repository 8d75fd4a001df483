-- The answer of a command says which files it read.
use Rattle.std.proofs.Common.{ℕ, List, [], ◌++◌, true, false, Option, Result, Ok, Err}
use Rattle.cli_arguments.specs.Arguments.{Asked, machine, run, moves, rounds, orders, conform, debug, time, audit, check, asm, listing, gen, help, version, help_on}
use Rattle.cli_audit.specs.Audit.{audit_asked}
use Rattle.cli_audit.specs.Effects.{input_side_of}
use Rattle.cli_audit.proofs.Reading.{audited-read}
use Rattle.cli_conform.proofs.Reading.{conform-read}
use Rattle.cli_debug.proofs.Reading.{debugged-read, broken-read}
use Rattle.cli_files.specs.Outside.{Outside}
use Rattle.cli_files.specs.Reads.{WereRead}
use Rattle.cli_files.specs.RunFiles.{run_asked}
use Rattle.cli_files.specs.declared.status.Status.{Status}
use Rattle.cli_files.proofs.Reading.{were-none, files-read, answered-read}
use Rattle.cli_time.specs.Asked.{time_asked}
use Rattle.cli_time.proofs.FilesRead.{timed-read, broken-read as time-broken}
use Rattle.cli_reports.specs.FileCommands.{side_of}
use Rattle.cfpp_cli.specs.NamedFiles.{files_named}
use Rattle.cfpp_cli.specs.Top.{Answers, Breaks, closing_and}
use Rattle.cli_machine.proofs.Reading.{machine-read, machine-broken}
use Rattle.cli_rounds.proofs.Reading.{rounds-read, rounds-broken}
use Rattle.cli_check.proofs.Reading.{check-read}
use Rattle.cli_asm.proofs.Reading.{source-read}
use Rattle.cli_list.proofs.Reading.{listing-read}
use Rattle.cli_orders.proofs.Reading.{orders-read}

pub answers-read : (reading : Result Asked ℕ) (before after : Outside) (blank : Option (List ℕ)) (answer : Status)
    (shown closing : List ℕ) → Answers reading before after blank answer shown closing → WereRead (files_named reading) before.files after.files
answers-read (Ok (machine program limit retired mul every)) before after blank answer shown closing h =
    machine-read program _ before after answer shown closing h
answers-read (Ok (run layout program schedule limit reporting)) before after blank answer shown closing h =
    answered-read _ (run_asked layout program schedule limit reporting) before after answer (shown ++ closing) h
answers-read (Ok (moves layout program schedule limit every)) before after blank answer shown closing h =
    answered-read _ (run_asked layout program schedule limit (closing_and every)) before after answer (shown ++ closing) h
answers-read (Ok (rounds layout program limit every rule)) before after blank answer shown closing h =
    rounds-read _ before after blank answer shown closing h
answers-read (Ok (conform layout program limit)) before after blank answer shown closing h =
    conform-read _ before after answer (shown ++ closing) h
answers-read (Ok (debug layout program)) before after blank answer shown closing h =
    debugged-read layout program before after answer (shown ++ closing) h
answers-read (Ok (time delays program layouts chosen)) before after blank answer shown closing h =
    timed-read (time_asked delays program layouts chosen) before.files after.files answer (shown ++ closing) h.0
answers-read (Ok (orders layout program chosen)) before after blank answer shown closing h =
    orders-read _ before after answer (shown ++ closing) h
answers-read (Ok (audit layout program trace)) before after blank answer shown closing h =
    audited-read (audit_asked layout program trace) (input_side_of before) (input_side_of after) answer (shown ++ closing) h.0
answers-read (Ok (check layout)) before after blank answer shown closing h =
    check-read layout (side_of before) (side_of after) answer (shown ++ closing) h.0
answers-read (Ok (asm source)) before after blank answer shown closing h =
    source-read source (side_of before) (side_of after) answer (shown ++ closing) h.0
answers-read (Ok (listing program)) before after blank answer shown closing h =
    listing-read program (side_of before) (side_of after) answer (shown ++ closing) h.0
answers-read (Ok (gen number true)) before after blank answer shown closing h = were-none [] before.files after.files h.1
answers-read (Ok (gen number false)) before after blank answer shown closing h = were-none [] before.files after.files h.files
answers-read (Ok help) before after blank answer shown closing h = were-none [] before.files after.files h.files
answers-read (Ok (help_on name)) before after blank answer shown closing h = were-none [] before.files after.files h.files
answers-read (Ok version) before after blank answer shown closing h = were-none [] before.files after.files h.files
answers-read (Err index) before after blank answer shown closing h = were-none [] before.files after.files h.files

pub breaks-read : (reading : Result Asked ℕ) (before after : Outside) (blank full : Option (List ℕ)) →
    Breaks reading before after blank full → WereRead (files_named reading) before.files after.files
breaks-read (Ok (machine program limit retired mul every)) before after blank full h =
    machine-broken program _ before after blank full h
breaks-read (Ok (run layout program schedule limit reporting)) before after blank full h =
    files-read _ (run_asked layout program schedule limit reporting) before after h
breaks-read (Ok (moves layout program schedule limit every)) before after blank full h =
    files-read _ (run_asked layout program schedule limit (closing_and every)) before after h
breaks-read (Ok (rounds layout program limit every rule)) before after blank full h =
    rounds-broken _ before after blank full h
breaks-read (Ok (conform layout program limit)) before after blank full h = absurd h
breaks-read (Ok (debug layout program)) before after blank full h = broken-read layout program before after blank full h
breaks-read (Ok (gen number true)) before after blank full h = were-none [] before.files after.files h.1
breaks-read (Ok (time delays program layouts chosen)) before after blank full h =
    time-broken (time_asked delays program layouts chosen) before.files after.files blank full h.0
breaks-read (Ok (orders layout program chosen)) before after blank full h = absurd h
breaks-read (Ok (audit layout program trace)) before after blank full h = absurd h
breaks-read (Ok (check layout)) before after blank full h = absurd h
breaks-read (Ok (asm source)) before after blank full h = absurd h
breaks-read (Ok (listing program)) before after blank full h = absurd h
breaks-read (Ok (gen number false)) before after blank full h = absurd h
breaks-read (Ok help) before after blank full h = absurd h
breaks-read (Ok (help_on name)) before after blank full h = absurd h
breaks-read (Ok version) before after blank full h = absurd h
breaks-read (Err index) before after blank full h = absurd h
