use Rattle.std.proofs.Common.{◌≡◌, ◌++◌, true, false, map, Ok, Err, refl, []}
use Rattle.std.specs.Prelude.{string_bytes}
use Rattle.rv_machine.specs.Streams.{streams_of}
use Rattle.cli_arguments.specs.Arguments.{layout_in, machine, run, moves, rounds, orders, conform, debug, time, audit, check, asm, listing, gen, help, version, help_on}
use Rattle.cli_arguments.specs.Views.{layout_of, schedule_view, times_view}
use Rattle.cli_gen.specs.Drawn.{AnswersDrawn, BreaksDrawn}
use Rattle.cli_files.specs.Causes.{output_answered}
use Rattle.cli_files.proofs.NoStreams.{no-cause}
use Rattle.cli_time.specs.Asked.{time_asked}
use Rattle.cli_time.specs.Times.{AnswersTime, BreaksTime}
use Rattle.cli_reports.proofs.PutReports.{shows-none}
use Rattle.cfpp_cli.proofs.Beside.{comes-beside, untouched}
use Rattle.cfpp_cli.proofs.top.decide.Goals as goal

pub returns-in-Ok-Machine : goal.returns-in-Ok-Machine
returns-in-Ok-Machine g c =
    let o = c.in-Ok-Machine.options in
    record {
      reading = Ok (machine c.in-Ok-Machine.program.now o.limit o.show_retired o.mul o.every);
      reads = rw c.in-Ok-Machine.field-0-is at c.in-Ok-Machine.ensures.answers;
      comes = c.run_program.ensures.comes;
      files = c.run_program.ensures.faults.files;
      input = c.run_program.ensures.faults.input;
      output = c.run_program.ensures.faults.output;
    }

pub returns-in-Ok-Run : goal.returns-in-Ok-Run
returns-in-Ok-Run g c =
    let o = c.in-Ok-Run.options in
    record {
      reading = Ok (run (layout_of c.in-Ok-Run.layout) c.in-Ok-Run.program.now (schedule_view o.schedule) o.limit o.reporting);
      reads = rw c.in-Ok-Run.field-0-is at c.in-Ok-Run.ensures.answers;
      comes = c.run_processor.ensures.comes;
      files = c.run_processor.ensures.faults.files;
      input = c.run_processor.ensures.faults.input;
      output = c.run_processor.ensures.faults.output;
    }

pub returns-in-Ok-Moves : goal.returns-in-Ok-Moves
returns-in-Ok-Moves g c =
    record {
      reading = Ok (moves (layout_of c.in-Ok-Moves.layout) c.in-Ok-Moves.program.now (schedule_view c.in-Ok-Moves.schedule) c.in-Ok-Moves.limit
          c.in-Ok-Moves.every);
      reads = rw c.in-Ok-Moves.field-0-is at c.in-Ok-Moves.ensures.answers;
      comes = c.run_processor-in-Ok-Moves.ensures.comes;
      files = c.run_processor-in-Ok-Moves.ensures.faults.files;
      input = c.run_processor-in-Ok-Moves.ensures.faults.input;
      output = c.run_processor-in-Ok-Moves.ensures.faults.output;
    }

pub returns-in-Ok-Check : goal.returns-in-Ok-Check
returns-in-Ok-Check g c =
    record {
      reading = Ok (check (layout_of c.in-Ok-Check.layout));
      reads = rw c.in-Ok-Check.field-0-is at c.in-Ok-Check.ensures.answers;
      comes = ([], _, rw c.put_answer.ensures.status (c.check_layout-answer.ensures.answers, refl), shows-none _ _ _ _ c.put_answer.ensures.puts);
      files = rw c.put_answer.ensures.status c.check_layout-answer.ensures.files;
      input = rw c.put_answer.ensures.status (no-cause _ _ c.check_layout-answer.ensures.input);
      output = rw c.put_answer.ensures.status c.check_layout-answer.ensures.output;
    }

pub returns-in-Ok-Asm : goal.returns-in-Ok-Asm
returns-in-Ok-Asm g c =
    record {
      reading = Ok (asm c.in-Ok-Asm.source.now);
      reads = rw c.in-Ok-Asm.field-0-is at c.in-Ok-Asm.ensures.answers;
      comes = (
        [],
        _,
        rw c.put_answer-in-Ok-Asm.ensures.status (c.assemble_program-answer.ensures.answers, refl),
        shows-none _ _ _ _ c.put_answer-in-Ok-Asm.ensures.puts,
      );
      files = rw c.put_answer-in-Ok-Asm.ensures.status c.assemble_program-answer.ensures.files;
      input = rw c.put_answer-in-Ok-Asm.ensures.status (no-cause _ _ c.assemble_program-answer.ensures.input);
      output = rw c.put_answer-in-Ok-Asm.ensures.status c.assemble_program-answer.ensures.output;
    }

pub returns-in-Ok-List : goal.returns-in-Ok-List
returns-in-Ok-List g c =
    record {
      reading = Ok (listing c.in-Ok-List.program.now);
      reads = rw c.in-Ok-List.field-0-is at c.in-Ok-List.ensures.answers;
      comes = (
        [],
        _,
        rw c.put_answer-in-Ok-List.ensures.status (c.list_program-answer.ensures.answers, refl),
        shows-none _ _ _ _ c.put_answer-in-Ok-List.ensures.puts,
      );
      files = rw c.put_answer-in-Ok-List.ensures.status c.list_program-answer.ensures.files;
      input = rw c.put_answer-in-Ok-List.ensures.status (no-cause _ _ c.list_program-answer.ensures.input);
      output = rw c.put_answer-in-Ok-List.ensures.status c.list_program-answer.ensures.output;
    }

pub returns-in-Ok-Gen-default-false : goal.returns-in-Ok-Gen-default-false
returns-in-Ok-Gen-default-false g c =
    record {
      reading = Ok (gen c.in-Ok-Gen-default-false.number false);
      reads = rw (c.in-Ok-Gen-default-false.field-0-is, c.in-Ok-Gen-default-false.field-0-1-test) at
          c.in-Ok-Gen-default-false.ensures.answers;
      comes = (
        [],
        _,
        rw c.put_answer-in-Ok-Gen-default-false.ensures.status (record { put = c.put_drawn-answer.ensures.comes; files = refl; input = refl }),
        shows-none _ _ _ _ c.put_answer-in-Ok-Gen-default-false.ensures.puts,
      );
      files = rw c.put_answer-in-Ok-Gen-default-false.ensures.status (no-cause _ _ c.put_drawn-answer.ensures.files);
      input = rw c.put_answer-in-Ok-Gen-default-false.ensures.status (no-cause _ _ c.put_drawn-answer.ensures.input);
      output = rw c.put_answer-in-Ok-Gen-default-false.ensures.status c.put_drawn-answer.ensures.output;
    }

pub returns-in-Ok-Help : goal.returns-in-Ok-Help
returns-in-Ok-Help g c =
    let put = rw c.overview.ensures.text at c.put_text-answer.ensures.comes in
    record {
      reading = Ok help;
      reads = rw c.in-Ok-Help.field-0-is at c.in-Ok-Help.ensures.answers;
      comes = (
        [],
        _,
        rw c.put_answer-in-Ok-Help.ensures.status (record { put = put; files = refl; input = refl }),
        shows-none _ _ _ _ c.put_answer-in-Ok-Help.ensures.puts,
      );
      files = rw c.put_answer-in-Ok-Help.ensures.status (no-cause _ _ c.put_text-answer.ensures.files);
      input = rw c.put_answer-in-Ok-Help.ensures.status (no-cause _ _ c.put_text-answer.ensures.input);
      output = rw c.put_answer-in-Ok-Help.ensures.status c.put_text-answer.ensures.output;
    }

pub returns-in-Ok-HelpOn : goal.returns-in-Ok-HelpOn
returns-in-Ok-HelpOn g c =
    let put = rw c.help_on.ensures.text at c.put_text-answer-in-Ok-HelpOn.ensures.comes in
    record {
      reading = Ok (help_on c.in-Ok-HelpOn.name);
      reads = rw c.in-Ok-HelpOn.field-0-is at c.in-Ok-HelpOn.ensures.answers;
      comes = (
        [],
        _,
        rw c.put_answer-in-Ok-HelpOn.ensures.status (record { put = put; files = refl; input = refl }),
        shows-none _ _ _ _ c.put_answer-in-Ok-HelpOn.ensures.puts,
      );
      files = rw c.put_answer-in-Ok-HelpOn.ensures.status (no-cause _ _ c.put_text-answer-in-Ok-HelpOn.ensures.files);
      input = rw c.put_answer-in-Ok-HelpOn.ensures.status (no-cause _ _ c.put_text-answer-in-Ok-HelpOn.ensures.input);
      output = rw c.put_answer-in-Ok-HelpOn.ensures.status c.put_text-answer-in-Ok-HelpOn.ensures.output;
    }

pub returns-in-Ok-Version : goal.returns-in-Ok-Version
returns-in-Ok-Version g c =
    let put = rw c.version.ensures.line at c.put_text-answer-in-Ok-Version.ensures.comes in
    record {
      reading = Ok version;
      reads = rw c.in-Ok-Version.field-0-is at c.in-Ok-Version.ensures.answers;
      comes = (
        [],
        _,
        rw c.put_answer-in-Ok-Version.ensures.status (record { put = put; files = refl; input = refl }),
        shows-none _ _ _ _ c.put_answer-in-Ok-Version.ensures.puts,
      );
      files = rw c.put_answer-in-Ok-Version.ensures.status (no-cause _ _ c.put_text-answer-in-Ok-Version.ensures.files);
      input = rw c.put_answer-in-Ok-Version.ensures.status (no-cause _ _ c.put_text-answer-in-Ok-Version.ensures.input);
      output = rw c.put_answer-in-Ok-Version.ensures.status c.put_text-answer-in-Ok-Version.ensures.output;
    }

pub returns-in-Ok-Audit : goal.returns-in-Ok-Audit
returns-in-Ok-Audit g c =
    record {
      reading = Ok (audit (layout_of c.in-Ok-Audit.layout) c.in-Ok-Audit.program.now c.in-Ok-Audit.trace.now);
      reads = rw c.in-Ok-Audit.field-0-is at c.in-Ok-Audit.ensures.answers;
      comes = (
        [],
        _,
        rw c.put_answer-in-Ok-Audit.ensures.status (c.audit_trace-answer.ensures.answers, refl),
        shows-none _ _ _ _ c.put_answer-in-Ok-Audit.ensures.puts,
      );
      files = rw c.put_answer-in-Ok-Audit.ensures.status c.audit_trace-answer.ensures.files;
      input = rw c.put_answer-in-Ok-Audit.ensures.status c.audit_trace-answer.ensures.input;
      output = rw c.put_answer-in-Ok-Audit.ensures.status (no-cause _ _ c.audit_trace-answer.ensures.output);
    }

pub returns-in-Err : goal.returns-in-Err
returns-in-Err g c =
    record {
      reading = Err c.in-Err.index;
      reads = c.in-Err.ensures.answers;
      comes = (
        [],
        _,
        rw c.put_answer-in-Err.ensures.status (record { status_is = refl; files = refl; reports = c.bad_words.ensures; streams = refl }),
        shows-none _ _ _ _ c.put_answer-in-Err.ensures.puts,
      );
      files = rw c.put_answer-in-Err.ensures.status (no-cause _ _ refl);
      input = rw c.put_answer-in-Err.ensures.status (no-cause _ _ refl);
      output = rw c.put_answer-in-Err.ensures.status (no-cause _ _ refl);
    }

pub returns-in-Ok-Gen-default-true : goal.returns-in-Ok-Gen-default-true
returns-in-Ok-Gen-default-true g c =
    let n = c.in-Ok-Gen-default-true.number in
    let told = g.R.Sink.written in
    let before = streams_of (g.S.Source.left c.args.streams.input.now) (g.K.Sink.written c.args.streams.output.now) in
    let left = c.run_drawn.new.streams in
    let after = streams_of (g.S.Source.left left.0) (g.K.Sink.written left.1.0) in
    record {
      reading = Ok (gen n true);
      reads = rw (c.in-Ok-Gen-default-true.field-0-is, c.in-Ok-Gen-default-true.field-0-1-test) at
          c.in-Ok-Gen-default-true.ensures.answers;
      comes = comes-beside (AnswersDrawn n before after (told c.args.streams.report.now))
          (BreaksDrawn n before after (told c.args.streams.report.now) (told left.1.1.0))
          (g.F.Files.told c.args.files.now ≡ g.F.Files.told c.args.files.now) _ _ c.run_drawn.result refl c.run_drawn.ensures.comes;
      files = no-cause _ _ c.run_drawn.ensures.faults.files;
      input = c.run_drawn.ensures.faults.input;
      output = c.run_drawn.ensures.faults.output;
    }

pub returns-in-Ok-Rounds : goal.returns-in-Ok-Rounds
returns-in-Ok-Rounds g c =
    record {
      reading = Ok (rounds (layout_of c.in-Ok-Rounds.layout) c.in-Ok-Rounds.program.now c.in-Ok-Rounds.limit c.in-Ok-Rounds.every
          c.in-Ok-Rounds.rule);
      reads = rw c.in-Ok-Rounds.field-0-is at c.in-Ok-Rounds.ensures.answers;
      comes = c.run_in_rounds.ensures.comes;
      files = c.run_in_rounds.ensures.faults.files;
      input = c.run_in_rounds.ensures.faults.input;
      output = c.run_in_rounds.ensures.faults.output;
    }

pub returns-in-Ok-Conform : goal.returns-in-Ok-Conform
returns-in-Ok-Conform g c =
    let told = c.conform_log.ensures.reports in
    record {
      reading = Ok (conform (layout_of c.in-Ok-Conform.layout) c.in-Ok-Conform.program.now c.in-Ok-Conform.limit);
      reads = rw c.in-Ok-Conform.field-0-is at c.in-Ok-Conform.ensures.answers;
      comes = ([], told.0, told.1, shows-none _ _ _ _ told.2);
      files = c.conform_log.ensures.faults.files;
      input = c.conform_log.ensures.faults.input;
      output = c.conform_log.ensures.faults.output;
    }

pub returns-in-Ok-Debug : goal.returns-in-Ok-Debug
returns-in-Ok-Debug g c =
    record {
      reading = Ok (debug (layout_of c.in-Ok-Debug.layout) c.in-Ok-Debug.program.now);
      reads = rw c.in-Ok-Debug.field-0-is at c.in-Ok-Debug.ensures.answers;
      comes = c.debug_program.ensures.comes;
      files = c.debug_program.ensures.faults.files;
      input = c.debug_program.ensures.faults.input;
      output = c.debug_program.ensures.faults.output;
    }

pub returns-in-Ok-Orders : goal.returns-in-Ok-Orders
returns-in-Ok-Orders g c =
    let told = c.search_program.ensures.reports in
    record {
      reading = Ok (orders (layout_of c.in-Ok-Orders.layout) c.in-Ok-Orders.program.now c.in-Ok-Orders.options);
      reads = rw c.in-Ok-Orders.field-0-is at c.in-Ok-Orders.ensures.answers;
      comes = ([], told.0, told.1, shows-none _ _ _ _ told.2);
      files = c.search_program.ensures.faults.files;
      input = c.search_program.ensures.faults.input;
      output = c.search_program.ensures.faults.output;
    }

pub returns-in-Ok-Time : goal.returns-in-Ok-Time
returns-in-Ok-Time g c =
    let o = c.in-Ok-Time.options in
    let compared = c.compare_layouts in
    let layouts = map layout_in (map string_bytes c.in-Ok-Time.layouts.now) in
    let asked = time_asked c.in-Ok-Time.delays.now c.in-Ok-Time.program.now layouts (times_view o) in
    let reported = g.R.Sink.written in
    let before = g.F.Files.told c.args.files.now in
    let after = g.F.Files.told compared.new.files in
    let streams = streams_of (g.S.Source.left c.args.streams.input.now) (g.K.Sink.written c.args.streams.output.now) in
    record {
      reading = Ok (time c.in-Ok-Time.delays.now c.in-Ok-Time.program.now layouts (times_view o));
      reads = rw c.in-Ok-Time.field-0-is at c.in-Ok-Time.ensures.answers;
      comes = comes-beside (λ answer shown closing. AnswersTime asked before after answer (shown ++ closing))
          (BreaksTime asked before after (reported c.args.streams.report.now) (reported compared.new.report)) (streams ≡ streams) _ _
          compared.result refl compared.ensures.comes;
      files = compared.ensures.files;
      input = refl;
      output = untouched output_answered _ c.compare_layouts.result c.compare_layouts.ensures.output;
    }
