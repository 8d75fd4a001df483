-- Each command, line and byte keeps a session on its run, and a session ends there.
use Rattle.std.proofs.Common.{◌≡◌, ℕ, zero, suc, List, [], ◌∷◌, ◌++◌, length, Option, Some, None, Ok, Err, sym, ap, subst, inl, inr}
use Rattle.std.specs.Prelude.{◌⊎◌, Result}
use Rattle.cf_layout.specs.Accepted.{IsAccepted}
use Rattle.cf_semantics.specs.moves.Kept.{Kept}
use Rattle.cf_core.specs.Processors.{Processor}
use Rattle.cf_run.specs.Made.{Made}
use Rattle.rv_text.specs.Lines.{without_return}
use Rattle.cf_debug.specs.declared.answer.Debugged.{Debugged}
use Rattle.cf_debug.specs.declared.answer.Debugged.TheVariants.{Done, Limit, ReadFault, WriteFault, ReportFault}
use Rattle.cf_debug.specs.declared.command.DebugCommand.{DebugCommand}
use Rattle.cf_debug.specs.declared.command.DebugCommand.TheVariants.{Nothing, Move, Auto, Show, Break, Back, End}
use Rattle.cf_debug.specs.declared.command.Refusal.{Refusal}
use Rattle.cf_debug.specs.Commands.{command_in}
use Rattle.cf_debug.specs.Driving.{Turn, DrivesOn, Passes, Pauses, first_auto_turn, next_turn}
use Rattle.cf_debug.specs.Making.{ProcessorState}
use Rattle.cf_debug.specs.Replies.{DebuggerState, AnswersLine, AnswersPart, CommandAnswers, CommandAnswersPart, FailsAnswer, RunsAground, TakesBack, TakesMoves, TakesNewest}
use Rattle.cf_debug.specs.Sessions.{LineLeaves, FinishesSession, UsesByte}
use Rattle.cf_debug.specs.Standing.{IsOnRun, StandsAfterMoves, StandsNow}
use Rattle.cf_debug.proofs.Aground.{stands-aground}
use Rattle.cf_debug.proofs.KeptMoves.{makes-stands}
use Rattle.cf_debug.proofs.Standing.{stands-back, stands-on_run}

passes_stand : (start : Processor) (blank : Option (List ℕ)) (stop : Option ℕ) (first last : Turn) (now new : ProcessorState) (trace : List Made) →
    StandsNow start blank now → Passes stop first now trace last new → StandsNow start blank new
unfolding Passes
passes_stand start blank stop first last now new [] h (same, is) = subst (StandsNow start blank) (sym is) h
passes_stand start blank stop first last now new (made ∷ trace) h (next, takes, free, more) =
    passes_stand start blank stop (next_turn first now made) last next new trace (makes-stands start made.move made.event blank now next h takes.makes) more

pauses_stand : (start : Processor) (blank : Option (List ℕ)) (n : ℕ) (stop : Option ℕ) (count : ℕ) (at : Turn) (now new : ProcessorState) (last : List Made) →
    StandsNow start blank now → Pauses n stop count at now new last → StandsNow start blank new
pauses_stand start blank n stop count at now new [] h (same, why) = subst (StandsNow start blank) (sym same) h
pauses_stand start blank n stop count at now new (made ∷ []) h (few, takes, hit) = makes-stands start made.move made.event blank now new h takes.makes
pauses_stand start blank n stop count at now new (made ∷ other ∷ more) h none = absurd none

same_stands : (start : Processor) (blank : Option (List ℕ)) (now new : ProcessorState) → StandsNow start blank now → new ≡ now → StandsNow start blank new
same_stands start blank now new h same = subst (StandsNow start blank) (sym same) h

processor_same : (start : Processor) (blank : Option (List ℕ)) (now new : DebuggerState) → StandsNow start blank now.processor → new ≡ now →
    StandsNow start blank new.processor
processor_same start blank now new h same = subst (λ (d : DebuggerState). StandsNow start blank d.processor) (sym same) h

newest_stand : (start : Processor) (blank : Option (List ℕ)) (now new : ProcessorState) (text : List ℕ) → StandsNow start blank now →
    TakesNewest now new text → StandsNow start blank new
newest_stand start blank now new text h (older, k, there, is, line) =
    let before : StandsAfterMoves start now.core (older ++ k ∷ []) blank now.output =
    subst (λ (ring : List Kept). StandsAfterMoves start now.core ring blank now.output) there h in
    let after : StandsAfterMoves start new.core older blank now.output =
    stands-back start now.core new.core older k blank now.output before (ap (λ (b : ProcessorState). b.core) is) in
    subst (λ (output : Option (List ℕ)). StandsAfterMoves start new.core new.ring blank output) (sym (ap (λ (b : ProcessorState). b.output) is))
    (subst (λ (ring : List Kept). StandsAfterMoves start new.core ring blank now.output) (sym (ap (λ (b : ProcessorState). b.ring) is)) after)

takes_stand : (start : Processor) (blank : Option (List ℕ)) (n : ℕ) (now new : ProcessorState) (text : List ℕ) → StandsNow start blank now →
    TakesMoves n now new text → StandsNow start blank new
unfolding TakesMoves
takes_stand start blank zero now new text h (same, none) = same_stands start blank now new h same
takes_stand start blank (suc n) now new text h (between, lines, last, before, newest, is) =
    newest_stand start blank between new last (takes_stand start blank n now between lines h before) newest

back_stand : (start : Processor) (blank : Option (List ℕ)) (n : ℕ) (now new : ProcessorState) (text : List ℕ) → StandsNow start blank now →
    TakesBack n now new text → StandsNow start blank new
back_stand start blank n now new text h (inl all) = takes_stand start blank n now new text h all
back_stand start blank n now new text h (inr (m, lines, few, some, none, is)) = takes_stand start blank m now new lines h some

-- each command keeps a session on its run
carries_stand : (start : Processor) (blank : Option (List ℕ)) (command : DebugCommand) (now new : DebuggerState) (text : List ℕ) →
    StandsNow start blank now.processor → CommandAnswers command now new text → StandsNow start blank new.processor
unfolding CommandAnswers
carries_stand start blank Nothing now new text h c = processor_same start blank now new h c.0
carries_stand start blank (Move mv) now new text h (same, inl (spent, r)) = same_stands start blank now.processor new.processor h r.0
carries_stand start blank (Move mv) now new text h (same, inr (inl (below, (b, is, r)))) = same_stands start blank now.processor new.processor h r.0
carries_stand start blank (Move mv) now new text h (same, inr (inr (below, (e, makes, is)))) =
    makes-stands start mv e blank now.processor new.processor h makes
carries_stand start blank (Auto n) now new text h (same, inl (spent, r)) = same_stands start blank now.processor new.processor h r.0
carries_stand start blank (Auto n) now new text h (same, inr (below, (count, lines, d, is))) =
    pauses_stand start blank n now.stop (length d.trace) d.at d.now new.processor d.last
    (passes_stand start blank now.stop first_auto_turn d.at now.processor d.now d.trace h d.passes) d.pauses
carries_stand start blank (Show view) now new text h c = processor_same start blank now new h c.0
carries_stand start blank (Break stop) now new text h c =
    same_stands start blank now.processor new.processor h (ap (λ (d : DebuggerState). d.processor) c.0)
carries_stand start blank (Back n) now new text h (same, back) = back_stand start blank n now.processor new.processor text h back
carries_stand start blank End now new text h c = processor_same start blank now new h c.0

-- the moves of `auto` whose last was not shown
drives_stand : (start : Processor) (blank : Option (List ℕ)) (n : ℕ) (stop : Option ℕ) (now new : ProcessorState) (lines : List ℕ) →
    StandsNow start blank now → DrivesOn n stop now new lines → StandsNow start blank new
drives_stand start blank n stop now new lines h d =
    makes-stands start d.made.move d.made.event blank d.now new (passes_stand start blank stop first_auto_turn d.at now d.now d.trace h d.passes) d.takes.makes

-- so does a command whose answer the report failed
parts_stand : (start : Processor) (blank : Option (List ℕ)) (command : DebugCommand) (now new : DebuggerState) (text : List ℕ) →
    StandsNow start blank now.processor → CommandAnswersPart command now new text → StandsNow start blank new.processor
unfolding CommandAnswersPart
parts_stand start blank Nothing now new text h c = carries_stand start blank Nothing now new text h c
parts_stand start blank (Move mv) now new text h c = carries_stand start blank (Move mv) now new text h c
parts_stand start blank (Auto n) now new text h (inl c) = carries_stand start blank (Auto n) now new text h c
parts_stand start blank (Auto n) now new text h (inr (same, d)) = drives_stand start blank n now.stop now.processor new.processor text h d
parts_stand start blank (Show view) now new text h c = carries_stand start blank (Show view) now new text h c
parts_stand start blank (Break stop) now new text h c = carries_stand start blank (Break stop) now new text h c
parts_stand start blank (Back n) now new text h (same, (m, few, back)) = back_stand start blank m now.processor new.processor text h back
parts_stand start blank End now new text h c = carries_stand start blank End now new text h c

-- a command that the output failed keeps it there too
runs_aground : (start : Processor) (blank : Option (List ℕ)) (command : DebugCommand) (now new : DebuggerState) (text : List ℕ) → IsAccepted start.plan →
    StandsNow start blank now.processor → RunsAground command now new text →
    IsOnRun start new.processor.core blank new.processor.output WriteFault
unfolding RunsAground
runs_aground start blank Nothing now new text accepted h f = absurd f
runs_aground start blank (Move mv) now new text accepted h f = stands-aground start blank mv now.processor new.processor accepted h f.1
runs_aground start blank (Auto n) now new text accepted h d =
    stands-aground start blank _ d.now new.processor accepted
    (passes_stand start blank now.stop first_auto_turn d.at now.processor d.now d.trace h d.passes) d.fails
runs_aground start blank (Show view) now new text accepted h f = absurd f
runs_aground start blank (Break stop) now new text accepted h f = absurd f
runs_aground start blank (Back n) now new text accepted h f = absurd f
runs_aground start blank End now new text accepted h f = absurd f

-- each line that is answered keeps it on its run
answers_stand : (start : Processor) (blank : Option (List ℕ)) (told : Result DebugCommand Refusal) (now new : DebuggerState) (text : List ℕ) →
    StandsNow start blank now.processor → AnswersLine told now new text → StandsNow start blank new.processor
unfolding AnswersLine
answers_stand start blank (Ok command) now new text h a = carries_stand start blank command now new text h a.1
answers_stand start blank (Err refusal) now new text h a = processor_same start blank now new h a.0

part_stands : (start : Processor) (blank : Option (List ℕ)) (told : Result DebugCommand Refusal) (now new : DebuggerState) (text : List ℕ) →
    StandsNow start blank now.processor → AnswersPart told now new text → StandsNow start blank new.processor
unfolding AnswersPart
part_stands start blank (Ok command) now new text h a = parts_stand start blank command now new text h a.1
part_stands start blank (Err refusal) now new text h a = processor_same start blank now new h a.0

fails_aground : (start : Processor) (blank : Option (List ℕ)) (told : Result DebugCommand Refusal) (now new : DebuggerState) (text : List ℕ) →
    IsAccepted start.plan → StandsNow start blank now.processor → FailsAnswer told now new text →
    IsOnRun start new.processor.core blank new.processor.output WriteFault
unfolding FailsAnswer
fails_aground start blank (Ok command) now new text accepted h f = runs_aground start blank command now new text accepted h f
fails_aground start blank (Err refusal) now new text accepted h f = absurd f

-- where the session ends, if the output did not fail
done_there : (start : Processor) (blank : Option (List ℕ)) (now : ProcessorState) → IsAccepted start.plan → StandsNow start blank now →
    IsOnRun start now.core blank now.output Done
done_there start blank now accepted h = stands-on_run start now.core now.ring blank now.output Done accepted (λ x m begin new s. s) h

-- and a line that ends the session ends it there
ends_on_run : (start : Processor) (line : List ℕ) (blank : Option (List ℕ)) (now new : DebuggerState) (written after : Option (List ℕ)) (answer : Debugged) →
    IsAccepted start.plan → StandsNow start blank now.processor → LineLeaves line now new written after (Some answer) →
    IsOnRun start new.processor.core blank new.processor.output answer
unfolding LineLeaves
ends_on_run start line blank now new written after Done accepted h e =
    done_there start blank new.processor accepted (processor_same start blank now new h e.1)
ends_on_run start line blank now new written after Limit accepted h e = absurd e
ends_on_run start line blank now new written after ReadFault accepted h e = absurd e
ends_on_run start line blank now new written after WriteFault accepted h (text, f, put) =
    fails_aground start blank (command_in line) now new text accepted h f
ends_on_run start line blank now new written after ReportFault accepted h (text, a, put) =
    stands-on_run start new.processor.core new.processor.ring blank new.processor.output ReportFault accepted (λ x m begin new s. s)
    (part_stands start blank (command_in line) now new text h a)

-- a byte that is used keeps it on its run
pub uses-stand : (start : Processor) (byte : ℕ) (line later : List ℕ) (blank : Option (List ℕ)) (now new : DebuggerState) (written after : Option (List ℕ)) →
    StandsNow start blank now.processor → UsesByte byte line later now new written after None → StandsNow start blank new.processor
unfolding LineLeaves
uses-stand start byte line later blank now new written after h (inl (other, held_is, same, still, goes)) = processor_same start blank now new h same
uses-stand start byte line later blank now new written after h (inr (end, empty, (text, a, put))) =
    answers_stand start blank (command_in (without_return line)) now new text h a

pub uses-on_run : (start : Processor) (byte : ℕ) (line later : List ℕ) (blank : Option (List ℕ)) (now new : DebuggerState) (written after : Option (List ℕ))
    (answer : Debugged) → IsAccepted start.plan → StandsNow start blank now.processor → UsesByte byte line later now new written after (Some answer) →
    IsOnRun start new.processor.core blank new.processor.output answer
uses-on_run start byte line later blank now new written after answer accepted h (inl (other, held_is, same, still, goes)) = absurd (cc)
uses-on_run start byte line later blank now new written after answer accepted h (inr (end, empty, ends)) =
    ends_on_run start (without_return line) blank now new written after answer accepted h ends

-- and at the end of the commands
pub finishes-on_run : (start : Processor) (line : List ℕ) (blank : Option (List ℕ)) (now new : DebuggerState) (written after : Option (List ℕ))
    (answer : Debugged) → IsAccepted start.plan → StandsNow start blank now.processor → FinishesSession line now new written after answer →
    IsOnRun start new.processor.core blank new.processor.output answer
unfolding LineLeaves
finishes-on_run start line blank now new written after answer accepted h (inl (empty, done, same, still)) =
    subst (IsOnRun start new.processor.core blank new.processor.output) (sym done)
    (done_there start blank new.processor accepted (processor_same start blank now new h same))
finishes-on_run start line blank now new written after answer accepted h (inr (inl (some, done, (text, a, put)))) =
    subst (IsOnRun start new.processor.core blank new.processor.output) (sym done)
    (done_there start blank new.processor accepted (answers_stand start blank (command_in line) now new text h a))
finishes-on_run start line blank now new written after answer accepted h (inr (inr (some, ends))) =
    ends_on_run start line blank now new written after answer accepted h ends
