-- The outcome of commands and lines, from the outcomes of their parts.
use Rattle.std.proofs.Common.{◌≡◌, ◌≢◌, ℕ, zero, suc, ◌+◌, List, [], ◌∷◌, ◌++◌, Option, Some, None, Ok, Err, refl, sym, ap, subst, ◌∙◌, append-nil, append_assoc, inl, inr, arith}
use Rattle.std.specs.Prelude.{Result, codes}
use Rattle.std.specs.Result.{IsErrAnd}
use Rattle.cf_io.specs.Causes.{HasCause}
use Rattle.cf_io.specs.Puts.{Writes}
use Rattle.cf_io.specs.declared.failed.Failed.{Failed}
use Rattle.cf_io.proofs.Owing.{writes-again, front-again}
use Rattle.cf_bind.specs.declared.moves.Bar.{Bar}
use Rattle.cf_bind.specs.declared.moves.Move.{Move as AnyMove}
use Rattle.cf_semantics.specs.declared.event.Event.{Event}
use Rattle.cf_semantics.specs.moves.Bars.{bar}
use Rattle.cf_semantics.specs.moves.Kept.{Kept}
use Rattle.cf_core.specs.Processors.{Processor}
use Rattle.texts.specs.Lines.{counted_line}
use Rattle.report_refusals.specs.Bars.{bar_text}
use Rattle.cf_report.specs.Putting.{PutsText}
use Rattle.cf_debug.specs.declared.answer.Broken.{Broken}
use Rattle.cf_debug.specs.declared.answer.Broken.TheVariants as broken
use Rattle.cf_debug.specs.declared.answer.Debugged.{Debugged}
use Rattle.cf_debug.specs.declared.answer.Debugged.TheVariants.{Done, Limit, ReadFault, WriteFault, ReportFault}
use Rattle.cf_debug.specs.declared.command.DebugCommand.{DebugCommand}
use Rattle.cf_debug.specs.declared.command.DebugCommand.TheVariants.{Move, Auto, Back, End}
use Rattle.cf_debug.specs.declared.command.Refusal.{Refusal}
use Rattle.cf_debug.specs.Commands.{command_in}
use Rattle.cf_debug.specs.Making.{ProcessorState, MakesKeptOrFails, processor_state}
use Rattle.cf_debug.specs.Outcomes.{CommandLeaves, DrivesOut, PutsBack, of_report, output_broken, report_broken}
use Rattle.cf_debug.specs.Replies.{DebuggerState, debugger_state, AnswersLine, AnswersAll, AnswersPart, Automates, CommandAnswers, CommandAnswersPart, FailsAnswer, SessionGoesOn, IsAtLimit, Moves, RunsAground, TakesBack, TakesMoves, moved_text, refused_line, refusal_text}
use Rattle.rv_text.specs.Lines.{without_return}
use Rattle.cf_debug.specs.Sessions.{LineLeaves, FinishesSession, UsesByte, commands_ended, ended_by, output_ended, report_ended}

-- Commands --

-- a command that makes no move
pub carries-told : (command : DebugCommand) (now new : DebuggerState) (text : List ℕ) (written after : Option (List ℕ)) (i j : ℕ)
    (answer : Result (Unit {0}) Failed) → CommandAnswers command now new text → CommandAnswersPart command now new text →
    PutsText written after i j text answer → CommandLeaves command now new written after (of_report answer)
unfolding CommandLeaves
carries-told command now new text written after i j (Ok done) all part put = (text, all, put.all)
carries-told command now new text written after i j (Err failed) all part put = (text, part, put.front)

-- the output did not fail then, and the report failed exactly if writing the text did
pub told-still : (faults : ℕ) (answer : Result (Unit {0}) Failed) → HasCause faults faults (output_broken (of_report answer))
told-still faults (Ok done) = record { never_falls = omega arith; rose = tt; still = refl }
told-still faults (Err failed) = record { never_falls = omega arith; rose = tt; still = refl }

pub told-cause : (before now : ℕ) (answer : Result (Unit {0}) Failed) → HasCause before now answer → HasCause before now (report_broken (of_report answer))
told-cause before now (Ok done) h = record { never_falls = h.never_falls; rose = tt; still = h.still }
told-cause before now (Err failed) h = record { never_falls = h.never_falls; rose = h.rose; still = tt }

nothing_put : (told : Option (List ℕ)) → Writes told told []
nothing_put None = tt
nothing_put (Some told) = ap Some (sym (append-nil told))

-- a command that does nothing
pub carries-nothing : (command : DebugCommand) (now : DebuggerState) (written : Option (List ℕ)) → CommandAnswers command now now [] →
    CommandLeaves command now now written written (Ok tt)
unfolding CommandLeaves
carries-nothing command now written h = ([], h, nothing_put written)

-- the same with an equal answer
pub as-told : (command : DebugCommand) (now new : DebuggerState) (written after : Option (List ℕ)) (answer : Result (Unit {0}) Failed)
    (told : Result (Unit {0}) Broken) → told ≡ of_report answer → CommandLeaves command now new written after (of_report answer) →
    CommandLeaves command now new written after told
as-told command now new written after answer told is h = subst (CommandLeaves command now new written after) (sym is) h

-- the same with an equal command
pub as-command : (command other : DebugCommand) (now new : DebuggerState) (written after : Option (List ℕ)) (answer : Result (Unit {0}) Broken) →
    command ≡ other → CommandLeaves other now new written after answer → CommandLeaves command now new written after answer
as-command command other now new written after answer is h = subst (λ (c : DebugCommand). CommandLeaves c now new written after answer) (sym is) h

-- the limit is reached
pub moves-spent : (mv : AnyMove) (now : ProcessorState) → IsAtLimit now → Moves mv now now (refused_line (codes "Limit"))
moves-spent mv now spent = inl (spent, (refl, refl))

-- the move is barred
pub moves-barred : (mv : AnyMove) (b : Bar) (now : ProcessorState) → SessionGoesOn now → bar now.core.plan now.core.state mv ≡ Some b →
    Moves mv now now (refused_line (bar_text b))
moves-barred mv b now below is = inr (inl (below, (b, is, (refl, refl))))

-- or it is made
pub moves-made : (mv : AnyMove) (e : Event) (now new : ProcessorState) → SessionGoesOn now → MakesKeptOrFails mv now new (Ok e) →
    Moves mv now new (moved_text new e)
unfolding MakesKeptOrFails
moves-made mv e now new below makes = inr (inr (below, (e, makes, refl)))

pub carries-move : (mv : AnyMove) (now new : ProcessorState) (stop : Option ℕ) (text : List ℕ) (written after : Option (List ℕ)) (i j : ℕ)
    (answer : Result (Unit {0}) Failed) → Moves mv now new text → PutsText written after i j text answer →
    CommandLeaves (Move mv) (debugger_state now stop) (debugger_state new stop) written after (of_report answer)
unfolding CommandAnswers CommandAnswersPart
carries-move mv now new stop text written after i j answer moves put = carries-told (Move mv) (debugger_state now stop)
    (debugger_state new stop) text written after i j answer (refl, moves) (refl, moves) put

pub move-aground : (mv : AnyMove) (now new : ProcessorState) (stop : Option ℕ) (written : Option (List ℕ)) (failed : Failed) →
    MakesKeptOrFails mv now new (Err failed) → CommandLeaves (Move mv) (debugger_state now stop) (debugger_state new stop) written written (Err broken.Output)
unfolding CommandLeaves RunsAground MakesKeptOrFails
move-aground mv now new stop written failed fails = ([], (refl, fails), nothing_put written)

-- `auto` at the limit
pub auto-spent : (n : ℕ) (now : ProcessorState) (stop : Option ℕ) (written after : Option (List ℕ)) (i j : ℕ) (answer : Result (Unit {0}) Failed) →
    IsAtLimit now → PutsText written after i j (refused_line (codes "Limit")) answer → CommandLeaves (Auto n) (debugger_state now stop)
    (debugger_state now stop) written after (of_report answer)
unfolding CommandAnswers CommandAnswersPart
auto-spent n now stop written after i j answer spent put =
    let h : Automates n stop now now (refused_line (codes "Limit")) = inl (spent, (refl, refl)) in
    carries-told (Auto n) (debugger_state now stop) (debugger_state now stop) (refused_line (codes "Limit")) written after i j answer (refl, h)
    (inl (refl, h)) put

-- its moves were made, and their number is written
pub auto-made : (n : ℕ) (now new : ProcessorState) (stop : Option ℕ) (written between after : Option (List ℕ)) (count number i j : ℕ)
    (answer : Result (Unit {0}) Failed) → SessionGoesOn now → DrivesOut n stop now new written between (Ok count) → number ≡ count →
    PutsText between after i j (counted_line (codes "auto ") number) answer → CommandLeaves (Auto n) (debugger_state now stop)
    (debugger_state new stop) written after (of_report answer)
unfolding CommandLeaves CommandAnswers CommandAnswersPart DrivesOut
auto-made n now new stop written between after count number i j (Ok done) below (lines, drives, told) same put = (
  lines ++ counted_line (codes "auto ") number,
  (refl, inr (below, (count, lines, drives, ap (λ (k : ℕ). lines ++ counted_line (codes "auto ") k) same))),
  writes-again written between after lines (counted_line (codes "auto ") number) told put.all,
)
auto-made n now new stop written between after count number i j (Err failed) below (lines, drives, told) same put = (
  lines ++ counted_line (codes "auto ") number,
  inl (
    refl,
    inr (
      below,
      (
        count,
        lines,
        drives,
        ap (λ (k : ℕ). lines ++ counted_line (codes "auto ") k) same,
      ),
    ),
  ),
  front-again written between after lines
      (counted_line (codes "auto ") number) told put.front,
)

-- or they stopped at a fault
auto-broken : (n : ℕ) (now new : ProcessorState) (stop : Option ℕ) (written after : Option (List ℕ)) (b : Broken) →
    DrivesOut n stop now new written after (Err b) → CommandLeaves (Auto n) (debugger_state now stop) (debugger_state new stop) written after (Err b)
unfolding CommandLeaves CommandAnswersPart DrivesOut RunsAground
auto-broken n now new stop written after broken.Report (lines, drives, put) = (lines, inr (refl, drives), put)
auto-broken n now new stop written after broken.Output (lines, drives, put) = (lines, drives, put)

-- and that fault is passed on
pub auto-stopped : (n : ℕ) (now new : ProcessorState) (stop : Option ℕ) (written after : Option (List ℕ)) (b : Broken) (answer : Result (Unit {0}) Broken) →
    IsErrAnd answer (λ e. e ≡ b) → DrivesOut n stop now new written after (Err b) → CommandLeaves (Auto n) (debugger_state now stop)
    (debugger_state new stop) written after answer
auto-stopped n now new stop written after b (Ok done) same h = absurd same
auto-stopped n now new stop written after b (Err e) same h = subst (λ (by : Broken). CommandLeaves (Auto n) (debugger_state now stop)
    (debugger_state new stop) written after (Err by)) (sym same) (auto-broken n now new stop written after b h)

-- `back`, whatever the output exposes
abbrev put_beside : Option (List ℕ) → ProcessorState → ProcessorState
put_beside output b = processor_state b.core b.ring output

takes_beside : (n : ℕ) (now new : ProcessorState) (output : Option (List ℕ)) (text : List ℕ) → TakesMoves n now new text →
    TakesMoves n (put_beside output now) (put_beside output new) text
unfolding TakesMoves
takes_beside zero now new output text (same, none) = (ap (put_beside output) same, none)
takes_beside (suc n) now new output text (between, lines, last, before, (older, k, there, is, line), all) = (
  put_beside output between,
  lines,
  last,
  takes_beside n now between output lines before,
  (older, k, there, ap (put_beside output) is, line),
  all,
)

back_beside : (n : ℕ) (now new : ProcessorState) (output : Option (List ℕ)) (text : List ℕ) → TakesBack n now new text →
    TakesBack n (put_beside output now) (put_beside output new) text
back_beside n now new output text (inl all) = inl (takes_beside n now new output text all)
back_beside n now new output text (inr (m, lines, few, some, none, is)) =
    inr (m, lines, few, takes_beside m now new output lines some, none, is)

pub carries-back : (n : ℕ) (core new : Processor) (ring later : List Kept) (output : Option (List ℕ)) (stop : Option ℕ) (written after : Option (List ℕ))
    (answer : Result (Unit {0}) Failed) → PutsBack n (processor_state core ring None) (processor_state new later None) written after answer
    → CommandLeaves (Back n) (debugger_state (processor_state core ring output) stop) (debugger_state (processor_state new later output) stop) written after
    (of_report answer)
unfolding PutsBack CommandLeaves CommandAnswers CommandAnswersPart
carries-back n core new ring later output stop written after (Ok done) (text, back, put) =
    (text, (refl, back_beside n (processor_state core ring None) (processor_state new later None) output text back), put)
carries-back n core new ring later output stop written after (Err failed) (text, (m, few, back), put) =
    (text, (refl, (m, few, back_beside m (processor_state core ring None) (processor_state new later None) output text back)), put)

-- Lines --

-- the outcome of a command ends the session in this way
pub ends-command : (line : List ℕ) (command : DebugCommand) (now new : DebuggerState) (written after : Option (List ℕ)) (answer : Result (Unit {0}) Broken) →
    command_in line ≡ Ok command → command ≢ End → CommandLeaves command now new written after answer → LineLeaves line now new written after (ended_by answer)
unfolding LineLeaves CommandLeaves AnswersLine AnswersPart FailsAnswer
ends-command line command now new written after (Ok done) is other (text, h, put) =
    (text, subst (λ (told : Result DebugCommand Refusal). AnswersLine told now new text) (sym is) (other, h), put)
ends-command line command now new written after (Err broken.Report) is other (text, h, put) =
    (text, subst (λ (told : Result DebugCommand Refusal). AnswersPart told now new text) (sym is) (other, h), put)
ends-command line command now new written after (Err broken.Output) is other (text, h, put) =
    (text, subst (λ (told : Result DebugCommand Refusal). FailsAnswer told now new text) (sym is) h, put)

-- the same in terms of how the session ends
pub ends-told : (line : List ℕ) (command : DebugCommand) (now new : DebuggerState) (written after : Option (List ℕ)) (answer : Result (Unit {0}) Broken)
    (end : Option Debugged) → end ≡ ended_by answer → command_in line ≡ Ok command → command ≢ End → CommandLeaves command now new written after answer →
    LineLeaves line now new written after end
ends-told line command now new written after answer end told is other h = subst (LineLeaves line now new written after) (sym told)
    (ends-command line command now new written after answer is other h)

pub ended-output : (before now : ℕ) (answer : Result (Unit {0}) Broken) (end : Option Debugged) → end ≡ ended_by answer →
    HasCause before now (output_broken answer) → HasCause before now (output_ended end)
ended-output before now (Ok done) end is h = subst (λ (e : Option Debugged). HasCause before now (output_ended e)) (sym is) h
ended-output before now (Err broken.Output) end is h = subst (λ (e : Option Debugged). HasCause before now (output_ended e)) (sym is) h
ended-output before now (Err broken.Report) end is h = subst (λ (e : Option Debugged). HasCause before now (output_ended e)) (sym is) h

pub ended-report : (before now : ℕ) (answer : Result (Unit {0}) Broken) (end : Option Debugged) → end ≡ ended_by answer →
    HasCause before now (report_broken answer) → HasCause before now (report_ended end)
ended-report before now (Ok done) end is h = subst (λ (e : Option Debugged). HasCause before now (report_ended e)) (sym is) h
ended-report before now (Err broken.Output) end is h = subst (λ (e : Option Debugged). HasCause before now (report_ended e)) (sym is) h
ended-report before now (Err broken.Report) end is h = subst (λ (e : Option Debugged). HasCause before now (report_ended e)) (sym is) h

-- a refusal was written, or failed
ends_refused : {E : Type 0} (line : List ℕ) (refusal : Refusal) (now : DebuggerState) (written after : Option (List ℕ)) (i j : ℕ) (done : Unit {0}) →
    command_in line ≡ Err refusal → PutsText {E = E} written after i j (refused_line (refusal_text refusal)) (Ok done) →
    LineLeaves line now now written after None
unfolding LineLeaves AnswersLine
ends_refused line refusal now written after i j done is put = (
  refused_line (refusal_text refusal),
  subst (λ (told : Result DebugCommand Refusal). AnswersLine told now now (refused_line (refusal_text refusal)))
      (sym is) (refl, refl),
  put.all,
)

ends_unrefused : {T E : Type 0} (line : List ℕ) (refusal : Refusal) (now : DebuggerState) (written after : Option (List ℕ)) (i j : ℕ) (failed : E) →
    command_in line ≡ Err refusal → PutsText {T = T} written after i j (refused_line (refusal_text refusal)) (Err failed) →
    LineLeaves line now now written after (Some ReportFault)
unfolding LineLeaves AnswersPart
ends_unrefused line refusal now written after i j failed is put = (
  refused_line (refusal_text refusal),
  subst (λ (told : Result DebugCommand Refusal). AnswersPart told now now (refused_line (refusal_text refusal)))
      (sym is) (refl, refl),
  put.front,
)

-- the same in terms of how the session ends
pub ends-refusal : (line : List ℕ) (refusal : Refusal) (now : DebuggerState) (written after : Option (List ℕ)) (i j : ℕ) (answer : Result (Unit {0}) Failed)
    (told : Result (Unit {0}) Broken) (end : Option Debugged) → end ≡ ended_by told → told ≡ of_report answer → command_in line ≡ Err refusal →
    PutsText written after i j (refused_line (refusal_text refusal)) answer → LineLeaves line now now written after end
ends-refusal line refusal now written after i j (Ok done) told end ends told_is is put = rw (ends, told_is)
    (ends_refused line refusal now written after i j done is put)
ends-refusal line refusal now written after i j (Err failed) told end ends told_is is put =
    rw (ends, told_is) (ends_unrefused line refusal now written after i j failed is put)

-- a line with the same command ends the session in the same way
pub ends-same : (line other : List ℕ) (now new : DebuggerState) (written after : Option (List ℕ)) (answer : Option Debugged) →
    command_in line ≡ command_in other → LineLeaves line now new written after answer → LineLeaves other now new written after answer
unfolding LineLeaves
ends-same line other now new written after None same (text, h, put) =
    (text, subst (λ (told : Result DebugCommand Refusal). AnswersLine told now new text) same h, put)
ends-same line other now new written after (Some Done) same (is, still, put) = (sym same ∙ is, still, put)
ends-same line other now new written after (Some WriteFault) same (text, h, put) =
    (text, subst (λ (told : Result DebugCommand Refusal). FailsAnswer told now new text) same h, put)
ends-same line other now new written after (Some ReportFault) same (text, h, put) =
    (text, subst (λ (told : Result DebugCommand Refusal). AnswersPart told now new text) same h, put)
ends-same line other now new written after (Some Limit) same h = absurd h
ends-same line other now new written after (Some ReadFault) same h = absurd h

-- one more line
pub answers-more : (lines : List (List ℕ)) (line : List ℕ) (begin now new : DebuggerState) (first text : List ℕ) → AnswersAll lines begin now first →
    AnswersLine (command_in line) now new text → AnswersAll (lines ++ line ∷ []) begin new (first ++ text)
unfolding AnswersAll
answers-more [] line begin now new first text (same, none) h =
    let here : AnswersLine (command_in line) begin new text = subst (λ (d : DebuggerState). AnswersLine (command_in line) d new text) same h in
    (new, text, [], here, (refl, refl), ap (λ (t : List ℕ). t ++ text) none ∙ sym (append-nil text))
answers-more (one ∷ lines) line begin now new first text (next, front, rest, h, all, is) more =
    (next, front, rest ++ text, h, answers-more lines line next now new rest text all more, ap (λ (t : List ℕ). t ++ text) is ∙ append_assoc front rest text)

-- Faults --

-- the commands did not fail there
pub ends-fed : (line : List ℕ) (now new : DebuggerState) (written after : Option (List ℕ)) (answer : Debugged) (before faults : ℕ) → faults ≡ before →
    LineLeaves line now new written after (Some answer) → HasCause before faults (commands_ended (Some answer))
unfolding LineLeaves
ends-fed line now new written after Done before faults still e = record { never_falls = omega (arith, still); rose = tt; still = still }
ends-fed line now new written after Limit before faults still e = absurd e
ends-fed line now new written after ReadFault before faults still e = absurd e
ends-fed line now new written after WriteFault before faults still e = record { never_falls = omega (arith, still); rose = tt; still = still }
ends-fed line now new written after ReportFault before faults still e = record { never_falls = omega (arith, still); rose = tt; still = still }

-- nor at a byte that is used
pub uses-fed : (byte : ℕ) (line later : List ℕ) (now new : DebuggerState) (written after : Option (List ℕ)) (answer : Debugged) (before faults : ℕ) →
    faults ≡ before → UsesByte byte line later now new written after (Some answer) → HasCause before faults (commands_ended (Some answer))
uses-fed byte line later now new written after answer before faults still (inl (other, held_is, same, none, goes)) = absurd (cc)
uses-fed byte line later now new written after answer before faults still (inr (end, empty, ends)) =
    ends-fed (without_return line) now new written after answer before faults still ends

-- nor at the end of the commands
pub finishes-fed : (line : List ℕ) (now new : DebuggerState) (written after : Option (List ℕ)) (answer : Debugged) (before faults : ℕ) → faults ≡ before →
    FinishesSession line now new written after answer → HasCause before faults (commands_ended (Some answer))
finishes-fed line now new written after answer before faults still (inl (empty, done, same, none)) =
    subst (λ (a : Debugged). HasCause before faults (commands_ended (Some a))) (sym done) (record
    { never_falls = omega (arith, still); rose = tt; still = still })
finishes-fed line now new written after answer before faults still (inr (inl (some, done, ends))) =
    subst (λ (a : Debugged). HasCause before faults (commands_ended (Some a))) (sym done) (record
    { never_falls = omega (arith, still); rose = tt; still = still })
finishes-fed line now new written after answer before faults still (inr (inr (some, ends))) =
    ends-fed line now new written after answer before faults still ends
