-- Where a session ends if its output failed a call: at the moment where the call was to be served.
use Rattle.std.proofs.Common.{◌≡◌, ℕ, ◌++◌, List, [], Option, Some, None, true, sym, ap, subst, ◌∙◌, take}
use Rattle.cf_io.specs.Puts.{Writes, WritesFront}
use Rattle.cf_io.proofs.Owing.{writes-again}
use Rattle.rv_machine.specs.Machine.{Machine}
use Rattle.rv_machine.specs.Streams.{Streams}
use Rattle.cf_layout.specs.Accepted.{IsAccepted}
use Rattle.cf_bind.specs.declared.moves.Move.{Move}
use Rattle.cf_bind.specs.declared.moves.Move.TheVariants.{Serve}
use Rattle.cf_semantics.specs.moves.Bars.{bar}
use Rattle.cf_semantics.specs.state.State.{Moment, State}
use Rattle.cf_core.specs.Processors.{Processor, in_state}
use Rattle.cf_core.specs.Stepping.{FailsToWrite}
use Rattle.cf_run.specs.Headline.{machine_on, FailsOutput, IsUnmoved, StandsAt}
use Rattle.cf_run.specs.Moving.{RunPlace}
use Rattle.cf_run.proofs.Arrived.{right}
use Rattle.cf_run.proofs.Fronts.{front-after}
use Rattle.cf_run.proofs.Settling.{IsKept, kept-run}
use Rattle.cf_debug.specs.declared.answer.Debugged.TheVariants.{WriteFault}
use Rattle.cf_debug.specs.Making.{FailsOne, ProcessorState}
use Rattle.cf_debug.specs.Standing.{IsLeftAt, IsOnRun, StandsNow, session_place}
use Rattle.cf_debug.proofs.Standing.{Comes, stands-at, stands-comes}

-- the processor that a failed write leaves
unwritten : (begin old new : Processor) (m : Moment) (before after : Streams) → old ≡ in_state begin m.state → FailsToWrite old new before after →
    IsUnmoved m new.state
unwritten begin old new m before after same h =
    let is : new.state ≡ record m.state { failed = true } = ap (λ (p : Processor). p.state) h.processor
    ∙ ap (λ (p : Processor). record p.state { failed = true }) same in
    record { regs = ap (λ (s : State). s.regs) is; retired = ap (λ (s : State). s.retired) is; ending = ap (λ (s : State). s.ending) is }

-- what was written if a prefix was, whether or not the output exposes it
written_front : (before after : Option (List ℕ)) (bytes : List ℕ) → WritesFront before after bytes → (n : ℕ) × Writes before after (take n bytes)
written_front None after bytes front = (0, tt)
written_front (Some told) after bytes front = (front.0, front.2)

-- the output failed the call that was to be served at a moment of a run
aground : (x : Machine) (m : Moment) (begin now new : RunPlace) → IsAccepted begin.core.plan → IsKept begin.core.plan x m → StandsAt m begin now →
    bar now.core.plan now.core.state Serve ≡ None → FailsToWrite now.core new.core now.streams new.streams → FailsOutput x m begin new
aground x m begin now new accepted kept stands free h =
    let allowed : bar begin.core.plan m.state Serve ≡ None = subst (λ (p : Processor). bar p.plan p.state Serve ≡ None) stands.core free in
    let fails : FailsToWrite (in_state begin.core m.state) new.core now.streams new.streams =
    subst (λ (p : Processor). FailsToWrite p new.core now.streams new.streams) stands.core h in
    let bytes : List ℕ = fails.fails.bytes in
    let part = written_front now.streams.output new.streams.output bytes fails.fails.output in
    record {
      allowed = allowed;
      before = now.streams;
      reached = stands.streams;
      fails = fails;
      unmoved = unwritten begin.core now.core new.core m now.streams new.streams stands.core h;
      written = m.output ++ take part.0 bytes;
      output = writes-again begin.streams.output now.streams.output new.streams.output m.output (take part.0 bytes) stands.streams.output part.1;
      front = front-after begin.core.plan x m bytes part.0 accepted kept.held allowed fails.calls fails.fails.asks fails.fails.buffer;
    }

-- so a session whose output failed ends on its run
pub stands-aground : (start : Processor) (blank : Option (List ℕ)) (mv : Move) (now new : ProcessorState) → IsAccepted start.plan →
    StandsNow start blank now → FailsOne mv now new → IsOnRun start new.core blank new.output WriteFault
stands-aground start blank mv now new accepted h f =
    let x : Machine = machine_on h.hart [] in
    let c : Comes start.plan x h.older.output now.core.state = stands-comes start now.core now.ring blank now.output h in
    let there = stands-at start now.core now.ring blank now.output h c in
    let free : bar now.core.plan now.core.state Serve ≡ None = subst (λ (v : Move). bar now.core.plan now.core.state v ≡ None) f.serves f.allowed in
    let kept : IsKept start.plan x c.moment =
    subst (IsKept start.plan x) (sym c.reached.is) (kept-run start.plan x c.reached.moves accepted h.wide c.reached.allowed) in
    record {
      hart = h.hart;
      opened_is = h.opened_is;
      moves = c.reached.moves;
      right = right start.plan x c.reached.moves accepted h.wide c.reached.allowed;
      left = subst (λ (m : Moment). IsLeftAt x m (session_place start blank) (session_place new.core new.output) WriteFault) c.reached.is
          (aground x c.moment (session_place start blank) (session_place now.core now.output) (session_place new.core new.output) accepted kept there free
          f.fails);
    }
