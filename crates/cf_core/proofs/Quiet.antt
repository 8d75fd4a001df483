-- A move that asks nothing of the outside is made in the same way whatever the input has left.
use Rattle.std.proofs.Common.{◌≡◌, List, [], ℕ}
use Rattle.rv_machine.specs.Streams.{Streams}
use Rattle.rv_machine.proofs.InputKnown.{some_rest, rest-told, rest-spent, stays}
use Rattle.cf_bind.specs.declared.moves.Move.{Move}
use Rattle.cf_semantics.specs.state.State.{Moment}
use Rattle.cf_semantics.specs.moves.Moves.{next}
use Rattle.cf_core.specs.Processors.{Processor}
use Rattle.cf_core.specs.Stepping.{Makes}

-- the moment of a processor with this left of the input, and with no output yet
abbrev pub with_rest : Processor → List ℕ → Moment
with_rest p rest = record { state = p.state; rest = rest; output = [] }

pub still-makes : (old new : Processor) (mv : Move) (streams : Streams) → ((rest : List ℕ) → next old.plan (with_rest old rest) mv ≡ with_rest new rest) →
    new.plan ≡ old.plan → Makes old new mv streams streams
still-makes old new mv streams is plan = record {
  rest = some_rest streams.input;
  told = rest-told streams.input;
  later = some_rest streams.input;
  added = [];
  is = is (some_rest streams.input);
  plan = plan;
  leaves = stays streams (some_rest streams.input) (rest-told streams.input);
  spent = rest-spent streams.input;
}
