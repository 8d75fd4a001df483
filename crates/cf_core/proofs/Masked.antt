-- The words that are seen are those that are kept, except that nothing is allowed once the program has ended or failed.
use Rattle.std.proofs.Common.{◌≡◌, ◌∙◌, ℕ, List, Bool, true, false, refl, sym}
use Rattle.std.specs.Prelude.{◌&&◌, if◌then◌else◌, not}
use Rattle.cf_bind.specs.declared.cell.Cell.{Cell}
use Rattle.cf_bind.specs.declared.moves.Move.{Move}
use Rattle.cf_bind.specs.declared.moves.Move.TheVariants.{Execute, Launch, Recover}
use Rattle.cf_layout.specs.Layout.{Plan}
use Rattle.cf_semantics.specs.moves.Bars.{bar}
use Rattle.cf_semantics.specs.state.Options.{is_some}
use Rattle.cf_semantics.specs.state.State.{State}
use Rattle.cf_stages.specs.Words.{met_word, packet_word, passenger_word, word_of}
use Rattle.cf_stages.proofs.Bits.{word-agrees}
use Rattle.cf_stages.proofs.Empty.{word-none}
use Rattle.cf_core.specs.Marks.{row_allows, marks_of, mark_at}
use Rattle.cf_core.specs.Masks.{is_allowed, masks_of}
use Rattle.cf_core.specs.Processors.{Processor}
use Rattle.cf_core.specs.declared.marks.Marks.{Marks}

-- a move is allowed if the processor goes on and nothing in the move's row bars it
pub allowed-as : (plan : Plan) (s : State) (mv : Move) (ended failed : Bool) → is_some s.ending ≡ ended → s.failed ≡ failed →
    is_allowed plan s mv ≡ ((not ended && not failed) && row_allows plan s mv)
unfolding bar
allowed-as plan s mv true f e g = rw e refl
allowed-as plan s mv false true e g = rw (e, g) refl
allowed-as plan s mv false false e g = rw (e, g) refl

-- the word of a test, if the processor goes on
chosen : (plan : Plan) (s : State) (kind : ℕ → Move) (n : ℕ) (goes_on : Bool) →
    ((i : ℕ) → is_allowed plan s (kind i) ≡ (goes_on && row_allows plan s (kind i))) →
    word_of (λ i. is_allowed plan s (kind i)) n ≡ (if goes_on then word_of (λ i. row_allows plan s (kind i)) n else 0)
chosen plan s kind n true same = word-agrees (λ i. is_allowed plan s (kind i)) (λ i. row_allows plan s (kind i)) n (λ i low high. same i)
chosen plan s kind n false same = word-agrees (λ i. is_allowed plan s (kind i)) (λ i. false) n (λ i low high. same i) ∙ word-none n

-- the words of the marks that are kept
pub masks-are : (plan : Plan) (s : State) (marks : Marks) (goes_on : Bool) → marks ≡ marks_of plan s → goes_on ≡ (not (is_some s.ending) && not s.failed) →
    record {
      passengers = passenger_word s.cells;
      packets = packet_word s.cells;
      met = met_word s.cells;
      owes = marks.owes;
      stops = marks.stops;
      execute = if goes_on then marks.execute else 0;
      launch = if goes_on then marks.launch else 0;
      recover = if goes_on then marks.recover else 0;
    } ≡ masks_of plan s
unfolding marks_of mark_at masks_of
masks-are plan s marks goes_on is on =
    let word = λ (kind : ℕ → Move). chosen plan s kind plan.stages goes_on (λ i. rw on (allowed-as plan s (kind i) (is_some s.ending) s.failed refl refl)) in
    let execute = sym (word Execute) in
    let launch = sym (word Launch) in
    let recover = sym (word Recover) in
    rw is (λ x. record {
      passengers = passenger_word s.cells;
      packets = packet_word s.cells;
      met = met_word s.cells;
      owes = (masks_of plan s).owes;
      stops = (masks_of plan s).stops;
      execute = execute x;
      launch = launch x;
      recover = recover x;
    })

-- the words that are seen, given what was read
pub masks-seen : (p : Processor) (cells : List Cell) (marks : Marks) (goes_on : Bool) (riding flying met execute launch recover : ℕ) →
    marks ≡ marks_of p.plan p.state → goes_on ≡ (not (is_some p.state.ending) && not p.state.failed) → cells ≡ p.state.cells →
    riding ≡ passenger_word cells → flying ≡ packet_word cells → met ≡ met_word cells →
    execute ≡ (if goes_on then marks.execute else 0) → launch ≡ (if goes_on then marks.launch else 0) → recover ≡ (if goes_on then marks.recover else 0) →
    record { passengers = riding; packets = flying; met = met; owes = marks.owes; stops = marks.stops; execute = execute; launch = launch; recover = recover }
    ≡ masks_of p.plan p.state
masks-seen p cells marks goes_on riding flying met execute launch recover is on same a b c e l r =
    rw (a, b, c, e, l, r, same) (masks-are p.plan p.state marks goes_on is on)
