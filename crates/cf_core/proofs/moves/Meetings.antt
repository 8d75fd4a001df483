-- What is seen of a meeting is its event.
use Rattle.std.proofs.Common.{◌≡◌, ℕ, List, Option, Some, None, Bool, false, refl, ap, subst, ◌∙◌, arith}
use Rattle.std.specs.Prelude.{IsTrue}
use Rattle.cf_bind.specs.declared.cell.Cell.{Cell}
use Rattle.cf_bind.specs.declared.packet.Packet.{Packet}
use Rattle.cf_bind.specs.declared.passenger.Passenger.{Passenger}
use Rattle.cf_semantics.specs.moves.Bars.{is_full, at, meet_bar}
use Rattle.cf_semantics.specs.state.State.{cell_at}
use Rattle.cf_semantics.specs.moves.Events.{meeting_event}
use Rattle.cf_semantics.specs.declared.event.Event.TheVariants as event
use Rattle.cf_semantics.specs.state.Options.{on}
use Rattle.cf_stages.specs.Changes.{changed, is_full_at, met_in, packet_at}
use Rattle.cf_core.specs.Seen.{dies_at, event_seen, is_fatal}
use Rattle.cf_core.proofs.Cells.{cell-put}

seen_in : (o : Option Passenger) (q : Option Packet) (met : Bool) → IsTrue (is_full (record { passenger = o; packet = q; met = met })) →
    event_seen (on o false (λ p. on q false (is_fatal p))) (met_in (record { passenger = o; packet = q; met = met })).packet
    ≡ on o event.Plain (λ p. on q event.Plain (meeting_event p))
unfolding event_seen
seen_in None q met f = absurd (cc)
seen_in (Some p) None met f = absurd (cc)
seen_in (Some p) (Some k) met f = refl

-- the event of a stage that is full, given whether its instruction dies and what the meeting leaves of the result
pub meeting-event : (cells : List Cell) (i : ℕ) (dies : Bool) (left : Option Packet) → IsTrue (is_full_at cells i) → dies ≡ dies_at cells i →
    left ≡ packet_at (changed cells i met_in) i → event_seen dies left ≡ on (cell_at cells i) event.Plain
    (λ c. on c.passenger event.Plain (λ p. on c.packet event.Plain (meeting_event p)))
meeting-event cells i dies left full falls is = by (cell_at cells i) refl
  where
    by : (o : Option Cell) → cell_at cells i ≡ o → event_seen dies left ≡ on o event.Plain
        (λ c. on c.passenger event.Plain (λ p. on c.packet event.Plain (meeting_event p)))
    by None e = let no = subst (λ (o : Option Cell). IsTrue (on o false is_full)) e full in absurd (cc)
    by (Some c) e =
        let here : left ≡ (met_in c).packet = is ∙ rw e (ap (λ (o : Option Cell). on o None (λ d. d.packet)) (cell-put cells i c (met_in c) e)) in
        let told : dies ≡ on c.passenger false (λ p. on c.packet false (is_fatal p)) = falls ∙ rw e refl in
        rw (here, told) (seen_in c.passenger c.packet c.met (subst (λ (o : Option Cell). IsTrue (on o false is_full)) e full))

-- a stage is full if nothing bars the meeting there
pub allowed-full : (cells : List Cell) (i : ℕ) → at cells i meet_bar ≡ None → IsTrue (is_full_at cells i)
allowed-full cells i e = grind arith

pub ruleset meeting_in_stage = (meeting-event, allowed-full)

pub ruleset allowed_full = (allowed-full)
