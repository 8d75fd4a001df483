-- What the report has after the rounds so far, after one more round, and if it fails.
use Rattle.std.proofs.Common.{◌≡◌, ◌≤◌, ℕ, ◌+◌, List, [], ◌∷◌, ◌++◌, length, Option, Some, None, refl, sym, ap, subst, ◌∙◌, append-nil, append_assoc, length-append, arith}
use Rattle.run_options.specs.declared.guess_rule.GuessRule.{GuessRule}
use Rattle.cf_io.specs.Puts.{Writes, WritesFront}
use Rattle.cf_io.proofs.Owing.{writes-nothing, writes-again}
use Rattle.cf_layout.specs.Accepted.{IsAccepted}
use Rattle.cf_layout.specs.Layout.{Plan}
use Rattle.cf_semantics.specs.state.State.{State}
use Rattle.cf_report.specs.declared.tally.Tally.{Tally}
use Rattle.cf_sched.specs.Paces.{HasCounted, PaceCount}
use Rattle.run_finishes.specs.declared.finish.Ran.TheVariants as ran
use Rattle.run_finishes.specs.declared.finish.Scripted.TheVariants.{Ran}
use Rattle.cf_run.specs.Ending.{EndsSequentially}
use Rattle.cf_run.specs.Made.{Made, tally_of}
use Rattle.cf_run.specs.Moving.{RunPlace}
use Rattle.cf_run.specs.Reaching.{no_tally}
use Rattle.cf_run.proofs.Ending.{Over}
use Rattle.cf_rounds.specs.declared.answer.Clocked.{Clocked}
use Rattle.cf_rounds.specs.declared.answer.Clocked.TheVariants.{Exit, Trap, Limit, ReadFault, WriteFault, ReportFault}
use Rattle.cf_rounds.specs.Firing.{paced_by}
use Rattle.cf_rounds.specs.Running.{InRounds, RunsRounds, all_of, state_after_made}
use Rattle.cf_rounds.specs.RunsRight.{RoundsRunRight}
use Rattle.cf_rounds.specs.Saying.{BreaksBehind, Says, round_text, rounds_text}
use Rattle.cf_rounds.specs.Turns.{RoundTurns}
use Rattle.cf_rounds.proofs.Rounding.{Comes, comes-end, comes-first, comes-more, comes-runs, more-rounds, count_all, rounds-sequential, state_there}

-- the rounds so far lead here, and this is what the report has
abbrev pub SaidSo : (every : Option ℕ) (rule : GuessRule) (limit : ℕ) (start now : RunPlace) (pace : PaceCount) (number : ℕ) → (blank half : Option (List ℕ)) →
    Type 0
SaidSo every rule limit start now pace number blank half =
    (c : Comes rule limit start now pace number) × Writes blank half (rounds_text every 0 0 start.core.state c.rounds)

-- before the first round
pub said-first : (every : Option ℕ) (rule : GuessRule) (limit : ℕ) (start : RunPlace) (pace : PaceCount) (number : ℕ) (blank : Option (List ℕ)) →
    start.tally ≡ no_tally → HasCounted rule start.core.plan.stages 0 pace → number ≡ 0 → start.core.state.retired ≤ limit →
    Over start.core.plan limit start.core.state → SaidSo every rule limit start start pace number blank blank
unfolding rounds_text comes-first
said-first every rule limit start pace number blank none paced zero_rounds within over =
    (comes-first rule limit start pace number none paced zero_rounds within over, writes-nothing blank)

-- what is written after rounds, with one more
text-more : (every : Option ℕ) (rule : GuessRule) (plan : Plan) (limit count n m : ℕ) (s : State) (rounds : List (List Made)) (held : ℕ) (end : State)
    (made : List Made) → InRounds rule plan limit count s rounds held end →
    rounds_text every n m s (rounds ++ made ∷ []) ≡ rounds_text every n m s rounds
    ++ round_text every (n + length rounds + 1) (m + length (all_of rounds) + length made) end.retired (state_after_made end made).retired
unfolding rounds_text InRounds
text-more every rule plan limit count n m s [] held end made (held_is, end_is) =
    let one : n + 1 ≡ n + 0 + 1 = omega arith in
    let all : m + length made ≡ m + 0 + length made = omega arith in
    append-nil (round_text every (n + 1) (m + length made) s.retired (state_after_made s made).retired)
    ∙ ap (λ (k : ℕ). round_text every k (m + length made) s.retired (state_after_made s made).retired) one
    ∙ ap (λ (k : ℕ). round_text every (n + 0 + 1) k s.retired (state_after_made s made).retired) all
    ∙ ap (λ (q : State). round_text every (n + 0 + 1) (m + 0 + length made) q.retired (state_after_made q made).retired) (sym end_is)
text-more every rule plan limit count n m s (first ∷ rounds) held end made (goes, is, h) =
    let t : State = state_after_made s first in
    let later = text-more every rule plan limit (paced_by count first) (n + 1) (m + length first) t rounds held end made h in
    let one : n + 1 + length rounds + 1 ≡ n + length (first ∷ rounds) + 1 = omega arith in
    let all : m + length first + length (all_of rounds) + length made ≡ m + length (first ++ all_of rounds) + length made =
    omega (arith, length-append first (all_of rounds)) in
    let here : List ℕ = round_text every (n + 1) (m + length first) s.retired t.retired in
    ap (λ (text : List ℕ). here ++ text) later
    ∙ sym (append_assoc here (rounds_text every (n + 1) (m + length first) t rounds)
    (round_text every (n + 1 + length rounds + 1) (m + length first + length (all_of rounds) + length made) end.retired (state_after_made end made).retired))
    ∙ ap (λ (k : ℕ). (here ++ rounds_text every (n + 1) (m + length first) t rounds) ++ round_text every k
    (m + length first + length (all_of rounds) + length made) end.retired (state_after_made end made).retired) one
    ∙ ap (λ (k : ℕ). (here ++ rounds_text every (n + 1) (m + length first) t rounds) ++ round_text every (n + length (first ∷ rounds) + 1) k
    end.retired (state_after_made end made).retired) all

-- the moves of the rounds so far were counted
counted-so : (rule : GuessRule) (limit : ℕ) (start now : RunPlace) (pace : PaceCount) (number : ℕ) → (c : Comes rule limit start now pace number) →
    now.tally.moves ≡ length (all_of c.rounds)
unfolding tally_of
counted-so rule limit start now pace number c = ap (λ (t : Tally). t.moves) c.reached.tally ∙ ap (λ (t : List Made). length t) c.are

-- the round that was made is the last
rounds-on : (rule : GuessRule) (limit : ℕ) (start now new : RunPlace) (pace later : PaceCount) (number : ℕ) (c : Comes rule limit start now pace number) →
    RoundTurns limit now new pace later None →
    (made : List Made) × ((comes : Comes rule limit start new later (number + 1)) × (comes.rounds ≡ c.rounds ++ made ∷ []))
    × (new.tally.moves ≡ now.tally.moves + length made) × (state_after_made now.core.state made ≡ new.core.state)
unfolding RoundTurns
rounds-on rule limit start now new pace later number c t = (
  t.fires.trace,
  (
    comes-more rule limit start now new pace later number t.moves t.round t.fired c t.goes t.offer t.fires,
    more-rounds rule limit start now new pace later number t.moves t.round t.fired c t.goes t.offer t.fires,
  ),
  count_all t.fires.trace now new t.fires.makes,
  state_there t.fires.trace now new t.fires.makes,
)

-- so this is written after it
pub record SaidOn (every : Option ℕ) (rule : GuessRule) (limit : ℕ) (start new : RunPlace) (later : PaceCount) (number : ℕ) (blank half : Option (List ℕ))
    (text : List ℕ) : Type 0 where
  pub earlier : List (List Made)
  pub made : List Made
  pub comes : Comes rule limit start new later number
  pub are : comes.rounds ≡ earlier ++ made ∷ []
  pub put : Writes blank half (rounds_text every 0 0 start.core.state earlier)
  pub last : rounds_text every 0 0 start.core.state comes.rounds ≡ rounds_text every 0 0 start.core.state earlier ++ text

pub said-on : (every : Option ℕ) (rule : GuessRule) (limit : ℕ) (start now new : RunPlace) (pace later : PaceCount) (number : ℕ)
    (blank half : Option (List ℕ)) →
    SaidSo every rule limit start now pace number blank half → RoundTurns limit now new pace later None →
    SaidOn every rule limit start new later (number + 1) blank half
    (round_text every (number + 1) new.tally.moves now.core.state.retired new.core.state.retired)
said-on every rule limit start now new pace later number blank half (c, put) turns =
    let on = rounds-on rule limit start now new pace later number c turns in
    let made : List Made = on.0 in
    let texts = text-more every rule start.core.plan limit 0 0 0 start.core.state c.rounds c.held now.core.state made c.chosen in
    let n : 0 + length c.rounds + 1 ≡ number + 1 = omega (arith, c.count) in
    let m : 0 + length (all_of c.rounds) + length made ≡ new.tally.moves = omega (arith, counted-so rule limit start now pace number c, on.2) in
    let said : rounds_text every 0 0 start.core.state (c.rounds ++ made ∷ []) ≡ rounds_text every 0 0 start.core.state c.rounds
    ++ round_text every (number + 1) new.tally.moves now.core.state.retired new.core.state.retired =
    texts ∙ ap (λ (k : ℕ). rounds_text every 0 0 start.core.state c.rounds
    ++ round_text every k (0 + length (all_of c.rounds) + length made) now.core.state.retired (state_after_made now.core.state made).retired) n
    ∙ ap (λ (k : ℕ). rounds_text every 0 0 start.core.state c.rounds
    ++ round_text every (number + 1) k now.core.state.retired (state_after_made now.core.state made).retired) m
    ∙ ap (λ (q : State). rounds_text every 0 0 start.core.state c.rounds
    ++ round_text every (number + 1) new.tally.moves now.core.state.retired q.retired) on.3 in
    record {
      earlier = c.rounds;
      made = made;
      comes = on.1.0;
      are = on.1.1;
      put = put;
      last = ap (λ (rounds : List (List Made)). rounds_text every 0 0 start.core.state rounds) on.1.1 ∙ said;
    }

-- it was written, and the run goes on
pub said-more : (every : Option ℕ) (rule : GuessRule) (limit : ℕ) (start new : RunPlace) (later : PaceCount) (number : ℕ) (blank half full : Option (List ℕ))
    (text : List ℕ) → SaidOn every rule limit start new later number blank half text → Writes half full text →
    SaidSo every rule limit start new later number blank full
said-more every rule limit start new later number blank half full text s put = (
  s.comes,
  subst (λ (t : List ℕ). Writes blank full t) (sym s.last)
      (writes-again blank half full (rounds_text every 0 0 start.core.state s.earlier) text s.put put),
)

-- the report failed there
pub said-broken : (every : Option ℕ) (rule : GuessRule) (limit : ℕ) (start new : RunPlace) (later : PaceCount) (number : ℕ) (blank half full : Option (List ℕ))
    (text : List ℕ) → IsAccepted start.core.plan → length start.core.state.regs ≡ 32 →
    SaidOn every rule limit start new later number blank half text → WritesFront half full text →
    RoundsRunRight rule limit every start new blank full number ReportFault
unfolding comes-runs
said-broken every rule limit start new later number blank half full text accepted wide s front =
    let runs : RunsRounds rule limit start new number ReportFault = comes-runs rule limit start new new later number ReportFault s.comes refl in
    record {
      runs = runs;
      sequential = rounds-sequential rule limit start new number ReportFault accepted wide runs;
      says = record {
        earlier = s.earlier;
        made = s.made;
        are = s.are;
        text = text;
        last = s.last;
        half = half;
        put = s.put;
        breaks = front;
      };
    }

-- and nothing is claimed about how such a run ends
pub broken-ends : (limit : ℕ) (start new : RunPlace) → EndsSequentially limit start new (Ran ran.ReportFault)
unfolding EndsSequentially
broken-ends limit start new plan hart opens = tt

-- a turn that ends the run
says-end : (every : Option ℕ) (rule : GuessRule) (limit : ℕ) (start now new : RunPlace) (pace later : PaceCount) (number : ℕ) (blank full : Option (List ℕ))
    (answer : Clocked) (c : Comes rule limit start now pace number) (t : RoundTurns limit now new pace later (Some answer)) →
    Writes blank full (rounds_text every 0 0 start.core.state c.rounds) →
    Says every start.core.state (comes-end rule limit start now new pace later number answer c t).rounds blank full answer
unfolding RoundTurns comes-end comes-runs
says-end every rule limit start now new pace later number blank full (Exit status) c t put = put
says-end every rule limit start now new pace later number blank full (Trap cause pc detail) c t put = put
says-end every rule limit start now new pace later number blank full Limit c t put = put
says-end every rule limit start now new pace later number blank full ReadFault c t put = put
says-end every rule limit start now new pace later number blank full WriteFault c t put = put
says-end every rule limit start now new pace later number blank full ReportFault c t put = absurd t

pub said-end : (every : Option ℕ) (rule : GuessRule) (limit : ℕ) (start now new : RunPlace) (pace later : PaceCount) (number : ℕ) (blank full : Option (List ℕ))
    (answer : Clocked) → IsAccepted start.core.plan → length start.core.state.regs ≡ 32 →
    SaidSo every rule limit start now pace number blank full → RoundTurns limit now new pace later (Some answer) →
    RoundsRunRight rule limit every start new blank full number answer
said-end every rule limit start now new pace later number blank full answer accepted wide (c, put) turns =
    let runs = comes-end rule limit start now new pace later number answer c turns in
    record {
      runs = runs;
      sequential = rounds-sequential rule limit start new number answer accepted wide runs;
      says = says-end every rule limit start now new pace later number blank full answer c turns put;
    }
