-- Two neighbouring moves of a run that share no site form a run in the other order too.
use Rattle.std.proofs.Common.{◌≡◌, ◌∙◌, refl, sym, ap, subst, ℕ, zero, suc, List, [], ◌∷◌, ◌++◌, map, replicate, length, Bool, true, false, Option, None, arith}
use Rattle.std.specs.Prelude.{slice_get, unwrap_or}
use Rattle.rv_machine.specs.Machine.{Machine}
use Rattle.cf_layout.specs.Layout.{Plan, SidingPlan, cells_of, no_siding}
use Rattle.cf_bind.specs.declared.cell.Op.{Op}
use Rattle.cf_bind.specs.declared.moves.Move.{Move}
use Rattle.cf_semantics.specs.moves.Bars.{bar}
use Rattle.cf_semantics.specs.moves.Moves.{next}
use Rattle.cf_semantics.specs.state.Options.{on}
use Rattle.cf_semantics.specs.runs.Runs.{IsRun, empty_siding, opened, run, start}
use Rattle.cf_semantics.specs.state.State.{Moment, State}
use Rattle.theory_confluence.proofs.Laws.{independent_before, independent_swap, move_local}
use Rattle.cf_index.specs.Alone.{HasSidings, stands_alone}
use Rattle.cf_index.specs.Sites.{shares}
use Rattle.cf_index.proofs.Independence.{apart_neighbours}
use Rattle.std.specs.Prelude.{◌||◌, ◌==◌}
use Rattle.std.proofs.lemmas.Bool.Decides.{nat_tests}
use Rattle.cf_layout.specs.Accepted.{IsAccepted}
use Rattle.cf_bind.specs.declared.cell.Cell.{Cell}
use Rattle.cf_bind.specs.declared.moves.Move.TheVariants.{Issue, Emit, Climb, Fall, Meet, Execute, Send, Launch, Slide, Access, Recover, Leave, Exit, Serve}
use Rattle.cf_semantics.specs.moves.Sites.{Site, Stage, OfStage, reads, writes}
use Rattle.cf_semantics.specs.state.State.{cell_at}
use Rattle.cf_index.specs.Sites.{HasSites}
use Rattle.cf_timed.specs.DelayedRuns.{DelayRule, Visit, class_of_move, class_in, delayed_at, timed_visits, visit, visits_from}
use Rattle.cf_timed.specs.Exchanges.{CanExchange}
use Rattle.cf_timed.specs.Times.{done_after}
use Rattle.cf_timed.proofs.Following.{moves_kept}
use Rattle.cf_timed.proofs.Streams.{stream_shared}
use Rattle.cf_timed.proofs.Swapping.{swapped, timed-front}

-- moves, followed by others
pub run-after : (plan : Plan) (m : Moment) (front rest : List Move) → run plan m (front ++ rest) ≡ run plan (run plan m front) rest
unfolding run
run-after plan m [] rest = refl
run-after plan m (mv ∷ front) rest = run-after plan (next plan m mv) front rest

allowed-front : (plan : Plan) (m : Moment) (front rest : List Move) → IsRun plan m (front ++ rest) → IsRun plan m front
unfolding IsRun
allowed-front plan m [] rest h = tt
allowed-front plan m (mv ∷ front) rest h = (h.0, allowed-front plan (next plan m mv) front rest h.1)

allowed-rest : (plan : Plan) (m : Moment) (front rest : List Move) → IsRun plan m (front ++ rest) → IsRun plan (run plan m front) rest
unfolding IsRun run
allowed-rest plan m [] rest h = h
allowed-rest plan m (mv ∷ front) rest h = allowed-rest plan (next plan m mv) front rest h.1

allowed-both : (plan : Plan) (m : Moment) (front rest : List Move) → IsRun plan m front → IsRun plan (run plan m front) rest → IsRun plan m (front ++ rest)
unfolding IsRun run
allowed-both plan m [] rest h g = g
allowed-both plan m (mv ∷ front) rest h g = (h.0, allowed-both plan (next plan m mv) front rest h.1 g)

-- each siding keeps its number of cells
sidings-run : (plan : Plan) (m : Moment) (moves : List Move) → IsRun plan m moves → HasSidings plan m.state → HasSidings plan (run plan m moves).state
unfolding IsRun run
sidings-run plan m [] h s = s
sidings-run plan m (mv ∷ moves) h s = sidings-run plan (next plan m mv) moves h.1 (λ k. sym (((move_local plan m mv).frame h.0).sizes k) ∙ s k)

empty-cells : (plans : List SidingPlan) (k : ℕ) → length (on (slice_get (map empty_siding plans) k) [] (λ ops. ops))
    ≡ (unwrap_or (slice_get plans k) no_siding).cells
empty-cells [] k = refl
empty-cells (p ∷ plans) zero = size p.cells
  where
    size : (n : ℕ) → length {A = Option Op} (replicate n None) ≡ n
    size zero = refl
    size (suc n) = ap suc (size n)
empty-cells (p ∷ plans) (suc k) = empty-cells plans k

sidings-start : (plan : Plan) (x : Machine) → HasSidings plan (start plan x).state
unfolding opened cells_of
sidings-start plan x k = empty-cells plan.sidings k

-- a stage at which a move executes, launches or recovers is one that it reads, so no independent move writes it
same : (n : ℕ) → (n == n) ≡ true
same n = grind (arith, nat_tests)

executes : (plan : Plan) (s : State) (i : ℕ) → reads plan s (Execute i) (Stage i) ≡ true
executes plan s i = let e = same i in rw e refl

launches : (plan : Plan) (s : State) (i : ℕ) → reads plan s (Launch i) (Stage i) ≡ true
launches plan s i = let e = same i in rw e refl

recovers : (plan : Plan) (s : State) (i : ℕ) → reads plan s (Recover i) (Stage i) ≡ true
recovers plan s i = let e = same i in rw e refl

not_both : (a b : Bool) → a ≡ true → (a || b) ≡ false → ⊥
not_both true b e f = absurd (cc)
not_both false b e f = absurd (cc)

cell_kept : (plan : Plan) (m : Moment) (mv : Move) (i : ℕ) → bar plan m.state mv ≡ None → (writes plan m.state mv (Stage i) ≡ true → ⊥) →
    cell_at (next plan m mv).state.cells i ≡ cell_at m.state.cells i
cell_kept plan m mv i free none = by (writes plan m.state mv (Stage i)) refl
  where
    inside : (a b : Option Cell) → OfStage a ≡ OfStage b → a ≡ b
    inside a b e = cc

    by : (w : Bool) → writes plan m.state mv (Stage i) ≡ w → cell_at (next plan m mv).state.cells i ≡ cell_at m.state.cells i
    by true e = absurd (none e)
    by false e = inside (cell_at (next plan m mv).state.cells i) (cell_at m.state.cells i) ((move_local plan m mv).leaves free (Stage i) e)

class_kept : (plan : Plan) (m : Moment) (mv other : Move) → bar plan m.state mv ≡ None →
    ((x : Site) → writes plan m.state mv x ≡ true → (reads plan m.state other x || writes plan m.state other x) ≡ false) →
    class_of_move (next plan m mv).state other ≡ class_of_move m.state other
unfolding class_of_move
class_kept plan m mv other free apart = by other apart
  where
    by : (other : Move) → ((x : Site) → writes plan m.state mv x ≡ true → (reads plan m.state other x || writes plan m.state other x) ≡ false) →
        class_of_move (next plan m mv).state other ≡ class_of_move m.state other
    by (Execute i) apart = ap class_in (cell_kept plan m mv i free (λ w. not_both (reads plan m.state (Execute i) (Stage i))
        (writes plan m.state (Execute i) (Stage i))
        (executes plan m.state i) (apart (Stage i) w)))
    by (Launch i) apart = ap class_in (cell_kept plan m mv i free (λ w. not_both (reads plan m.state (Launch i) (Stage i))
        (writes plan m.state (Launch i) (Stage i))
        (launches plan m.state i) (apart (Stage i) w)))
    by (Recover i) apart = ap class_in (cell_kept plan m mv i free (λ w. not_both (reads plan m.state (Recover i) (Stage i))
        (writes plan m.state (Recover i) (Stage i))
        (recovers plan m.state i) (apart (Stage i) w)))
    by (Issue g) apart = refl
    by Emit apart = refl
    by (Climb i) apart = refl
    by (Fall i) apart = refl
    by (Meet i) apart = refl
    by (Send i) apart = refl
    by (Slide k c) apart = refl
    by Access apart = refl
    by Leave apart = refl
    by Exit apart = refl
    by Serve apart = refl

-- the moves of a run in their states, followed by others
visits-after : (plan : Plan) (m : Moment) (front rest : List Move) →
    visits_from plan m (front ++ rest) ≡ visits_from plan m front ++ visits_from plan (run plan m front) rest
unfolding run
visits-after plan m [] rest = refl
visits-after plan m (mv ∷ front) rest = ap (λ (l : List Visit). visit m.state mv ∷ l) (visits-after plan (next plan m mv) front rest)

-- two moves that are exchanged at one moment
record Exchanged (plan : Plan) (m : Moment) (a b : Move) (rest : List Move) : Type 0 where
  allowed : IsRun plan m (b ∷ a ∷ rest)
  leads : next plan (next plan m b) a ≡ next plan (next plan m a) b
  class_a : class_of_move (next plan m b).state a ≡ class_of_move m.state a
  class_b : class_of_move (next plan m a).state b ≡ class_of_move m.state b

exchanged : (plan : Plan) (m : Moment) (a b : Move) (rest : List Move) → HasSidings plan m.state → IsRun plan m (a ∷ b ∷ rest) → shares plan a b ≡ false →
    stands_alone plan m.state a ≡ false → stands_alone plan (next plan m a).state b ≡ false → Exchanged plan m a b rest
unfolding IsRun
exchanged plan m a b rest sidings (free, (after, there)) apart first second =
    let i = apart_neighbours plan m a b sidings free after first second apart in
    let before : bar plan m.state b ≡ None = independent_before plan m a b i free after in
    let s = independent_swap plan m a b i free before in
    record {
      allowed = (before, (s.1, subst (λ (q : Moment). IsRun plan q rest) s.2 there));
      leads = sym s.2;
      class_a = class_kept plan m b a before i.second;
      class_b = class_kept plan m a b free i.first;
    }

pub can-exchange : (plan : Plan) (x : Machine) (rule : DelayRule) (front : List Move) (a b : Move) (rest : List Move) → IsAccepted plan →
    HasSites plan a → HasSites plan b →
    IsRun plan (start plan x) (front ++ a ∷ b ∷ rest) → shares plan a b ≡ false → stands_alone plan (run plan (start plan x) front).state a ≡ false →
    stands_alone plan (run plan (start plan x) (front ++ a ∷ [])).state b ≡ false → CanExchange plan (start plan x) rule front a b rest
unfolding run
can-exchange plan x rule front a b rest acc sites_a sites_b h apart first second =
    let m : Moment = start plan x in
    let at : Moment = run plan m front in
    let begun = allowed-front plan m front (a ∷ b ∷ rest) h in
    let there = allowed-rest plan m front (a ∷ b ∷ rest) h in
    let alone : stands_alone plan (next plan at a).state b ≡ false = subst (λ (q : Moment). stands_alone plan q.state b ≡ false)
    (run-after plan m front (a ∷ [])) second in
    let e = exchanged plan at a b rest (sidings-run plan m front begun (sidings-start plan x)) there apart first alone in
    let early = timed_visits plan rule (visits_from plan m front) in
    let later : List Visit = visits_from plan (next plan (next plan at a) b) rest in
    let s = swapped plan rule early at.state (next plan at a).state (next plan at b).state a b later (record {
      apart = apart;
      streams = λ same. let shared = stream_shared plan a b (moves_kept plan a acc sites_a) (moves_kept plan b acc sites_b) same in absurd (cc);
      class_a = e.class_a;
      class_b = e.class_b;
    }) in
    record {
      allowed = allowed-both plan m front (b ∷ a ∷ rest) begun e.allowed;
      same = run-after plan m front (b ∷ a ∷ rest) ∙ ap (λ (q : Moment). run plan q rest) e.leads ∙ sym (run-after plan m front (a ∷ b ∷ rest));
      keeps = record {
        late = s.0;
        early = early;
        first = done_after plan early (delayed_at rule at.state early a);
        second = done_after plan early (delayed_at rule at.state early b);
        first_is = refl;
        second_is = refl;
        one = ap (timed_visits plan rule) (visits-after plan m front (a ∷ b ∷ rest))
            ∙ timed-front plan rule [] (visits_from plan m front) (visit at.state a ∷ visit (next plan at a).state b ∷ later) ∙ s.1;
        other = ap (timed_visits plan rule) (visits-after plan m front (b ∷ a ∷ rest))
            ∙ ap (λ (q : Moment). timed_visits plan rule (visits_from plan m front ++ visit at.state b ∷ visit (next plan at b).state a ∷ visits_from plan q
            rest))
            e.leads
            ∙ timed-front plan rule [] (visits_from plan m front) (visit at.state b ∷ visit (next plan at b).state a ∷ later) ∙ s.2;
      };
    }
