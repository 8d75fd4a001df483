-- If the moves of a round can be made, none of them alone, and share no site, they are a run in each order, and all
-- orders lead to one moment.
use Rattle.std.proofs.Common.{◌≡◌, List, [], ◌∷◌, ◌++◌, Bool, true, false, Option, None, refl, sym, ap, subst, ◌∙◌}
use Rattle.std.specs.Prelude.{◌||◌}
use Rattle.cf_layout.specs.Layout.{Plan}
use Rattle.cf_bind.specs.declared.cell.Cell.{Cell}
use Rattle.cf_bind.specs.declared.moves.Move.{Move}
use Rattle.cf_bind.specs.declared.moves.Move.TheVariants.{Issue, Emit, Climb, Fall, Meet, Execute, Send, Launch, Slide, Access, Recover, Leave, Exit, Serve}
use Rattle.cf_semantics.specs.moves.Bars.{bar}
use Rattle.cf_semantics.specs.moves.Moves.{next}
use Rattle.cf_semantics.specs.runs.Runs.{IsRun, run}
use Rattle.std.proofs.Common.{arith}
use Rattle.std.proofs.lemmas.Bool.Decides.{nat_tests}
use Rattle.cf_semantics.specs.moves.Sites.{AreIndependent, OfStage, Stage, content, ends_there, reads, writes}
use Rattle.cf_semantics.specs.state.State.{State, Moment, cell_at}
use Rattle.theory_confluence.proofs.Laws.{independent_swap, move_local}
use Rattle.cf_index.specs.Sites.{shares}
use Rattle.cf_index.proofs.SharedSites.{shared_at, shared_place}
use Rattle.std.specs.List.{AllByRecursion}
use Rattle.cf_index.specs.Alone.{HasSidings, stands_alone}
use Rattle.cf_rounds.specs.Rounds.{AreApart, IsOrderOf}
use Rattle.cf_index.proofs.Independence.{IsPlain, independent}

-- such a round
pub record IsFree (plan : Plan) (s : State) (round : List Move) : Type 0 where
  pub sidings : HasSidings plan s
  pub plain : AllByRecursion (IsPlain plan s) round
  pub apart : AreApart plan round

-- sharing a site is symmetric
pub unshared_back : (plan : Plan) (a b : Move) → shares plan a b ≡ false → shares plan b a ≡ false
unshared_back plan a b e = go (shares plan b a) refl
  where
    go : (t : Bool) → shares plan b a ≡ t → shares plan b a ≡ false
    go false f = f
    go true f =
        let place = shared_place plan b a f in
        absurd (let both : shares plan a b ≡ true = shared_at plan a b place.0 place.2 place.1 in cc)

apart_pair : (plan : Plan) (s : State) (a b : Move) → HasSidings plan s → IsPlain plan s a → IsPlain plan s b → shares plan a b ≡ false →
    AreIndependent plan s a b
apart_pair plan s a b h p q e = independent plan s a b h p q e (unshared_back plan a b e)

-- the number of cells is unchanged
pub sidings_stay : (plan : Plan) (m : Moment) (a : Move) → bar plan m.state a ≡ None → HasSidings plan m.state → HasSidings plan (next plan m a).state
sidings_stay plan m a free h k = sym (((move_local plan m a).frame free).sizes k) ∙ h k

-- the highest stage is read by a Leave
leave_reads : (plan : Plan) (s : State) → reads plan s Leave (Stage plan.stages) ≡ true
leave_reads plan s = grind (arith, nat_tests)

-- so a move that is independent of a Leave does not write it
stays_there : (plan : Plan) (m : Moment) (a : Move) → bar plan m.state a ≡ None → AreIndependent plan m.state a Leave →
    ends_there plan (next plan m a).state ≡ ends_there plan m.state
stays_there plan m a free i = go (writes plan m.state a (Stage plan.stages)) refl
  where
    go : (t : Bool) → writes plan m.state a (Stage plan.stages) ≡ t → ends_there plan (next plan m a).state ≡ ends_there plan m.state
    go true f = absurd (let none = i.first (Stage plan.stages) f in let there = leave_reads plan m.state in
        clash (reads plan m.state Leave (Stage plan.stages)) (writes plan m.state Leave (Stage plan.stages)) there none)
      where
        clash : (r w : Bool) → r ≡ true → (r || w) ≡ false → ⊥
        clash true w e n = absurd (cc)
        clash false w e n = absurd (cc)
    go false f =
        let same : content (next plan m a) (Stage plan.stages) ≡ content m (Stage plan.stages) = (move_local plan m a).leaves free (Stage plan.stages) f in
        let cells : cell_at (next plan m a).state.cells plan.stages ≡ cell_at m.state.cells plan.stages =
        of_stage (cell_at (next plan m a).state.cells plan.stages) (cell_at m.state.cells plan.stages) same in
        rw cells refl
      where
        of_stage : (c d : Option Cell) → OfStage c ≡ OfStage d → c ≡ d
        of_stage c d e = cc

-- no other move becomes one that is made alone
plain_stays : (plan : Plan) (m : Moment) (a b : Move) → bar plan m.state a ≡ None → AreIndependent plan m.state a b → stands_alone plan m.state b ≡ false →
    stands_alone plan (next plan m a).state b ≡ false
plain_stays plan m a (Issue g) free i e = refl
plain_stays plan m a Emit free i e = refl
plain_stays plan m a (Climb j) free i e = refl
plain_stays plan m a (Fall j) free i e = refl
plain_stays plan m a (Meet j) free i e = refl
plain_stays plan m a (Execute j) free i e = refl
plain_stays plan m a (Send j) free i e = refl
plain_stays plan m a (Launch j) free i e = refl
plain_stays plan m a (Slide k c) free i e = refl
plain_stays plan m a Access free i e = refl
plain_stays plan m a (Recover j) free i e = refl
plain_stays plan m a Leave free i e = stays_there plan m a free i ∙ e
plain_stays plan m a Exit free i e = refl
plain_stays plan m a Serve free i e = absurd (cc)

one_stays : (plan : Plan) (m : Moment) (a b : Move) → HasSidings plan m.state → IsPlain plan m.state a → IsPlain plan m.state b → shares plan a b ≡ false →
    IsPlain plan (next plan m a).state b
one_stays plan m a b h p q apart =
    let i : AreIndependent plan m.state a b = apart_pair plan m.state a b h p q apart in
    record { allowed = (independent_swap plan m a b i p.allowed q.allowed).0; plain = plain_stays plan m a b p.allowed i q.plain }

all_stay : (plan : Plan) (m : Moment) (a : Move) (round : List Move) → HasSidings plan m.state → IsPlain plan m.state a →
    AllByRecursion (IsPlain plan m.state) round → AllByRecursion (λ other. shares plan a other ≡ false) round →
    AllByRecursion (IsPlain plan (next plan m a).state) round
all_stay plan m a [] h p qs apart = tt
all_stay plan m a (b ∷ round) h p (q, qs) (e, es) = (one_stays plan m a b h p q e, all_stay plan m a round h p qs es)

-- with one of them made, the others are such a round
pub free_step : (plan : Plan) (m : Moment) (a : Move) (round : List Move) → IsFree plan m.state (a ∷ round) → IsFree plan (next plan m a).state round
free_step plan m a round f = record {
  sidings = sidings_stay plan m a f.plain.0.allowed f.sidings;
  plain = all_stay plan m a round f.sidings f.plain.0 f.plain.1 f.apart.0;
  apart = f.apart.1;
}

-- they are a run
pub free_run : (plan : Plan) (m : Moment) (round : List Move) → IsFree plan m.state round → IsRun plan m round
unfolding IsRun
free_run plan m [] f = tt
free_run plan m (a ∷ round) f = (f.plain.0.allowed, free_run plan (next plan m a) round (free_step plan m a round f))

-- the moves before and after one of a list
all_around : (test : Move → Type 0) (front after : List Move) (mv : Move) → AllByRecursion test (front ++ after) → test mv →
    AllByRecursion test (front ++ mv ∷ after)
all_around test [] after mv h k = (k, h)
all_around test (first ∷ front) after mv (h, hs) k = (h, all_around test front after mv hs k)

apart_around : (plan : Plan) (front after : List Move) (mv : Move) → AreApart plan (front ++ after) →
    AllByRecursion (λ other. shares plan mv other ≡ false) (front ++ after) → AreApart plan (front ++ mv ∷ after)
apart_around plan [] after mv h k = (k, h)
apart_around plan (first ∷ front) after mv (h, hs) (k, ks) =
    (all_around (λ other. shares plan first other ≡ false) front after mv h (unshared_back plan mv first k), apart_around plan front after mv hs ks)

-- what is true of each move is true in each order
pub all_ordered : (test : Move → Type 0) (moves other : List Move) → IsOrderOf moves other → AllByRecursion test moves → AllByRecursion test other
all_ordered test [] other same h = subst (AllByRecursion test) (sym same) tt
all_ordered test (mv ∷ moves) other (front, after, is, rest) (h, hs) =
    subst (AllByRecursion test) (sym is) (all_around test front after mv (all_ordered test moves (front ++ after) rest hs) h)

apart_ordered : (plan : Plan) (moves other : List Move) → IsOrderOf moves other → AreApart plan moves → AreApart plan other
apart_ordered plan [] other same h = subst (AreApart plan) (sym same) tt
apart_ordered plan (mv ∷ moves) other (front, after, is, rest) (h, hs) =
    subst (AreApart plan) (sym is)
    (apart_around plan front after mv (apart_ordered plan moves (front ++ after) rest hs) (all_ordered (λ o. shares plan mv o ≡ false) moves (front
    ++ after) rest h))

pub free_ordered : (plan : Plan) (s : State) (moves other : List Move) → IsOrderOf moves other → IsFree plan s moves → IsFree plan s other
free_ordered plan s moves other order f = record {
  sidings = f.sidings;
  plain = all_ordered (IsPlain plan s) moves other order f.plain;
  apart = apart_ordered plan moves other order f.apart;
}

-- a move of a round can be made first
to_front : (plan : Plan) (m : Moment) (front after : List Move) (mv : Move) → IsFree plan m.state (front ++ mv ∷ after) →
    run plan m (front ++ mv ∷ after) ≡ run plan m (mv ∷ (front ++ after))
unfolding run
to_front plan m [] after mv f = refl
to_front plan m (first ∷ front) after mv f =
    let rest : IsFree plan (next plan m first).state (front ++ mv ∷ after) = free_step plan m first (front ++ mv ∷ after) f in
    let inner : run plan (next plan m first) (front ++ mv ∷ after) ≡ run plan (next plan (next plan m first) mv) (front ++ after) =
    to_front plan (next plan m first) front after mv rest in
    let pair = found_there (λ o. shares plan first o ≡ false) front after mv f.apart.0 in
    let there : IsPlain plan m.state mv = found_there (IsPlain plan m.state) front after mv f.plain.1 in
    let i : AreIndependent plan m.state first mv = apart_pair plan m.state first mv f.sidings f.plain.0 there pair in
    let swapped : next plan (next plan m first) mv ≡ next plan (next plan m mv) first = (independent_swap plan m first mv i f.plain.0.allowed there.allowed).2
    in
    inner ∙ ap (λ (t : Moment). run plan t (front ++ after)) swapped
  where
    found_there : (test : Move → Type 0) (front after : List Move) (mv : Move) → AllByRecursion test (front ++ mv ∷ after) → test mv
    found_there test [] after mv (h, hs) = h
    found_there test (o ∷ front) after mv (h, hs) = found_there test front after mv hs

-- all orders lead to one moment
pub free_orders : (plan : Plan) (m : Moment) (moves other : List Move) → IsOrderOf moves other → IsFree plan m.state moves → run plan m other ≡ run plan m moves
unfolding run
free_orders plan m [] other same f = ap (run plan m) same
free_orders plan m (mv ∷ moves) other (front, after, is, rest) f =
    let whole : IsFree plan m.state (front ++ mv ∷ after) = subst (IsFree plan m.state) is
    (free_ordered plan m.state (mv ∷ moves) other (front, after, is, rest) f) in
    let first : run plan m other ≡ run plan m (mv ∷ (front ++ after)) = ap (run plan m) is ∙ to_front plan m front after mv whole in
    first ∙ free_orders plan (next plan m mv) moves (front ++ after) rest (free_step plan m mv moves f)
