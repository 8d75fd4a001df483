-- A move other than Issue and Leave changes neither how much is on the path nor whether the sequential path comes to an
-- end in the pipe.
use Rattle.std.proofs.Common.{◌≡◌, ℕ, List, [], ◌∷◌, ◌++◌, Option, Some, None, Bool, true, false, refl, sym, ap, subst, ◌∙◌, arith}
use Rattle.cf_bind.specs.Meeting.{meeting}
use Rattle.cf_bind.specs.declared.packet.Packet.{Packet}
use Rattle.cf_bind.specs.declared.passenger.Passenger.{Passenger}
use Rattle.theory_refinement.proofs.column.Fold.{fit_back, fit_front, walk_append, walk_follows}
use Rattle.theory_refinement.proofs.walks.PathFinish.{Finishes, finish_walk, pc_stays, sources_stay}
use Rattle.theory_confluence.proofs.drains.Right.{Fits, Follows, finish_way, past_path, way_walk}
use Rattle.theory_confluence.proofs.drains.RightMoves.{finish_ahead, meet_count, packet_label, rider_label, send_count}
use Rattle.cf_semantics.specs.state.Column.{Down, Item, Up, column}
use Rattle.cf_semantics.specs.moves.Instructions.{step_at}
use Rattle.cf_semantics.specs.state.Passengers.{finish, goto_undone, guessed, instruction, kind}
use Rattle.cf_semantics.specs.claims.Right.{Way, begin, past, way}
use Rattle.cf_semantics.specs.state.State.{State}
use Rattle.cf_semantics.specs.claims.Walks.{Everywhere, walk}
use Rattle.rv_inst.specs.declared.isa.Isa.{Isa}
use Rattle.rv_machine.specs.Machine.{Machine}
use Rattle.theory_refinement.proofs.walks.PathMeet as pathmeet
use Rattle.theory_refinement.proofs.walks.Path as paths
use Rattle.theory_refinement.proofs.invariant.Sure as sure
use Rattle.cf_semantics.specs.claims.Path as trail

pub record Steady (w v : Way) : Type 0 where
  pub count : v.count ≡ w.count
  pub stop : v.stop ≡ w.stop

pub fits_way : (isa : Isa) (xs : List Item) (w : trail.Walk) (v : Way) → v.path ≡ w → Everywhere (sure.Fits isa) (trail.past isa) xs w →
    Everywhere (Fits isa) (past isa) xs v
fits_way isa [] w v e h = tt
fits_way isa (i ∷ xs) w v e h =
    (subst (sure.Fits isa i) (sym e) h.0, fits_way isa xs (trail.past isa i w) (past isa i v) (past_path isa i v ∙ ap (trail.past isa i) e) h.1)

pub walk_way : (isa : Isa) (xs : List Item) (v : Way) → (walk (past isa) xs v).path ≡ walk (trail.past isa) xs v.path
walk_way isa [] v = refl
walk_way isa (i ∷ xs) v = walk_way isa xs (past isa i v) ∙ ap (λ (q : trail.Walk). walk (trail.past isa) xs q) (past_path isa i v)

-- a change in the middle
pub way_changed : (isa : Isa) (s t : State) (x : Machine) (above old new below : List Item) → column s ≡ above ++ (old ++ below) →
    column t ≡ above ++ (new ++ below) → t.lane ≡ s.lane → Everywhere (sure.Fits isa) (trail.past isa) (column s) (trail.top s x) →
    (Everywhere (Fits isa) (past isa) old (walk (past isa) above (begin s x)) → Follows (walk (past isa) old (walk (past isa) above (begin s x)))
    (walk (past isa) new (walk (past isa) above (begin s x)))) → Steady (way isa s x) (way isa t x)
way_changed isa s t x above old new below was is lane h f =
    let u = walk (past isa) above (begin s x) in
    let fit = fits_way isa (above ++ (old ++ below)) (trail.top s x) (begin s x) refl (subst
    (λ (z : List Item). Everywhere (sure.Fits isa) (trail.past isa) z (trail.top s x)) was h) in
    let mid = fit_back _ (Fits isa) (past isa) above (old ++ below) (begin s x) fit in
    let g = f (fit_front _ (Fits isa) (past isa) old below u mid) in
    let q = walk_follows _ (Fits isa) (past isa) Follows (way_walk isa) below (walk (past isa) old u) (walk (past isa) new u) g
    (fit_back _ (Fits isa) (past isa) old below u mid) in
    let top : begin t x ≡ begin s x = rw lane refl in
    let ws : way isa s x ≡ walk (past isa) below (walk (past isa) old u) = ap (λ (z : List Item). walk (past isa) z (begin s x)) was
    ∙ walk_append (past isa) above (old ++ below) (begin s x) ∙ walk_append (past isa) old below u in
    let wt : way isa t x ≡ walk (past isa) below (walk (past isa) new u) = ap (λ (z : List Item). walk (past isa) z (begin t x)) is
    ∙ ap (λ (z : Way). walk (past isa) (above ++ (new ++ below)) z) top ∙ walk_append (past isa) above (new ++ below) (begin s x)
    ∙ walk_append (past isa) new below u in
    record {
      count = ap (λ (z : Way). z.count) wt ∙ q.count ∙ ap (λ (z : Way). z.count) (sym ws);
      stop = ap (λ (z : Way). z.stop) wt ∙ q.stop
          ∙ ap (λ (z : Way). z.stop) (sym ws);
    }

pub follows_self : (w : Way) → Follows w w
follows_self w = record {
  path = record { barred = λ b. b; machine = λ _. refl; goto = λ _. refl; settled = λ _ e. e; trapped = λ _ e. e; coming = λ _ r c. c };
  count = refl;
  stop = refl;
  on = λ _. refl;
  lost = λ a b. absurd (let z = sym a ∙ b in cc);
}

-- Climb, Fall
pub rider_relabel : (isa : Isa) (i j : ℕ) (p : Passenger) (u : Way) → Follows (past isa (Up i p) u) (past isa (Up j p) u)
rider_relabel isa i j p u = subst (λ (z : Way). Follows (past isa (Up i p) u) z) (rider_label isa i j p u) (follows_self (past isa (Up i p) u))

pub packet_relabel : (isa : Isa) (i j : ℕ) (k : Packet) (u : Way) → Follows (past isa (Down i k) u) (past isa (Down j k) u)
packet_relabel isa i j k u = subst (λ (z : Way). Follows (past isa (Down i k) u) z) (packet_label isa i j k u) (follows_self (past isa (Down i k) u))

-- Send, Meet
owing_lives : (isa : Isa) (i : ℕ) (p : Passenger) (k : Packet) (w : trail.Walk) → p.owes ≡ Some k → sure.Fits isa (Up i p) w → p.dead ≡ false
unfolding sure.Fits
owing_lives isa i p k w e h = go p.dead refl
  where
    go : (b : Bool) → p.dead ≡ b → p.dead ≡ false
    go false d = d
    go true d = absurd (let z = h.0 d in let y = sym e ∙ z in cc)

send_lost : (isa : Isa) (i : ℕ) (p : Passenger) (k : Packet) (u : Way) → p.dead ≡ false → p.owes ≡ Some k → (past isa (Up i p) u).path.barred ≡ false →
    (walk (past isa) (Up i (record p { owes = None }) ∷ Down i k ∷ []) u).path.barred ≡ true → ⊥
unfolding past trail.past
send_lost isa i p k u d e a b = grind arith

pub send_way : (isa : Isa) (i : ℕ) (p : Passenger) (k : Packet) (u : Way) → p.owes ≡ Some k → Everywhere (Fits isa) (past isa) (Up i p ∷ []) u →
    Follows (past isa (Up i p) u) (walk (past isa) (Up i (record p { owes = None }) ∷ Down i k ∷ []) u)
send_way isa i p k u e h =
    let c = send_count isa i p k u e in
    let q : paths.Follows (past isa (Up i p) u).path (walk (past isa) (Up i (record p { owes = None }) ∷ Down i k ∷ []) u).path =
    rw (past_path isa (Up i p) u, walk_way isa (Up i (record p { owes = None }) ∷ Down i k ∷ []) u) (paths.send_walk isa i p k u.path e (h.0, tt)) in
    record { path = q; count = c.0; stop = c.2; on = λ _. c.1; lost = λ a b. absurd (send_lost isa i p k u (owing_lives isa i p k u.path e h.0) e a b) }

meet_lost : (isa : Isa) (i : ℕ) (p : Passenger) (k : Packet) (u : Way) → (walk (past isa) (Down i k ∷ Up i p ∷ []) u).path.barred ≡ false →
    (walk (past isa) (pathmeet.met_items i (meeting p k).passenger (meeting p k).packet) u).path.barred ≡ true → ⊥
unfolding past trail.past meeting
meet_lost isa i p k u a b = grind arith

pub meet_way : (isa : Isa) (i : ℕ) (p : Passenger) (k : Packet) (u : Way) → Everywhere (sure.Fits isa) (trail.past isa) (Down i k ∷ Up i p ∷ []) u.path →
    Follows (walk (past isa) (Down i k ∷ Up i p ∷ []) u) (walk (past isa) (pathmeet.met_items i (meeting p k).passenger (meeting p k).packet) u)
meet_way isa i p k u h =
    let c = meet_count isa i p k u in
    let q : paths.Follows (walk (past isa) (Down i k ∷ Up i p ∷ []) u).path (walk (past isa)
    (pathmeet.met_items i (meeting p k).passenger (meeting p k).packet) u).path =
    rw (walk_way isa (Down i k ∷ Up i p ∷ []) u, walk_way isa (pathmeet.met_items i (meeting p k).passenger (meeting p k).packet) u)
    (pathmeet.meet_walk isa i p k u.path h) in
    record { path = q; count = c.0; stop = c.2; on = λ _. c.1; lost = λ a b. absurd (meet_lost isa i p k u a b) }

-- an instruction that finishes
pub finished_way : (isa : Isa) (i : ℕ) (p : Passenger) (a : Option ℕ) (u : Way) → p.done ≡ false → p.owes ≡ None →
    goto_undone (kind p) p ≡ guessed p.guess (instruction p) p.pc → (p.dead ≡ false → u.path.barred ≡ false →
    Finishes p u.path.machine (step_at isa u.path.machine p.pc) a) → Everywhere (Fits isa) (past isa) (Up i p ∷ []) u →
    Follows (past isa (Up i p) u) (past isa (Up i (finish p a)) u)
finished_way isa i p a u d o g f h =
    finish_way isa i p (finish p a) u (pc_stays p a) (sources_stay p a).2 (finish_walk isa i p u.path a d g (h.0, tt))
    (λ b l t. finish_ahead isa i p u a d g l b (f l b) t) (turns_none o)
  where
    turns_none : p.owes ≡ None → trail.turns p.owes ≡ false
    turns_none e = rw e refl
