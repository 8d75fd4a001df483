-- Instructions that are sure to retire, over an input whose remaining bytes are unknown.
use Rattle.std.proofs.Common.{◌≡◌, ℕ, suc, ◌+◌, ◌≤◌, List, [], ◌∷◌, None, true, sym, ap, ◌∙◌, arith, ◌⊎◌, inl, inr}
use Rattle.rv_inst.specs.declared.isa.Isa.{Isa}
use Rattle.rv_machine.specs.Machine.{Machine}
use Rattle.cf_layout.specs.Layout.{Plan}
use Rattle.cf_bind.specs.declared.moves.Move.{Move}
use Rattle.cf_bind.specs.declared.moves.Move.TheVariants.{Serve}
use Rattle.cf_bind.specs.declared.passenger.Passenger.{Passenger}
use Rattle.cf_semantics.specs.moves.Bars.{bar}
use Rattle.cf_semantics.specs.state.Column.{Down, Item, Up}
use Rattle.cf_semantics.specs.state.Drained.{is_drained}
use Rattle.cf_semantics.specs.state.Layouts.{isa_of}
use Rattle.cf_semantics.specs.runs.Lines.{Line}
use Rattle.cf_semantics.specs.moves.Moves.{next}
use Rattle.cf_semantics.specs.claims.Path as trail
use Rattle.cf_semantics.specs.claims.Right.{Way, begin, past, way}
use Rattle.cf_semantics.specs.state.State.{Moment, State}
use Rattle.cf_semantics.specs.claims.Walks.{walk}
use Rattle.cf_semantics.specs.claims.Weight.{is_issue}
use Rattle.theory_refinement.proofs.invariant.Invariant.{HoldsAfter, Sound}
use Rattle.theory_refinement.proofs.invariant.Suited.{Suits}
use Rattle.theory_refinement.proofs.invariant.Sure as sure
use Rattle.theory_refinement.proofs.moves.Rows.{bar_row}
use Rattle.theory_refinement.proofs.moves.Serve.{Scene, Serves, scene, serve_ready}
use Rattle.theory_confluence.proofs.drains.Apart.{Reaching, all_retired, first_move, move_keeps, only_issue, past_first, past_grows}
use Rattle.theory_confluence.proofs.weight.Bound.{sound_at}
use Rattle.theory_confluence.proofs.drains.Rested.{retired_is}
use Rattle.theory_unknown_input.specs.UnknownInput.{finding}
use Rattle.theory_unknown_input.proofs.Invariant.{HoldsAnew}
use Rattle.theory_unknown_input.proofs.Found.{found}
use Rattle.theory_unknown_input.proofs.Rechosen.{over}
use Rattle.theory_unknown_input.proofs.Theorems.{held_anew, rebased}

-- with some input left n instructions are sure to retire, or the program is sure to end; n is at most one more than
-- have retired
pub record Nearing (plan : Plan) (m : Moment) (n : ℕ) : Type 0 where
  pub at : Machine
  pub rest : List ℕ
  pub level : m.state.retired ≡ at.hart.retired
  pub near : n ≤ suc m.state.retired
  pub reaching : Reaching plan at (finding rest m) n

-- sure over a machine, they are so over the one to which its steps have led
nearing : (plan : Plan) (x : Machine) (m : Moment) (n : ℕ) → n ≤ suc m.state.retired → Reaching plan x m n → Nearing plan m n
unfolding rebased
nearing plan x m n near r = record {
  at = r.held.machine;
  rest = m.rest;
  level = retired_is plan x m r.held;
  near = near;
  reaching = record { held = rebased plan x m r.held; far = r.far };
}

-- what was left before does not matter
left_open : (plan : Plan) (m : Moment) (rest : List ℕ) (n : ℕ) → Nearing plan m n → Nearing plan (finding rest m) n
left_open plan m rest n h = record { at = h.at; rest = h.rest; level = h.level; near = h.near; reaching = h.reaching }

-- a move from a moment at which they are sure over some machine
moved_near : (plan : Plan) (x : Machine) (m : Moment) (mv : Move) (n : ℕ) → Suits plan → bar plan m.state mv ≡ None → m.state.retired ≡ x.hart.retired →
    n ≤ suc m.state.retired → Reaching plan x m n → Nearing plan (next plan m mv) n
moved_near plan x m mv n acc free level near r =
    let k : Reaching plan x (next plan m mv) n = move_keeps plan x m mv n acc free r in
    nearing plan x (next plan m mv) n (let c = k.held.count in omega (arith, c, level, near)) k

-- further down the column there are no fewer
way_grows : (isa : Isa) (items : List Item) (w : Way) → (w.count ≤ (walk (past isa) items w).count) × (w.stop ≡ true → (walk (past isa) items w).stop ≡ true)
way_grows isa [] w = (omega arith, λ e. e)
way_grows isa (i ∷ items) w =
    let a = one i in
    let b = way_grows isa items (past isa i w) in
    (let c = a.0 in let d = b.0 in omega (arith, c, d), λ e. b.1 (a.1 e))
  where
    one : (i : Item) → (w.count ≤ (past isa i w).count) × (w.stop ≡ true → (past isa i w).stop ≡ true)
    one (Up j p) = past_grows isa j p w
    one (Down j k) = unfold past in (omega arith, λ e. e)

-- a sure instruction at the top has the machine's address
stands_there : (isa : Isa) (p : Passenger) (s : State) (x : Machine) → sure.SureAt isa p (trail.top s x) → p.pc ≡ x.hart.pc
unfolding sure.SureAt
stands_there isa p s x h = let e = h.0.path in cc

-- if a call is to be served, one instruction is sure to retire, or the program is sure to end
call_nears : {rest out : List ℕ} (plan : Plan) (s : State) (x : Machine) → bar plan s Serve ≡ None → Sound plan s rest out x →
    (1 ≤ (way (isa_of plan) s x).count) ⊎ ((way (isa_of plan) s x).stop ≡ true)
call_nears {rest} {out} plan s x free h =
    let r : Serves plan s = serve_ready plan s (bar_row plan s Serve free) in
    let c : Scene plan s rest out x r = scene plan s x r h in
    let above : Way = past (isa_of plan) (Up plan.stages r.who) (begin s x) in
    let is : way (isa_of plan) s x ≡ walk (past (isa_of plan)) c.below above = ap (λ (items : List Item). walk (past (isa_of plan)) items (begin s x)) c.was in
    let first = past_first (isa_of plan) plan.stages r.who s x r.live (stands_there (isa_of plan) r.who s x c.certain) in
    rw is (go above (walk (past (isa_of plan)) c.below above) (way_grows (isa_of plan) c.below above) first)
  where
    go : (v w : Way) → (v.count ≤ w.count) × (v.stop ≡ true → w.stop ≡ true) → (1 ≤ v.count) ⊎ (v.stop ≡ true) → (1 ≤ w.count) ⊎ (w.stop ≡ true)
    go v w g (inl a) = let b = g.0 in inl (omega (arith, a, b))
    go v w g (inr a) = inr (g.1 a)

-- whatever the call finds
call_reaches : (plan : Plan) (x : Machine) (m : Moment) (n : ℕ) → bar plan m.state Serve ≡ None → n ≤ suc m.state.retired → HoldsAfter plan x m →
    Reaching plan x m n
call_reaches plan x m n free near h =
    record { held = h; far = λ _. go (way (isa_of plan) m.state h.machine) (call_nears plan m.state h.machine free (sound_at plan x m Serve free h)) }
  where
    go : (w : Way) → (1 ≤ w.count) ⊎ (w.stop ≡ true) → (n ≤ m.state.retired + w.count) ⊎ (w.stop ≡ true)
    go w (inl a) = inl (omega (arith, near, a))
    go w (inr a) = inr a

-- every move leaves them sure, whatever it finds of the input
pub nearing_kept : (plan : Plan) (start : Machine) (m : Moment) (mv : Move) (rest : List ℕ) (n : ℕ) (written : List Line) → Suits plan →
    bar plan m.state mv ≡ None → HoldsAnew plan start written m → Nearing plan m n → Nearing plan (next plan (finding rest m) mv) n
nearing_kept plan start m mv rest n written acc free h near = go (found plan m mv near.rest rest)
  where
    call : mv ≡ Serve → Nearing plan (next plan (finding rest m) mv) n
    call is =
        let open_here : bar plan m.state Serve ≡ None = sym (ap (bar plan m.state) is) ∙ free in
        let held = held_anew plan near.at m near.rest rest open_here near.level near.reaching.held h.clear in
        moved_near plan (over rest near.at) (finding rest m) mv n acc free near.level near.near
        (call_reaches plan (over rest near.at) (finding rest m) n open_here near.near held)

    go : (mv ≡ Serve) ⊎ (next plan (finding rest m) mv ≡ finding rest (next plan (finding near.rest m) mv)) → Nearing plan (next plan (finding rest m) mv) n
    go (inl is) = call is
    go (inr is) = rw is (left_open plan (next plan (finding near.rest m) mv) rest n (moved_near plan near.at
        (finding near.rest m) mv n acc free near.level near.near near.reaching))

-- the first move out of a drained moment makes one more sure
pub nearing_first : (plan : Plan) (start : Machine) (m : Moment) (mv : Move) (rest : List ℕ) (written : List Line) → Suits plan → bar plan m.state mv ≡ None →
    HoldsAnew plan start written m → is_drained m.state ≡ true → Nearing plan (next plan (finding rest m) mv) (suc m.state.retired)
nearing_first plan start m mv rest written acc free h drained = go (found plan m mv h.rest rest)
    (only_issue plan h.at (finding h.rest m) mv acc free h.held drained)
  where
    first : Reaching plan h.at (next plan (finding h.rest m) mv) (suc m.state.retired)
    first = first_move plan h.at (finding h.rest m) mv acc free h.held drained

    go : (mv ≡ Serve) ⊎ (next plan (finding rest m) mv ≡ finding rest (next plan (finding h.rest m) mv)) → is_issue mv ≡ true →
        Nearing plan (next plan (finding rest m) mv) (suc m.state.retired)
    go (inl is) issue = absurd (let e = sym (ap is_issue is) ∙ issue in cc)
    go (inr is) issue = rw is (left_open plan (next plan (finding h.rest m) mv) rest (suc m.state.retired)
        (nearing plan h.at (next plan (finding h.rest m) mv) (suc m.state.retired) (let c = first.held.count in let l = h.level in omega (arith, c, l)) first))

-- once drained, they have retired
pub nearing_retired : (plan : Plan) (m : Moment) (n : ℕ) → Nearing plan m n → m.state.ending ≡ None → is_drained m.state ≡ true → n ≤ m.state.retired
nearing_retired plan m n h going drained = all_retired plan h.at (finding h.rest m) n h.reaching going drained
