-- Recover: what it finds if nothing bars it, and the sidings once the operation is out.
use Rattle.std.proofs.Common.{◌≡◌, ◌≢◌, ℕ, suc, ◌<◌, ◌≤◌, List, [], ◌∷◌, ◌++◌, Option, Some, None, Bool, true, false, ◌==◌, ◌||◌, ◌&&◌, not, refl, sym, ap, ◌∙◌, arith, length}
use Rattle.cf_bind.specs.declared.cell.Cell.{Cell}
use Rattle.cf_bind.specs.declared.cell.Op.{Op}
use Rattle.cf_bind.specs.declared.moves.Bar.TheVariants.{AlreadyDone, NoPassenger, NoSuchSite, NoUnit, NotDone, OpNotThere}
use Rattle.cf_bind.specs.declared.moves.Move.TheVariants.{Recover}
use Rattle.cf_bind.specs.declared.passenger.Passenger.{Passenger}
use Rattle.cf_layout.specs.Layout.{Plan, launch_stage, recover_stage, siding_of}
use Rattle.theory_refinement.proofs.column.Change.{flown_append, flown_changed}
use Rattle.theory_refinement.proofs.column.Flown.{operations_last}
use Rattle.theory_refinement.proofs.moves.Launch.{first_none}
use Rattle.theory_refinement.proofs.column.Sidings.{berthed, flown_range, front_set_last, plain_set_last, rehung, set_last_size}
use Rattle.theory_refinement.proofs.column.Sorted.{riders_more}
use Rattle.theory_refinement.proofs.column.Spot.{Spot}
use Rattle.theory_refinement.proofs.walks.Stands.{each_front}
use Rattle.theory_refinement.proofs.invariant.Invariant.{Sound}
use Rattle.theory_refinement.proofs.invariant.Operations.{IsMoored}
use Rattle.theory_refinement.proofs.invariant.Suited.{Suits}
use Rattle.cf_semantics.specs.moves.Bars.{first, last_op, recover_bar, row_bar}
use Rattle.cf_semantics.specs.state.Column.{Item, Up, column}
use Rattle.cf_semantics.specs.moves.Instructions.{is_memory}
use Rattle.cf_semantics.specs.state.Layouts.{recovers}
use Rattle.cf_semantics.specs.moves.Moves.{back_in, moved, operation, set_last, with_passenger}
use Rattle.cf_semantics.specs.state.Options.{is_some, on}
use Rattle.cf_semantics.specs.state.Passengers.{kind}
use Rattle.cf_semantics.specs.state.State.{State, cell_at, siding_at, with_cell, with_siding}
use Rattle.cf_semantics.specs.claims.Soundness.{as_launched, in_siding, operations_in, operations_of}
use Rattle.rv_machine.specs.Machine.{Machine}

pub record Recovers (l : Plan) (s : State) (i : ℕ) : Type 0 where
  pub here : Cell
  pub who : Passenger
  pub number : ℕ
  pub what : Op
  pub at_here : cell_at s.cells i ≡ Some here
  pub sits : here.passenger ≡ Some who
  pub siding : siding_of l (kind who) ≡ Some number
  pub at_stage : recover_stage l number ≡ i
  pub out : who.launched ≡ true
  pub never : who.recovered ≡ false
  pub lies : last_op (siding_at s number) ≡ Some what
  pub answered : is_memory (kind who) ≡ true → is_some what.answer ≡ true

siding_there : (l : Plan) (p : Passenger) (i : ℕ) → not (recovers l (kind p) i) ≡ false → (k : ℕ) × (siding_of l (kind p) ≡ Some k) × (recover_stage l k ≡ i)
siding_there l p i e = go (siding_of l (kind p)) refl
  where
    go : (o : Option ℕ) → siding_of l (kind p) ≡ o → (k : ℕ) × (siding_of l (kind p) ≡ Some k) × (recover_stage l k ≡ i)
    go None f = absurd (grind arith)
    go (Some k) f = (k, f, grind arith)

pub recover_ready : (l : Plan) (s : State) (i : ℕ) → row_bar l s (Recover i) ≡ None → Recovers l s i
recover_ready l s i e = go (cell_at s.cells i) refl e
  where
    at_cell : (p : Passenger) (k : ℕ) (o : Option Op) → last_op (siding_at s k) ≡ o → on o (Some OpNotThere)
        (λ op. first (is_memory (kind p) && not (is_some op.answer)) NotDone None) ≡ None →
        (op : Op) × (last_op (siding_at s k) ≡ Some op) × (is_memory (kind p) ≡ true → is_some op.answer ≡ true)
    at_cell p k None f e = absurd (cc)
    at_cell p k (Some op) f e = (op, f, λ m. grind arith)

    inner : (c : Cell) (o : Option Passenger) → cell_at s.cells i ≡ Some c → c.passenger ≡ o →
        on o (Some NoPassenger) (λ p. first (not (recovers l (kind p) i)) NoUnit (first (not p.launched || p.recovered) AlreadyDone
        (on (siding_of l (kind p)) (Some NoUnit) (λ k. on (last_op (siding_at s k)) (Some OpNotThere)
        (λ op. first (is_memory (kind p) && not (is_some op.answer)) NotDone None))))) ≡ None → Recovers l s i
    inner c None f h e = absurd (cc)
    inner c (Some p) f h e =
        let e1 = first_none _ _ _ e in
        let e2 = first_none _ _ _ e1.1 in
        let k = siding_there l p i e1.0 in
        let z : on (last_op (siding_at s k.0)) (Some OpNotThere) (λ op. first (is_memory (kind p) && not (is_some op.answer)) NotDone None) ≡ None =
        rw k.1 at e2.1 in
        let a = at_cell p k.0 (last_op (siding_at s k.0)) refl z in
        let b = either p.launched p.recovered e2.0 in
        record {
          here = c;
          who = p;
          number = k.0;
          what = a.0;
          at_here = f;
          sits = h;
          siding = k.1;
          at_stage = k.2;
          out = b.0;
          never = b.1;
          lies = a.1;
          answered = a.2;
        }
      where
        either : (a b : Bool) → (not a || b) ≡ false → (a ≡ true) × (b ≡ false)
        either a b e = grind arith

    go : (a : Option Cell) → cell_at s.cells i ≡ a → on a (Some NoSuchSite) (λ c. recover_bar l s c i) ≡ None → Recovers l s i
    go None f e = absurd (cc)
    go (Some c) f e = inner c c.passenger f refl e

pub next_recover : (l : Plan) (s : State) (i : ℕ) (c : Cell) (p : Passenger) (k : ℕ) (op : Op) → cell_at s.cells i ≡ Some c → c.passenger ≡ Some p →
    siding_of l (kind p) ≡ Some k → last_op (siding_at s k) ≡ Some op → moved l s (Recover i)
    ≡ with_siding (with_cell s i (with_passenger c (back_in p op.answer))) k (set_last (siding_at s k) None)
unfolding moved
next_recover l s i c p k op e f g h = rw (e, f) (rw g (rw h refl))

-- the siding's part: the last operation is that of the instruction
pub record Hauls (l : Plan) (s : State) (i : ℕ) (r : Recovers l s i) (q : Spot s i r.here r.who) : Type 0 where
  pub cells : ℕ
  pub size : length (siding_at s r.number) ≡ suc cells
  pub op : as_launched (Some r.what) ≡ operation r.who ∷ []
  pub rest : operations_in (set_last (siding_at s r.number) None) ≡ operations_of l r.number q.below
  pub above : operations_of l r.number q.above ≡ []

out_here : (l : Plan) (k : ℕ) (p : Passenger) → siding_of l (kind p) ≡ Some k → p.launched ≡ true → p.recovered ≡ false → in_siding l k p ≡ true
out_here l k p e f g = rw (f, g, e) same
  where
    same : (k == k) ≡ true
    same = grind arith

pub hauls : {rest out : List ℕ} (l : Plan) (s : State) (x : Machine) (i : ℕ) → Suits l → (r : Recovers l s i) (q : Spot s i r.here r.who) →
    Sound l s rest out x → Hauls l s i r q
hauls {rest} {out} l s x i acc r q h =
    let k = r.number in
    let p = r.who in
    let old = Up i p ∷ [] in
    let n = berthed l acc s (column s) k h.moored (kind p) r.siding in
    let each = rw q.was at h.stands in
    let none = flown_range l k q.above (riders_more (λ j. i < j) (λ j. (launch_stage l k ≤ j) → (j ≤ recover_stage l k) →
    ⊥) q.above (λ j a b c. omega (arith, r.at_stage)) q.over) (each_front l q.above (old ++ q.below) each) in
    let was : operations_of l k (column s) ≡ operation p ∷ operations_of l k q.below = ap (operations_of l k) q.was ∙ flown_append l k q.above (old ++ q.below)
    ∙ ap (λ (z : List Op). z ++ operations_of l k (old ++ q.below)) none ∙ first_out l k i p q.below (out_here l k p r.siding r.out r.never) in
    let both : as_launched (Some r.what) ++ operations_in (set_last (siding_at s k) None) ≡ operation p ∷ operations_of l k q.below =
    sym (operations_last (siding_at s k) r.what r.lies) ∙ h.moored.operations k ∙ was in
    let two = halves (record r.what { answer = None }) (operation p) (operations_in (set_last (siding_at s k) None)) (operations_of l k q.below) both in
    record { cells = n.0; size = n.1; op = ap (λ (z : Op). z ∷ []) two.0; rest = two.1; above = none }
  where
    first_out : (l : Plan) (k i : ℕ) (p : Passenger) (xs : List Item) → in_siding l k p ≡ true →
        operations_of l k ((Up i p ∷ []) ++ xs) ≡ operation p ∷ operations_of l k xs
    first_out l k i p xs e = rw e refl

    halves : (a b : Op) (u v : List Op) → a ∷ u ≡ b ∷ v → (a ≡ b) × (u ≡ v)
    halves a b u v e = (cc, cc)

-- the instruction comes back as b, which is out of the siding
pub back_moored : (l : Plan) (s t : State) (i : ℕ) (r : Recovers l s i) (q : Spot s i r.here r.who) (b : Passenger) → Hauls l s i r q →
    t.sidings ≡ (with_siding s r.number (set_last (siding_at s r.number) None)).sidings → column t ≡ q.above ++ ((Up i b ∷ []) ++ q.below) →
    b.recovered ≡ true → IsMoored l s (column s) → IsMoored l t (column t)
back_moored l s t i r q b g e is v h =
    let k = r.number in
    let p = r.who in
    let old = Up i p ∷ [] in
    let new = Up i b ∷ [] in
    let is_flown : operations_of l k (column t) ≡ operations_of l k q.below = ap (operations_of l k) is ∙ flown_append l k q.above (new ++ q.below)
    ∙ ap (λ (z : List Op). z ++ operations_of l k (new ++ q.below)) g.above ∙ gone l k i b q.below v in
    rehung l s t (column s) (column t) k (set_last (siding_at s k) None) e g.cells g.size (set_last_size (siding_at s k) None) (g.rest ∙ sym is_flown)
    (λ j a. ap (operations_of l j) q.was ∙ flown_changed l j q.above old new q.below (other j a) ∙ ap (operations_of l j) (sym is))
    (front_set_last (siding_at s k) None (h.front k)) (λ a. plain_set_last (siding_at s k) (h.plain k a)) h
  where
    gone : (l : Plan) (k i : ℕ) (b : Passenger) (xs : List Item) → b.recovered ≡ true → operations_of l k ((Up i b ∷ []) ++ xs) ≡ operations_of l k xs
    gone l k i b xs v = go b.launched refl
      where
        go : (c : Bool) → b.launched ≡ c → operations_of l k ((Up i b ∷ []) ++ xs) ≡ operations_of l k xs
        go true f = rw (f, v) refl
        go false f = rw f refl

    other : (j : ℕ) → j ≢ r.number → operations_of l j (Up i r.who ∷ []) ≡ operations_of l j (Up i b ∷ [])
    other j a =
        let c : in_siding l j b ≡ false = grind arith in
        let d : in_siding l j r.who ≡ false = not_in (r.number == j) refl in
        rw (c, d) refl
      where
        not_in : (z : Bool) → (r.number == j) ≡ z → in_siding l j r.who ≡ false
        not_in true f = absurd (a (grind arith))
        not_in false f = let y = r.siding in grind arith
