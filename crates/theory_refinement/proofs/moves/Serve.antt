-- Serve keeps the invariant.
use Rattle.std.proofs.Common.{◌≡◌, ℕ, ◌≤◌, List, [], ◌∷◌, ◌++◌, Option, Some, None, Bool, true, false, refl, sym, ap, subst, ◌∙◌, arith, length}
use Rattle.cf_bind.specs.declared.cell.Cell.{Cell}
use Rattle.cf_bind.specs.declared.moves.Bar.TheVariants.{NoSuchSite}
use Rattle.cf_bind.specs.declared.moves.Move.TheVariants.{Serve}
use Rattle.cf_bind.specs.declared.passenger.End.TheVariants.{Exit}
use Rattle.cf_bind.specs.declared.passenger.Passenger.{Passenger}
use Rattle.cf_layout.specs.Layout.{Plan, launch_stage, recover_stage, siding_of}
use Rattle.theory_refinement.proofs.column.Change.{flown_changed, reshaped}
use Rattle.theory_refinement.proofs.column.Column.{rider_first, rider_put, top_cell}
use Rattle.theory_refinement.proofs.column.Fold.{Replaces}
use Rattle.theory_refinement.proofs.moves.Rows.{bar_row, put_size}
use Rattle.theory_refinement.proofs.walks.PathServe.{after_call, served_steps, quit_sure, served_sure}
use Rattle.theory_refinement.proofs.walks.Quiet.{Unchanged}
use Rattle.theory_refinement.proofs.invariant.Invariant.{Sound}
use Rattle.theory_refinement.proofs.invariant.Stands.{Between, Stands}
use Rattle.theory_refinement.proofs.invariant.Suited.{Suits}
use Rattle.cf_semantics.specs.moves.Bars.{bar, is_full, row_bar, serve_bar}
use Rattle.cf_semantics.specs.state.Column.{Down, Item, Up, column, column_from, packet_in}
use Rattle.cf_semantics.specs.moves.Instructions.{Bad, Fetched, Goes, Got, Stops, fetched, serve_of, step_at}
use Rattle.cf_semantics.specs.state.Layouts.{isa_of}
use Rattle.cf_semantics.specs.moves.Moves.{answered, next, served, with_passenger}
use Rattle.cf_semantics.specs.state.Options.{Where, on}
use Rattle.cf_semantics.specs.state.Passengers.{goto, instruction, kind}
use Rattle.cf_semantics.specs.state.State.{Moment, State, cell_at, put_cell}
use Rattle.cf_semantics.specs.claims.Walks.{Everywhere, walk}
use Rattle.rv_inst.specs.declared.classes.Class.TheVariants.{Serial}
use Rattle.rv_inst.specs.declared.isa.Isa.{Isa}
use Rattle.rv_machine.specs.Call.{CallAnswer, Called}
use Rattle.rv_machine.specs.Call as called
use Rattle.cf_semantics.specs.moves.Fetches.{code_of}
use Rattle.rv_machine.specs.Machine.{Machine}
use Rattle.cf_semantics.specs.claims.Ahead as ahead
use Rattle.theory_refinement.proofs.invariant.Port as dock
use Rattle.theory_refinement.proofs.invariant.Lone as lone
use Rattle.theory_refinement.proofs.walks.Lone as lones
use Rattle.theory_refinement.proofs.walks.Path as paths
use Rattle.theory_refinement.proofs.invariant.Sure as sure
use Rattle.cf_semantics.specs.claims.Path as trail
use Rattle.cf_semantics.specs.claims.Soundness.{Holds, is_lone, operations_of}
use Rattle.theory_refinement.proofs.instructions.Classes.{serial_is}
use Rattle.theory_refinement.proofs.walks.Path.{sure_at}
use Rattle.theory_refinement.proofs.walks.Lone.{no_rider, shut_past}
use Rattle.theory_refinement.proofs.walks.Loose.{result_fits}

pub record Serves (l : Plan) (s : State) : Type 0 where
  pub here : Cell
  pub who : Passenger
  pub at_here : cell_at s.cells l.stages ≡ Some here
  pub sits : here.passenger ≡ Some who
  pub live : who.dead ≡ false
  pub undone : who.done ≡ false
  pub serial : kind who ≡ Serial
  pub clear : is_full here ≡ false

pub serve_ready : (l : Plan) (s : State) → row_bar l s Serve ≡ None → Serves l s
serve_ready l s e = go (cell_at s.cells l.stages) refl e
  where
    inner : (c : Cell) (o : Option Passenger) → cell_at s.cells l.stages ≡ Some c → c.passenger ≡ o → serve_bar c ≡ None → Serves l s
    inner c None f h e = absurd (grind arith)
    inner c (Some p) f h e =
        record {
          here = c;
          who = p;
          at_here = f;
          sits = h;
          live = grind arith;
          undone = grind arith;
          serial = serial_is (kind p) (grind arith);
          clear =
              grind arith;
        }

    go : (a : Option Cell) → cell_at s.cells l.stages ≡ a → on a (Some NoSuchSite) serve_bar ≡ None → Serves l s
    go None f e = absurd (cc)
    go (Some c) f e = inner c c.passenger f refl e

pub next_serve : (l : Plan) (m : Moment) (c : Cell) (p : Passenger) (a : Called) → cell_at m.state.cells l.stages ≡ Some c → c.passenger ≡ Some p →
    serve_of (instruction p) m.state.regs m.state.mem m.rest ≡ a → next l m Serve ≡ served m l.stages c p a
unfolding next
next_serve l m c p a e f g = rw (e, f, g) refl

abbrev pub quit : Passenger → ℕ → Passenger
quit p e = record p { done = true; ending = Some (Exit e) }

-- on the path
pub gave_at : (isa : Isa) (p : Passenger) (w : trail.Walk) (a : CallAnswer) → length w.machine.hart.regs ≡ 32 → kind p ≡ Serial → p.done ≡ false →
    serve_of (instruction p) w.machine.hart.regs w.machine.hart.mem w.machine.rest ≡ called.Value a → sure.SureAt isa p w →
    sure.SureAt isa (answered p a.value) w
unfolding sure.SureAt
gave_at isa p w a l k d e h = (served_sure isa p w.machine w.goto a l k d e h.0, record { source1 = h.1.source1; source2 = h.1.source2 })

pub quit_at : (isa : Isa) (p : Passenger) (w : trail.Walk) (e : ℕ) → kind p ≡ Serial → p.done ≡ false →
    serve_of (instruction p) w.machine.hart.regs w.machine.hart.mem w.machine.rest ≡ called.Exit e → sure.SureAt isa p w → sure.SureAt isa (quit p e) w
unfolding sure.SureAt
quit_at isa p w e k d q h =
    let s = quit_sure isa p w.machine w.goto e k d q h.0 in
    let o = h.0.unowing d in (
      record {
        path = h.0.path;
        reads = reads (fetched isa w.machine.hart.mem p.pc) h.0.reads;
        shape = λ j z. record { one = (h.0.shape j z).one; two = (h.0.shape j z).two; three = (h.0.shape j z).three };
        values = record {
          first = h.0.values.first;
          second = h.0.values.second;
          destination = h.0.values.destination;
          owed = rw o tt;
          goes = λ _ z. absurd (cc);
          next = λ _ z. absurd (cc);
          done = λ _ z. absurd (cc);
          ends = λ b z. let y : Exit e ≡ b = cc in s ∙ ap Stops y;
        };
        unended = λ z. absurd (cc);
        unowing = λ z. absurd (cc);
        owed = rw o tt;
      },
      record { source1 = h.1.source1; source2 = h.1.source2 },
    )
  where
    reads : (z : Fetched) → Holds p z → Holds (quit p e) z
    reads (Got j) a = a
    reads (Bad b) a = absurd (let u = h.0.unended d in let y = a.1 in cc)

pub gave_path : (isa : Isa) (n : ℕ) (p : Passenger) (w : trail.Walk) (v : ℕ) → p.dead ≡ false → w.barred ≡ false →
    (sure.SureAt isa p w → sure.SureAt isa (answered p v) w) → Replaces trail.Walk (sure.Fits isa) (trail.past isa) paths.Follows (Up n p ∷ [])
    (Up n (answered p v) ∷ []) w
unfolding sure.Fits trail.past
gave_path isa n p w v d b f =
    record {
      fit = λ h. grind (arith, f);
      follows = λ h. record {
        barred = λ _. grind arith;
        machine = λ e. absurd (grind arith);
        goto =
            λ e. absurd (grind arith);
        settled = λ e. absurd (grind arith);
        trapped = λ e. absurd (grind arith);
        coming = λ e. absurd (grind arith);
      };
    }

pub serial_nowhere : (p : Passenger) → kind p ≡ Serial → p.done ≡ false → goto p ≡ None
serial_nowhere p k d = grind arith

pub quit_path : (isa : Isa) (n : ℕ) (p : Passenger) (w : trail.Walk) (e : ℕ) → p.dead ≡ false → w.barred ≡ false → p.done ≡ false → kind p ≡ Serial →
    p.ending ≡ None → (sure.SureAt isa p w → sure.SureAt isa (quit p e) w) → Replaces trail.Walk (sure.Fits isa) (trail.past isa) paths.Follows (Up n p ∷ [])
    (Up n (quit p e) ∷ []) w
unfolding sure.Fits trail.past
quit_path isa n p w e d b u k o f =
    let g = serial_nowhere p k u in
    record {
      fit = λ h. grind (arith, f);
      follows = λ h. record {
        barred = λ z. grind arith;
        machine = λ z. grind arith;
        goto = λ z. grind arith;
        settled =
            λ z. grind arith;
        trapped = λ z. grind arith;
        coming = λ z. grind arith;
      };
    }

-- nothing is below it
serve_lone : (l : Plan) (n : ℕ) (p q : Passenger) → is_lone p ≡ true → Replaces Bool lone.Fits (lone.past l) lones.Follows (Up n p ∷ []) (Up n q ∷ []) false
unfolding lone.Fits lone.past
serve_lone l n p q e = record { fit = λ h. h; follows = λ h. record { shut = λ _. rw e refl } }

abbrev pub Idle : List Item → Type 0
Idle [] = Unit {0}
Idle (Up i p ∷ xs) = ⊥
Idle (Down i k ∷ xs) = Idle xs

idle : (l : Plan) (xs : List Item) → Everywhere lone.Fits (lone.past l) xs true → Idle xs
idle l [] h = tt
idle l (Up i p ∷ xs) h = no_rider i p h.0
idle l (Down i k ∷ xs) h = idle l xs (subst (λ (b : Bool). Everywhere lone.Fits (lone.past l) xs b) (shut_past l (Down i k)) h.1)

holds_past : (l : Plan) (n : ℕ) (p : Passenger) → is_lone p ≡ true → lone.past l (Up n p) false ≡ true
unfolding lone.past
holds_past l n p e = rw e refl

past_idle : (isa : Isa) (i : ℕ) (k : _) (w : dock.Dock) → Unchanged w (dock.past isa (Down i k) w)
unfolding dock.past
past_idle isa i k w = record { mem = refl; code = refl; rest = refl; out = refl }

pub walk_idle : (isa : Isa) (xs : List Item) (w : dock.Dock) → Idle xs → Unchanged w (walk (dock.past isa) xs w)
walk_idle isa [] w h = record { mem = refl; code = refl; rest = refl; out = refl }
walk_idle isa (Up i p ∷ xs) w h = absurd h
walk_idle isa (Down i k ∷ xs) w h =
    let a = past_idle isa i k w in
    let b = walk_idle isa xs (dock.past isa (Down i k) w) h in
    record { mem = b.mem ∙ a.mem; code = b.code ∙ a.code; rest = b.rest ∙ a.rest; out = b.out ∙ a.out }

pub fit_idle : (isa : Isa) (xs : List Item) (w : dock.Dock) → Idle xs → Everywhere (dock.Fits isa) (dock.past isa) xs w
fit_idle isa [] w h = tt
fit_idle isa (Up i p ∷ xs) w h = absurd h
fit_idle isa (Down i k ∷ xs) w h = (result_fits isa i k w, fit_idle isa xs (dock.past isa (Down i k) w) h)

pub serial_docked : (isa : Isa) (n : ℕ) (q : Passenger) (w : dock.Dock) → kind q ≡ Serial → w.risky ≡ false → dock.Fits isa (Up n q) w
unfolding dock.Fits dock.DockedAt
serial_docked isa n q w k r =
    record {
      live = λ a b. absurd (grind arith);
      order = λ a b. absurd (grind arith);
      served = λ a. r;
      permitted = λ a b. absurd (grind arith);
      answered =
          λ a. absurd (grind arith);
    }

pub not_yet : (isa : Isa) (n : ℕ) (q : Passenger) (w : dock.Dock) → kind q ≡ Serial → ahead.has_served q ≡ false → Unchanged w (dock.past isa (Up n q) w)
unfolding dock.past
not_yet isa n q w k s =
    let z : ahead.has_ported q w.answer ≡ false = grind arith in
    record { mem = rw z refl; code = rw s refl; rest = rw s refl; out = rw s refl }

served_past : (isa : Isa) (n : ℕ) (q : Passenger) (w : dock.Dock) (m : Machine) → ahead.has_served q ≡ true → step_at isa w.path.machine q.pc ≡ Goes m →
    dock.Ends (dock.past isa (Up n q) w) m.hart.mem m.rest m.output
unfolding dock.past
served_past isa n q w m s e =
    let z : ahead.has_ported q w.answer ≡ true = grind arith in
    record { is_mem = rw (z, e) refl; is_code = rw (s, e) refl; is_rest = rw (s, e) refl; is_out = rw (s, e) refl }

-- its stage
pub serial_aboard : (l : Plan) → Suits l → (p : Passenger) → kind p ≡ Serial → Between l (kind p) l.stages → ⊥
serial_aboard l acc p k b = go (siding_of l (kind p)) refl b
  where
    go : (o : Option ℕ) → siding_of l (kind p) ≡ o → Where o ⊥ (λ j. (launch_stage l j ≤ l.stages) × (l.stages ≤ recover_stage l j)) → ⊥
    go None e h = h
    go (Some j) e h = let z = acc.sided (kind p) j e in grind arith

gave_stands : (l : Plan) → Suits l → (p : Passenger) (v : ℕ) → p.dead ≡ false → p.done ≡ false → kind p ≡ Serial → Stands l l.stages p →
    Stands l l.stages (answered p v)
gave_stands l acc p v d u k h = record {
  low = λ a b c. absurd (cc);
  out = h.out;
  back = h.back;
  back_done = λ a b. refl;
  back_launched = h.back_launched;
  owes_live = λ e. d;
  owes_done = λ e. refl;
  owes_quiet = λ a e. absurd (let z = h.unended u in grind arith);
  guess = h.guess;
  served = λ e. refl;
  unended = λ e. absurd (cc);
  blank = λ e. absurd (cc);
  free_done = λ _. refl;
  out_undone = λ a b c. absurd (serial_aboard l acc p k (h.out b c));
  faulted = λ a b. absurd (grind arith);
  sourced1 = h.sourced1;
  sourced2 = h.sourced2;
  homed = h.homed;
}

quit_stands : (l : Plan) → Suits l → (p : Passenger) (e : ℕ) → p.done ≡ false → kind p ≡ Serial → Stands l l.stages p → Stands l l.stages (quit p e)
quit_stands l acc p e u k h = record {
  low = λ a b c. absurd (cc);
  out = h.out;
  back = h.back;
  back_done = λ a b. refl;
  back_launched = h.back_launched;
  owes_live = h.owes_live;
  owes_done = λ e. refl;
  owes_quiet = λ a b. absurd (let z = h.owes_done a in cc);
  guess = h.guess;
  served = λ e. refl;
  unended = λ e. absurd (cc);
  blank = λ e. absurd (cc);
  free_done = λ _. refl;
  out_undone = λ a b c. absurd (serial_aboard l acc p k (h.out b c));
  faulted = λ a b. absurd (grind arith);
  sourced1 = h.sourced1;
  sourced2 = h.sourced2;
  homed = h.homed;
}

undone_serial : (p : Passenger) → p.dead ≡ false → p.done ≡ false → kind p ≡ Serial → (is_lone p ≡ true) × (ahead.has_served p ≡ false)
undone_serial p d u k = (grind arith, grind arith)

-- all that is known when it is served
pub record Scene (l : Plan) (s : State) (rest out : List ℕ) (x : Machine) (r : Serves l s) : Type 0 where
  pub below : List Item
  pub was : column s ≡ Up l.stages r.who ∷ below
  pub is : (q : Passenger) → column_from 1 (put_cell s.cells l.stages (with_passenger r.here q)) ≡ Up l.stages q ∷ below
  pub certain : sure.SureAt (isa_of l) r.who (trail.top s x)
  pub stands : Stands l l.stages r.who
  pub holds : is_lone r.who ≡ true
  pub unserved : ahead.has_served r.who ≡ false
  pub idle : Idle below
  pub mem : s.mem ≡ x.hart.mem
  pub input : rest ≡ x.rest
  pub output : out ≡ x.output

pub scene : {rest out : List ℕ} (l : Plan) (s : State) (x : Machine) (r : Serves l s) → Sound l s rest out x → Scene l s rest out x r
scene {rest} {out} l s x r h =
    let n = l.stages in
    let p = r.who in
    let c = top_cell s.cells n r.here h.size r.at_here in
    let below = packet_in n r.here.packet ++ column_from 1 c.below in
    let was : column s ≡ Up n p ∷ below = c.was ∙ ap (λ (q : List Item). q ++ column_from 1 c.below) (rider_first n r.here p r.sits r.clear) in
    let hold = undone_serial p r.live r.undone r.serial in
    let fit = rw was at h.path_fit in
    let shut = rw was at h.lone_fit in
    let stand = rw was at h.stands in
    let quiet = idle l below (subst (λ (b : Bool). Everywhere lone.Fits (lone.past l) below b) (holds_past l n p hold.0) shut.1) in
    let same = not_yet (isa_of l) n p (dock.top l s x) r.serial hold.1 in
    let ends = rw was at h.port_ends in
    let under = walk_idle (isa_of l) below (dock.past (isa_of l) (Up n p) (dock.top l s x)) quiet in
    record {
      below = below;
      was = was;
      is = λ q. c.set (with_passenger r.here q) ∙ ap (λ (z : List Item). z ++ column_from 1 c.below) (rider_put n r.here p q r.sits r.clear);
      certain = sure_at (isa_of l) n p (trail.top s x) r.live refl fit.0;
      stands = stand.0;
      holds = hold.0;
      unserved = hold.1;
      idle = quiet;
      mem = ends.is_mem ∙ under.mem ∙ same.mem;
      input = ends.is_rest ∙ under.rest ∙ same.rest;
      output = ends.is_out ∙ under.out ∙ same.out;
    }

pub sure_step : (isa : Isa) (p : Passenger) (w : trail.Walk) (a : CallAnswer) → kind p ≡ Serial →
    serve_of (instruction p) w.machine.hart.regs w.machine.hart.mem w.machine.rest ≡ called.Value a → sure.SureAt isa p w →
    step_at isa w.machine p.pc ≡ Goes (after_call w.machine (instruction p) p.pc a)
unfolding sure.SureAt
sure_step isa p w a k e h = served_steps isa p w.machine w.goto a k e h.0

abbrev SoundAt : Plan → Moment → Machine → Type 0
SoundAt l m x = Sound l m.state m.rest m.output x

serve_by : (l : Plan) → Suits l → (m : Moment) (x : Machine) (r : Serves l m.state) (a : Called) → Scene l m.state m.rest m.output x r →
    serve_of (instruction r.who) x.hart.regs x.hart.mem x.rest ≡ a → SoundAt l m x → SoundAt l (served m l.stages r.here r.who a) x
serve_by l acc m x r (called.Value a) c f h =
    let s = m.state in
    let n = l.stages in
    let p = r.who in
    let q = answered p a.value in
    let t : State = record s { cells = put_cell s.cells n (with_passenger r.here q); mem = a.mem } in
    let y = sure_step (isa_of l) p (trail.top s x) a r.serial f c.certain in
    let d = serial_docked (isa_of l) n q (dock.top l s x) r.serial refl in
    let now : ahead.has_served q ≡ true = let u = r.live in let b = r.serial in let z = c.stands.unended r.undone in grind arith in
    let e = served_past (isa_of l) n q (dock.top l s x) _ now y in
    let b = walk_idle (isa_of l) c.below (dock.past (isa_of l) (Up n q) (dock.top l s x)) c.idle in
    reshaped l s t x [] (Up n p ∷ []) (Up n q ∷ []) c.below c.was (c.is q)
    (record { regs = refl; lane = refl; fetch = refl; cache = refl; size = put_size s.cells n (with_passenger r.here q) })
    (gave_path (isa_of l) n p (trail.top s x) a.value r.live refl (gave_at (isa_of l) p (trail.top s x) a h.wide r.serial r.undone f))
    (serve_lone l n p q c.holds)
    (gave_stands l acc p a.value r.live r.undone r.serial c.stands, tt)
    (record {
      fit = rw (c.is q) (d, fit_idle (isa_of l) c.below _ c.idle);
      ends = rw (c.is q)
          (record {
            is_mem = e.is_mem ∙ sym b.mem;
            is_code = e.is_code ∙ sym b.code;
            is_rest = e.is_rest ∙ sym b.rest;
            is_out =
                ap (λ (o : List ℕ). o ++ a.output) c.output ∙ e.is_out ∙ sym b.out;
          });
    })
    (record {
      operations = λ k. h.moored.operations k ∙ ap (operations_of l k) c.was ∙ flown_changed l k [] (Up n p ∷ []) (Up n q ∷ []) c.below refl
          ∙ ap (operations_of l k) (sym (c.is q));
      front = h.moored.front;
      plain = h.moored.plain;
      berths = h.moored.berths;
    })
    h
serve_by l acc m x r (called.Exit z) c f h =
    let s = m.state in
    let n = l.stages in
    let p = r.who in
    let q = quit p z in
    let t : State = record s { cells = put_cell s.cells n (with_passenger r.here q) } in
    let d = serial_docked (isa_of l) n q (dock.top l s x) r.serial refl in
    let never : ahead.has_served q ≡ false = let a = r.serial in grind arith in
    let e = not_yet (isa_of l) n q (dock.top l s x) r.serial never in
    let b = walk_idle (isa_of l) c.below (dock.past (isa_of l) (Up n q) (dock.top l s x)) c.idle in
    reshaped l s t x [] (Up n p ∷ []) (Up n q ∷ []) c.below c.was (c.is q)
    (record { regs = refl; lane = refl; fetch = refl; cache = refl; size = put_size s.cells n (with_passenger r.here q) })
    (quit_path (isa_of l) n p (trail.top s x) z r.live refl r.undone r.serial (c.stands.unended r.undone)
    (quit_at (isa_of l) p (trail.top s x) z r.serial r.undone f))
    (serve_lone l n p q c.holds)
    (quit_stands l acc p z r.undone r.serial c.stands, tt)
    (record {
      fit = rw (c.is q) (d, fit_idle (isa_of l) c.below _ c.idle);
      ends = rw (c.is q)
          (record {
            is_mem = c.mem ∙ sym e.mem ∙ sym b.mem;
            is_code = ap code_of c.mem ∙ sym e.code ∙ sym b.code;
            is_rest = c.input ∙ sym e.rest ∙ sym b.rest;
            is_out = c.output ∙ sym e.out ∙ sym b.out;
          });
    })
    (record {
      operations = λ k. h.moored.operations k ∙ ap (operations_of l k) c.was ∙ flown_changed l k [] (Up n p ∷ []) (Up n q ∷ []) c.below refl
          ∙ ap (operations_of l k) (sym (c.is q));
      front = h.moored.front;
      plain = h.moored.plain;
      berths = h.moored.berths;
    })
    h

pub serve_kept : (l : Plan) (m : Moment) (x : Machine) → Suits l → bar l m.state Serve ≡ None → SoundAt l m x → SoundAt l (next l m Serve) x
serve_kept l m x acc e h =
    let r = serve_ready l m.state (bar_row l m.state Serve e) in
    let c = scene l m.state x r h in
    let a = serve_of (instruction r.who) m.state.regs m.state.mem m.rest in
    let f : serve_of (instruction r.who) x.hart.regs x.hart.mem x.rest ≡ a = rw (← h.regs, ← c.mem, ← c.input) refl in
    rw (next_serve l m r.here r.who a r.at_here r.sits refl) (serve_by l acc m x r a c f h)
