-- What the moves of the table without a rule preserve: memory, except for Access and Serve, and the count of retired
-- instructions, except for Leave. None fails; and no input that is used up becomes available again.
use Rattle.std.proofs.Common.{◌≡◌, ℕ, zero, suc, ◌+◌, ◌-◌, List, [], ◌∷◌, Option, Some, None, Bool, true, false, cond, length, drop, refl, sym, subst, arith}
use Rattle.std.specs.Prelude.{slice_get, ◌==◌, ◌||◌, min, not, if◌then◌else◌}
use Rattle.std.specs.Option.{option_to_list}
use Rattle.mem_regions.specs.Memory.{Memory}
use Rattle.rv_inst.specs.declared.instruction.Instr.{Instr}
use Rattle.rv_machine.specs.Call.{Called, call, read, write, write_from, exit, brk, answered_alone as answer_is, bad_file, bad_address, no_such_call, read_into, is_output, is_exit, call_number, first_argument, second_argument, third_argument}
use Rattle.rv_machine.specs.Call as called
use Rattle.rv_machine.specs.Step.{synchronizes}
use Rattle.mem_regions.specs.Fetching.{synced}
use Rattle.mem_regions.specs.Ranges.{range_of, can_write}
use Rattle.cf_layout.specs.Layout.{Plan, siding_of}
use Rattle.cf_bind.specs.declared.cell.Cell.{Cell}
use Rattle.cf_bind.specs.declared.cell.Op.{Op}
use Rattle.cf_bind.specs.declared.passenger.End.{End}
use Rattle.cf_bind.specs.declared.passenger.Passenger.{Passenger}
use Rattle.cf_bind.specs.declared.moves.Move.{Move}
use Rattle.cf_bind.specs.declared.moves.Move.TheVariants.{Issue, Emit, Climb, Fall, Meet, Execute, Send, Launch, Slide, Access, Recover, Leave, Exit, Serve}
use Rattle.cf_semantics.specs.moves.Bars.{last_op, running}
use Rattle.cf_semantics.specs.moves.Instructions.{serve_of}
use Rattle.cf_semantics.specs.moves.Moves.{accessed, asked, climbed, emitted, exited, fallen, issued, launch_trap, launched, left, moved, next, served, without_passenger, written}
use Rattle.cf_semantics.specs.runs.Lines.{Line, line_of}
use Rattle.cf_semantics.specs.state.Layouts.{port}
use Rattle.cf_semantics.specs.state.Options.{on}
use Rattle.cf_semantics.specs.state.Passengers.{instruction, kind}
use Rattle.cf_semantics.specs.state.State.{State, Moment, cell_at, siding_at, with_cell}
use Rattle.order_rules.specs.declared.rule.Rule.{Rule}
use Rattle.order_rules.specs.declared.rule.Rule.TheVariants.{LeaveNotDone}
use Rattle.order_rules.specs.Rules.{rule_holds}
use Rattle.order_model.specs.RuleMoves.{is_of_memory, leaving_without, left_without, line_without, moved_without, next_without, recovered_without, retires_without}
use Rattle.order_model.specs.Situations.{lone_moment}

-- memory, the count of retired instructions and the failures are the same
pub record IsStill (s t : State) : Type 0 where
  pub mem : t.mem ≡ s.mem
  pub retired : t.retired ≡ s.retired
  pub failed : t.failed ≡ s.failed

still : (s : State) → IsStill s s
still s = record { mem = refl; retired = refl; failed = refl }

-- the state that a choice leads to is still if it is in both cases
chosen : {A : Type 0} (s : State) (o : Option A) (f : A → State) → ((a : A) → IsStill s (f a)) → IsStill s (on o s f)
chosen s None f h = still s
chosen s (Some a) f h = h a

chosen_or : {A : Type 0} (s : State) (o : Option A) (d : State) (f : A → State) → IsStill s d → ((a : A) → IsStill s (f a)) → IsStill s (on o d f)
chosen_or s None d f h k = h
chosen_or s (Some a) d f h k = k a

on_rider : (s : State) (i : ℕ) (f : Cell → Passenger → State) → ((c : Cell) (p : Passenger) → IsStill s (f c p)) →
    IsStill s (on (cell_at s.cells i) s (λ c. on c.passenger s (f c)))
on_rider s i f h = chosen s (cell_at s.cells i) (λ c. on c.passenger s (f c)) (λ c. chosen s c.passenger (f c) (λ p. h c p))

emit_still : (s : State) (n : ℕ) (lane : List ℕ) (c : Cell) → IsStill s (emitted s n lane c)
emit_still s n [] c = still s
emit_still s n (r ∷ lane) c = record { mem = refl; retired = refl; failed = refl }

launch_still : (plan : Plan) (s : State) (i : ℕ) (c : Cell) (p : Passenger) → IsStill s (launched plan s i c p)
launch_still plan s i c p = chosen_or s (launch_trap s p) _ _
    (chosen s (siding_of plan (kind p)) _ (λ k. record { mem = refl; retired = refl; failed = refl }))
    (λ e. record { mem = refl; retired = refl; failed = refl })

recover_still : (away : Option Rule) (plan : Plan) (s : State) (i : ℕ) (c : Cell) (p : Passenger) → IsStill s (recovered_without away plan s i c p)
recover_still away plan s i c p = chosen s (siding_of plan (kind p)) _ (λ k. chosen s (last_op (siding_at s k)) _
    (λ op. record { mem = refl; retired = refl; failed = refl }))

-- the moves except Access, Leave and Serve
issue_still : (plan : Plan) (s : State) (g : _) → IsStill s (moved plan s (Issue g))
unfolding moved
issue_still plan s g = chosen s (cell_at s.cells 1) _ (λ c. chosen s (running s.fetch) (issued plan s g c)
    (λ pc. record { mem = refl; retired = refl; failed = refl }))

emits_still : (plan : Plan) (s : State) → IsStill s (moved plan s Emit)
unfolding moved
emits_still plan s = chosen s (cell_at s.cells plan.stages) _ (λ c. emit_still s plan.stages s.lane c)

climb_still : (plan : Plan) (s : State) (i : ℕ) → IsStill s (moved plan s (Climb i))
unfolding moved
climb_still plan s i = chosen s (cell_at s.cells i) _ (λ c. chosen s (cell_at s.cells (i + 1)) (climbed s i c)
    (λ d. record { mem = refl; retired = refl; failed = refl }))

fall_still : (plan : Plan) (s : State) (i : ℕ) → IsStill s (moved plan s (Fall i))
unfolding moved
fall_still plan s i = chosen s (cell_at s.cells i) _ (λ c. chosen s (cell_at s.cells (i - 1)) (fallen s i c)
    (λ d. record { mem = refl; retired = refl; failed = refl }))

meet_still : (away : Option Rule) (plan : Plan) (s : State) (i : ℕ) → IsStill s (moved_without away plan s (Meet i))
unfolding moved_without
meet_still away plan s i = on_rider s i _ (λ c p. chosen s c.packet _ (λ k. record { mem = refl; retired = refl; failed = refl }))

execute_still : (plan : Plan) (s : State) (i : ℕ) → IsStill s (moved plan s (Execute i))
unfolding moved
execute_still plan s i = on_rider s i _ (λ c p. record { mem = refl; retired = refl; failed = refl })

send_still : (plan : Plan) (s : State) (i : ℕ) → IsStill s (moved plan s (Send i))
unfolding moved
send_still plan s i = on_rider s i _ (λ c p. record { mem = refl; retired = refl; failed = refl })

launches_still : (plan : Plan) (s : State) (i : ℕ) → IsStill s (moved plan s (Launch i))
unfolding moved
launches_still plan s i = on_rider s i (launched plan s i) (λ c p. launch_still plan s i c p)

slide_still : (plan : Plan) (s : State) (k c : ℕ) → IsStill s (moved plan s (Slide k c))
unfolding moved
slide_still plan s k c = chosen s (slice_get (siding_at s k) c) _ (λ o. record { mem = refl; retired = refl; failed = refl })

recovers_still : (away : Option Rule) (plan : Plan) (s : State) (i : ℕ) → IsStill s (moved_without away plan s (Recover i))
unfolding moved_without
recovers_still away plan s i = on_rider s i (recovered_without away plan s i) (λ c p. recover_still away plan s i c p)

exit_still : (plan : Plan) (s : State) → IsStill s (moved plan s Exit)
unfolding moved
exit_still plan s = chosen s (cell_at s.cells 1) (exited plan s) (λ c. chosen s c.packet _ (λ k. record { mem = refl; retired = refl; failed = refl }))

-- Leave counts the instruction that retires
leaves_count : (t : State) (p : Passenger) (line : Line) (dead : Bool) (o : Option End) →
    (cond dead t (on o (record t { regs = written t.regs p.dst; retired = t.retired + 1 }) (λ e. record t { ending = Some e }))).retired
    ≡ t.retired + length (option_to_list (cond dead None (on o (Some line) (λ e. None))))
leaves_count t p line true o = omega arith
leaves_count t p line false None = omega arith
leaves_count t p line false (Some e) = omega arith

leaving_count : (away : Option Rule) (s : State) (n : ℕ) (c : Cell) (p : Passenger) →
    (left_without away s n c p).retired ≡ s.retired + length (option_to_list (line_without away p))
leaving_count away s n c p = go (rule_holds away LeaveNotDone || p.done) where
  go : (b : Bool) → (left s n c (if b then p else record p { dst = None })).retired
      ≡ s.retired + length (option_to_list (if p.dead then None else on p.ending (Some (line_of (if b then p else record p { dst = None }))) (λ e. None)))
  go true = leaves_count (with_cell s n (without_passenger c)) p (line_of p) p.dead p.ending
  go false = leaves_count (with_cell s n (without_passenger c)) (record p { dst = None }) (line_of (record p { dst = None })) p.dead p.ending

leaves_failed : (t : State) (p : Passenger) (dead : Bool) (o : Option End) →
    (cond dead t (on o (record t { regs = written t.regs p.dst; retired = t.retired + 1 }) (λ e. record t { ending = Some e }))).failed ≡ t.failed
leaves_failed t p true o = refl
leaves_failed t p false None = refl
leaves_failed t p false (Some e) = refl

leaves_mem : (t : State) (p : Passenger) (dead : Bool) (o : Option End) →
    (cond dead t (on o (record t { regs = written t.regs p.dst; retired = t.retired + 1 }) (λ e. record t { ending = Some e }))).mem ≡ t.mem
leaves_mem t p true o = refl
leaves_mem t p false None = refl
leaves_mem t p false (Some e) = refl

-- the state after Leave
record IsLeft (s : State) (line : Option Line) (t : State) : Type 0 where
  pub mem : t.mem ≡ s.mem
  pub failed : t.failed ≡ s.failed
  pub retired : t.retired ≡ s.retired + length (option_to_list line)

left_rider : (away : Option Rule) (s : State) (n : ℕ) (c : Cell) (p : Passenger) → IsLeft s (line_without away p) (left_without away s n c p)
left_rider away s n c p =
    let q : Passenger = leaving_without away p in
    record {
      mem = leaves_mem (with_cell s n (without_passenger c)) q q.dead q.ending;
      failed = leaves_failed (with_cell s n (without_passenger c)) q q.dead q.ending;
      retired = leaving_count away s n c p;
    }

nothing_left : (s : State) → IsLeft s None s
nothing_left s = record { mem = refl; failed = refl; retired = omega arith }

leave_left : (away : Option Rule) (plan : Plan) (s : State) → IsLeft s (retires_without away plan s Leave) (moved_without away plan s Leave)
unfolding moved_without retires_without
leave_left away plan s = go (cell_at s.cells plan.stages) where
  there : (c : Cell) (o : Option Passenger) → IsLeft s (on o None (line_without away)) (on o s (left_without away s plan.stages c))
  there c None = nothing_left s
  there c (Some p) = left_rider away s plan.stages c p

  go : (o : Option Cell) → IsLeft s (on o None (λ c. on c.passenger None (line_without away)))
      (on o s (λ c. on c.passenger s (left_without away s plan.stages c)))
  go None = nothing_left s
  go (Some c) = there c c.passenger

-- Access changes only memory
record IsAccessed (s t : State) : Type 0 where
  pub retired : t.retired ≡ s.retired
  pub failed : t.failed ≡ s.failed

access_kept : (plan : Plan) (s : State) → IsAccessed s (moved plan s Access)
unfolding moved
access_kept plan s = go (last_op (siding_at s (port plan))) where
  go : (o : Option Op) → IsAccessed s (on o s (accessed plan s))
  go None = record { retired = refl; failed = refl }
  go (Some op) = record { retired = refl; failed = refl }

-- what a call leaves of an input that is used up
LeavesNone : Called → Type 0
LeavesNone (called.Value a) = a.rest ≡ []
LeavesNone (called.Exit status) = Unit {0}

drop_none : (n : ℕ) → drop n (let l : List ℕ = [] in l) ≡ []
drop_none zero = refl
drop_none (suc n) = refl

read_none : (fd addr len : ℕ) (mem : Memory) → LeavesNone (read fd addr len mem [])
unfolding read LeavesNone
read_none fd addr len mem = go (not (fd == 0)) (len == 0) (not (can_write mem addr len)) where
  go : (a b c : Bool) → LeavesNone (if a then answer_is bad_file mem [] else if b then answer_is 0 mem [] else if c then answer_is bad_address mem []
      else read_into addr len mem [])
  go true b c = refl
  go false true c = refl
  go false false true = refl
  go false false false = drop_none (min len 0)

write_none : (fd addr len : ℕ) (mem : Memory) → LeavesNone (write fd addr len mem [])
unfolding write LeavesNone
write_none fd addr len mem = go (not (is_output fd)) (len == 0) (range_of mem addr len) where
  go : (a b : Bool) (r : Option (List ℕ)) → LeavesNone (if a then answer_is bad_file mem [] else if b then answer_is 0 mem [] else write_from r len mem [])
  go true b r = refl
  go false true r = refl
  go false false None = refl
  go false false (Some bytes) = refl

call_none : (regs : List ℕ) (mem : Memory) → LeavesNone (call regs mem [])
unfolding call LeavesNone
call_none regs mem = go (call_number regs == 63) (call_number regs == 64) (is_exit (call_number regs)) (call_number regs == 214) where
  go : (r w e b : Bool) → LeavesNone
      (if r then read (first_argument regs) (second_argument regs) (third_argument regs) mem [] else
      if w then write (first_argument regs) (second_argument regs) (third_argument regs) mem [] else
      if e then exit (first_argument regs) else if b then brk (first_argument regs) mem [] else answer_is no_such_call mem [])
  go true w e b = read_none (first_argument regs) (second_argument regs) (third_argument regs) mem
  go false true e b = write_none (first_argument regs) (second_argument regs) (third_argument regs) mem
  go false false true b = tt
  go false false false true = refl
  go false false false false = refl

serve_none : (i : Instr) (regs : List ℕ) (mem : Memory) → LeavesNone (serve_of i regs mem [])
unfolding serve_of LeavesNone
serve_none i regs mem = go (synchronizes i) where
  go : (b : Bool) → LeavesNone (if b then called.Value (record { value = 0; mem = synced mem; rest = []; output = [] }) else call regs mem [])
  go true = refl
  go false = call_none regs mem

-- a move leads to the same state whatever was written, if nothing is left of the input; and then nothing is left
-- afterwards
pub record GoesOn (s : State) (line : Option Line) (x y : Moment) : Type 0 where
  pub state : x.state ≡ y.state
  pub rest : x.rest ≡ []
  pub failed : x.state.failed ≡ s.failed
  pub retired : x.state.retired ≡ s.retired + length (option_to_list line)

on_still : (m : Moment) (t : State) → m.rest ≡ [] → IsStill m.state t →
    GoesOn m.state None (record m { state = t }) (record (lone_moment m.state) { state = t })
on_still m t e h = record { state = refl; rest = e; failed = h.failed; retired = omega (arith, h.retired) }

on_served : (m : Moment) (n : ℕ) (c : Cell) (p : Passenger) (o : Called) → m.rest ≡ [] → LeavesNone o →
    GoesOn m.state None (served m n c p o) (served (lone_moment m.state) n c p o)
unfolding LeavesNone
on_served m n c p (called.Value a) e h = record { state = refl; rest = h; failed = refl; retired = omega arith }
on_served m n c p (called.Exit status) e h = record { state = refl; rest = e; failed = refl; retired = omega arith }

on_serve : (plan : Plan) (m : Moment) → m.rest ≡ [] → GoesOn m.state None (next plan m Serve) (next plan (lone_moment m.state) Serve)
unfolding next
on_serve plan m e = go (cell_at m.state.cells plan.stages) where
  there : (c : Cell) (o : Option Passenger) → GoesOn m.state None (on o m (asked m plan.stages c))
      (on o (lone_moment m.state) (asked (lone_moment m.state) plan.stages c))
  there c None = record { state = refl; rest = e; failed = refl; retired = omega arith }
  there c (Some p) =
      let i : Instr = instruction p in
      subst (λ (l : List ℕ). GoesOn m.state None (served m plan.stages c p (serve_of i m.state.regs m.state.mem l))
      (served (lone_moment m.state) plan.stages c p (serve_of i m.state.regs m.state.mem []))) (sym e)
      (on_served m plan.stages c p (serve_of i m.state.regs m.state.mem []) e (serve_none i m.state.regs m.state.mem))

  go : (o : Option Cell) → GoesOn m.state None (on o m (λ c. on c.passenger m (asked m plan.stages c)))
      (on o (lone_moment m.state) (λ c. on c.passenger (lone_moment m.state) (asked (lone_moment m.state) plan.stages c)))
  go None = record { state = refl; rest = e; failed = refl; retired = omega arith }
  go (Some c) = there c c.passenger

pub goes_on : (away : Option Rule) (plan : Plan) (m : Moment) (mv : Move) → m.rest ≡ [] →
    GoesOn m.state (retires_without away plan m.state mv) (next_without away plan m mv) (next_without away plan (lone_moment m.state) mv)
unfolding next_without next moved_without retires_without
goes_on away plan m (Issue g) e = on_still m _ e (issue_still plan m.state g)
goes_on away plan m Emit e = on_still m _ e (emits_still plan m.state)
goes_on away plan m (Climb i) e = on_still m _ e (climb_still plan m.state i)
goes_on away plan m (Fall i) e = on_still m _ e (fall_still plan m.state i)
goes_on away plan m (Meet i) e = on_still m _ e (meet_still away plan m.state i)
goes_on away plan m (Execute i) e = on_still m _ e (execute_still plan m.state i)
goes_on away plan m (Send i) e = on_still m _ e (send_still plan m.state i)
goes_on away plan m (Launch i) e = on_still m _ e (launches_still plan m.state i)
goes_on away plan m (Slide k c) e = on_still m _ e (slide_still plan m.state k c)
goes_on away plan m Access e =
    let k = access_kept plan m.state in
    record { state = refl; rest = e; failed = k.failed; retired = omega (arith, k.retired) }
goes_on away plan m (Recover i) e = on_still m _ e (recovers_still away plan m.state i)
goes_on away plan m Leave e =
    let l = leave_left away plan m.state in
    record { state = refl; rest = e; failed = l.failed; retired = l.retired }
goes_on away plan m Exit e = on_still m _ e (exit_still plan m.state)
goes_on away plan m Serve e = on_serve plan m e

-- memory is the same after all moves but Access and Serve
pub mem_kept : (away : Option Rule) (plan : Plan) (m : Moment) (mv : Move) → is_of_memory mv ≡ false → (next_without away plan m mv).state.mem ≡ m.state.mem
unfolding next_without next moved_without
mem_kept away plan m (Issue g) e = (issue_still plan m.state g).mem
mem_kept away plan m Emit e = (emits_still plan m.state).mem
mem_kept away plan m (Climb i) e = (climb_still plan m.state i).mem
mem_kept away plan m (Fall i) e = (fall_still plan m.state i).mem
mem_kept away plan m (Meet i) e = (meet_still away plan m.state i).mem
mem_kept away plan m (Execute i) e = (execute_still plan m.state i).mem
mem_kept away plan m (Send i) e = (send_still plan m.state i).mem
mem_kept away plan m (Launch i) e = (launches_still plan m.state i).mem
mem_kept away plan m (Slide k c) e = (slide_still plan m.state k c).mem
mem_kept away plan m Access e = absurd (cc)
mem_kept away plan m (Recover i) e = (recovers_still away plan m.state i).mem
mem_kept away plan m Leave e = (leave_left away plan m.state).mem
mem_kept away plan m Exit e = (exit_still plan m.state).mem
mem_kept away plan m Serve e = absurd (cc)
