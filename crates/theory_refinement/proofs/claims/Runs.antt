-- The invariant holds after every run.
use Rattle.std.proofs.Common.{◌≡◌, ℕ, zero, suc, ◌+◌, List, [], ◌∷◌, Option, Some, None, refl, sym, ap, subst, ◌∙◌, arith, length, ◌⊎◌, inl, inr}
use Rattle.std.specs.Prelude.{slice_get, replicate, map, unwrap_or}
use Rattle.rv_machine.specs.Machine.{Machine}
use Rattle.rv_machine.specs.Outcome as outcome
use Rattle.rv_machine.specs.After.{after, next_machine, step_from}
use Rattle.rv_machine.specs.Step.{step}
use Rattle.rv_inst.specs.declared.isa.Isa.{Isa}
use Rattle.cf_layout.specs.Layout.{Plan, SidingPlan, cells_of, no_siding}
use Rattle.cf_bind.specs.declared.moves.Move.{Move}
use Rattle.cf_bind.specs.declared.moves.Move.TheVariants.{Access, Climb, Emit, Execute, Exit, Fall, Issue, Launch, Leave, Meet, Recover, Send, Serve, Slide}
use Rattle.cf_bind.specs.declared.passenger.End.{End}
use Rattle.cf_semantics.specs.moves.Bars.{bar}
use Rattle.cf_semantics.specs.state.Column.{column_from}
use Rattle.cf_semantics.specs.moves.Instructions.{Goes, stepped, step_at, step_here}
use Rattle.cf_semantics.specs.state.Layouts.{isa_of}
use Rattle.cf_semantics.specs.runs.Lines.{lines_at, retires}
use Rattle.cf_semantics.specs.moves.Moves.{moved, next}
use Rattle.cf_semantics.specs.state.Options.{on}
use Rattle.cf_semantics.specs.state.Passengers.{cached}
use Rattle.cf_semantics.specs.runs.Runs.{IsRun, empty_cell, empty_siding, opened, run, start}
use Rattle.cf_semantics.specs.state.State.{State, Moment, siding_at}
use Rattle.cf_semantics.specs.claims.Soundness.{AreUnanswered, LastAnswered, operations_in}
use Rattle.theory_refinement.proofs.invariant.Invariant.{HoldsAfter, HoldsAt, IsOver, Sound}
use Rattle.theory_refinement.proofs.invariant.Suited.{Suits}
use Rattle.theory_refinement.proofs.moves.Access.{access_kept}
use Rattle.theory_refinement.proofs.moves.Emit.{emit_kept}
use Rattle.theory_refinement.proofs.moves.Execute.{execute_kept}
use Rattle.theory_refinement.proofs.moves.Exit.{exit_kept}
use Rattle.theory_refinement.proofs.moves.Fall.{fall_kept}
use Rattle.theory_refinement.proofs.moves.Issue.{issue_kept}
use Rattle.theory_refinement.proofs.moves.Climb.{climb_kept}
use Rattle.theory_refinement.proofs.moves.Meet.{meet_kept}
use Rattle.theory_refinement.proofs.moves.Launch.{launch_kept}
use Rattle.theory_refinement.proofs.moves.Leave.{Left, leave_kept}
use Rattle.theory_refinement.proofs.moves.Recover.{recover_kept}
use Rattle.theory_refinement.proofs.moves.Send.{send_kept}
use Rattle.theory_refinement.proofs.moves.Serve.{serve_kept}
use Rattle.theory_refinement.proofs.moves.Slide.{slide_kept}

-- apart from Leave a move changes neither the count nor the ending
pub record Counts (s t : State) : Type 0 where
  pub retired : t.retired ≡ s.retired
  pub ending : t.ending ≡ s.ending

served_retired : (l : Plan) (m : Moment) → (next l m Serve).state.retired ≡ m.state.retired
unfolding next
served_retired l m = grind arith

served_ending : (l : Plan) (m : Moment) → (next l m Serve).state.ending ≡ m.state.ending
unfolding next
served_ending l m = grind arith

pub climb_counts : (l : Plan) (s : State) (i : ℕ) → Counts s (moved l s (Climb i))
unfolding moved
climb_counts l s i = record { retired = grind arith; ending = grind arith }

pub fall_counts : (l : Plan) (s : State) (i : ℕ) → Counts s (moved l s (Fall i))
unfolding moved
fall_counts l s i = record { retired = grind arith; ending = grind arith }

pub meet_counts : (l : Plan) (s : State) (i : ℕ) → Counts s (moved l s (Meet i))
unfolding moved
meet_counts l s i = record { retired = grind arith; ending = grind arith }

pub execute_counts : (l : Plan) (s : State) (i : ℕ) → Counts s (moved l s (Execute i))
unfolding moved
execute_counts l s i = record { retired = grind arith; ending = grind arith }

pub send_counts : (l : Plan) (s : State) (i : ℕ) → Counts s (moved l s (Send i))
unfolding moved
send_counts l s i = record { retired = grind arith; ending = grind arith }

pub launch_counts : (l : Plan) (s : State) (i : ℕ) → Counts s (moved l s (Launch i))
unfolding moved
launch_counts l s i = record { retired = grind arith; ending = grind arith }

pub recover_counts : (l : Plan) (s : State) (i : ℕ) → Counts s (moved l s (Recover i))
unfolding moved
recover_counts l s i = record { retired = grind arith; ending = grind arith }

pub slide_counts : (l : Plan) (s : State) (k c : ℕ) → Counts s (moved l s (Slide k c))
unfolding moved
slide_counts l s k c = record { retired = grind arith; ending = grind arith }

pub access_counts : (l : Plan) (s : State) → Counts s (moved l s Access)
unfolding moved
access_counts l s = record { retired = grind arith; ending = grind arith }

pub emit_counts : (l : Plan) (s : State) → Counts s (moved l s Emit)
unfolding moved
emit_counts l s = record { retired = grind arith; ending = grind arith }

pub exit_counts : (l : Plan) (s : State) → Counts s (moved l s Exit)
unfolding moved
exit_counts l s = record { retired = grind arith; ending = grind arith }

pub serve_counts : (l : Plan) (m : Moment) → Counts m.state (next l m Serve).state
unfolding next
serve_counts l m = record { retired = served_retired l m; ending = served_ending l m }

pub issue_counts : (l : Plan) (s : State) (g : _) → Counts s (moved l s (Issue g))
unfolding moved
issue_counts l s g = record { retired = grind arith; ending = grind arith }

-- a move is allowed only before the program has ended
pub going : (l : Plan) (s : State) (m : Move) → bar l s m ≡ None → s.ending ≡ None
unfolding bar
going l s m e = grind arith

-- a step that goes on leads to the machine after one more step
goes_on : (isa : Isa) (x y : Machine) → step_here isa x ≡ Goes y → next_machine (step isa x) ≡ Some y
unfolding step_at
goes_on isa x y e = of (step isa x) e
  where
    of : (o : outcome.Outcome Machine) → stepped o ≡ Goes y → next_machine o ≡ Some y
    of (outcome.Next m line) e = let z : m ≡ y = cc in ap Some z
    of (outcome.Trap cause pc detail) e = absurd (cc)
    of (outcome.Exit status) e = absurd (cc)

pub after_more : (isa : Isa) (m x y : Machine) (n : ℕ) → after isa m n ≡ Some x → step_here isa x ≡ Goes y → after isa m (suc n) ≡ Some y
unfolding after
after_more isa m x y n e g = ap (step_from isa) e ∙ goes_on isa x y g

same : (l : Plan) (m t : Moment) (x0 : Machine) → m.state.ending ≡ None → Counts m.state t.state → (h : HoldsAfter l x0 m) →
    Sound l t.state t.rest t.output h.machine → HoldsAfter l x0 t
same l m t x0 e c h k = record {
  gained = h.gained;
  machine = h.machine;
  count = c.retired ∙ h.count;
  after = h.after;
  stage = subst (HoldsAt l t.state t.rest t.output h.machine) (sym (c.ending ∙ e)) k;
}

left : (l : Plan) (m t : Moment) (x0 : Machine) → m.state.ending ≡ None → (h : HoldsAfter l x0 m) → Left l m.state t.state t.rest t.output h.machine →
    HoldsAfter l x0 t
left l m t x0 e h k = go k.how
  where
    x : Machine
    x = h.machine

    s : State
    s = m.state

    go : ((t.state.ending ≡ s.ending) × (t.state.retired ≡ s.retired) × (retires l s Leave ≡ []) × Sound l t.state t.rest t.output x)
        ⊎ (((y : Machine) × (step_here (isa_of l) x ≡ Goes y) × (t.state.ending ≡ s.ending) × (t.state.retired ≡ suc s.retired)
        × (retires l s Leave ≡ lines_at (isa_of l) x) × Sound l t.state t.rest t.output y)
        ⊎ ((e : End) × (t.state.ending ≡ Some e) × (t.state.retired ≡ s.retired) × (retires l s Leave ≡ []) × IsOver l t.state t.rest t.output x e)) →
        HoldsAfter l x0 t
    go (inl q) = record {
      gained = h.gained;
      machine = x;
      count = q.1 ∙ h.count;
      after = h.after;
      stage =
          subst (HoldsAt l t.state t.rest t.output x) (sym (q.0 ∙ e)) q.3;
    }
    go (inr (inl q)) = record {
      gained = suc h.gained;
      machine = q.0;
      count = q.3 ∙ ap suc h.count ∙ omega arith;
      after = after_more (isa_of l) x0 x q.0 h.gained h.after q.1;
      stage =
          subst (HoldsAt l t.state t.rest t.output q.0) (sym (q.2 ∙ e)) q.5;
    }
    go (inr (inr q)) = record
        { gained = h.gained; machine = x; count = q.2 ∙ h.count; after = h.after; stage = subst (HoldsAt l t.state t.rest t.output x) (sym q.1) q.4 }

-- each move keeps it
pub kept : (l : Plan) (x0 : Machine) (m : Moment) (mv : Move) → Suits l → bar l m.state mv ≡ None → HoldsAfter l x0 m → HoldsAfter l x0 (next l m mv)
unfolding next
kept l x0 m mv acc e h = go mv e (going l m.state mv e) (subst (HoldsAt l m.state m.rest m.output h.machine) (going l m.state mv e) h.stage)
  where
    s : State
    s = m.state

    go : (mv : Move) → bar l m.state mv ≡ None → m.state.ending ≡ None → Sound l m.state m.rest m.output h.machine → HoldsAfter l x0 (next l m mv)
    go (Issue g) e n k = same l m _ x0 n (issue_counts l s g) h (issue_kept l s h.machine g acc e k)
    go Emit e n k = same l m _ x0 n (emit_counts l s) h (emit_kept l s h.machine e k)
    go (Climb i) e n k = same l m _ x0 n (climb_counts l s i) h (climb_kept l s h.machine i e k)
    go (Fall i) e n k = same l m _ x0 n (fall_counts l s i) h (fall_kept l s h.machine i e k)
    go (Meet i) e n k = same l m _ x0 n (meet_counts l s i) h (meet_kept l s h.machine i e k)
    go (Execute i) e n k = same l m _ x0 n (execute_counts l s i) h (execute_kept l s h.machine i acc e k)
    go (Send i) e n k = same l m _ x0 n (send_counts l s i) h (send_kept l s h.machine i e k)
    go (Launch i) e n k = same l m _ x0 n (launch_counts l s i) h (launch_kept l s h.machine i acc e k)
    go (Slide j c) e n k = same l m _ x0 n (slide_counts l s j c) h (slide_kept l s h.machine j c e k)
    go Access e n k = same l m _ x0 n (access_counts l s) h (access_kept l s h.machine acc e k)
    go (Recover i) e n k = same l m _ x0 n (recover_counts l s i) h (recover_kept l s h.machine i acc e k)
    go Leave e n k = left l m _ x0 n h (leave_kept l s h.machine e k)
    go Exit e n k = same l m _ x0 n (exit_counts l s) h (exit_kept l s h.machine e k)
    go Serve e n k = same l m _ x0 n (serve_counts l m) h (serve_kept l m h.machine acc e k)

-- the beginning
pub empty_column : (i n : ℕ) → column_from i (replicate n empty_cell) ≡ []
empty_column i zero = refl
empty_column i (suc n) = rw (empty_column (suc i) n) refl

pub replicate_size : {A : Type 0} → (n : ℕ) (a : A) → length (replicate n a) ≡ n
replicate_size zero a = refl
replicate_size (suc n) a = ap suc (replicate_size n a)

none_cached : (n r : ℕ) → cached (replicate n None) r ≡ None
none_cached zero r = refl
none_cached (suc n) zero = refl
none_cached (suc n) (suc r) = none_cached n r

empty_cells : (ss : List SidingPlan) (k : ℕ) → on (slice_get (map empty_siding ss) k) [] (λ q. q) ≡ replicate (on (slice_get ss k) 0 (λ s. s.cells)) None
empty_cells [] k = refl
empty_cells (s ∷ ss) zero = refl
empty_cells (s ∷ ss) (suc k) = empty_cells ss k

no_operations : (n : ℕ) → operations_in (replicate n None) ≡ []
no_operations zero = refl
no_operations (suc n) = rw (no_operations n) refl

plain_none : (n : ℕ) → AreUnanswered (replicate n None)
plain_none zero = tt
plain_none (suc n) = (tt, plain_none n)

front_none : (n : ℕ) → LastAnswered (replicate n None)
front_none zero = tt
front_none (suc zero) = tt
front_none (suc (suc n)) = (tt, front_none (suc n))

cells_there : (l : Plan) (k : ℕ) → on (slice_get l.sidings k) 0 (λ s. s.cells) ≡ cells_of l k
unfolding cells_of
cells_there l k = of (slice_get l.sidings k)
  where
    of : (o : Option SidingPlan) → on o 0 (λ s. s.cells) ≡ (unwrap_or o no_siding).cells
    of None = refl
    of (Some s) = refl

empty_sidings : (l : Plan) (x : Machine) (k : ℕ) → siding_at (opened l x) k ≡ replicate (cells_of l k) None
unfolding opened
empty_sidings l x k = empty_cells l.sidings k ∙ ap (λ n. replicate n None) (cells_there l k)

pub opened_sound : (l : Plan) (x : Machine) → length x.hart.regs ≡ 32 → Sound l (opened l x) x.rest x.output x
unfolding opened
opened_sound l x w =
    let e = empty_column 1 l.stages in
    record {
      regs = refl;
      wide = w;
      size = replicate_size l.stages empty_cell;
      path_fit = rw e tt;
      path_ends = rw e refl;
      cache = rw e (λ r v f. absurd (let z = sym (none_cached 32 r) ∙ f in cc));
      lone_fit = rw e tt;
      lone_ends = rw e (λ b. absurd (cc));
      stands = rw e tt;
      port_fit = rw e tt;
      port_ends = rw e (record { is_mem = refl; is_code = refl; is_rest = refl; is_out = refl });
      moored = rw e (record {
        operations = λ k. ap operations_in (empty_sidings l x k) ∙ no_operations (cells_of l k);
        front = λ k. subst LastAnswered (sym (empty_sidings l x k)) (front_none (cells_of l k));
        plain = λ k _. subst AreUnanswered (sym (empty_sidings l x k)) (plain_none (cells_of l k));
        berths = λ k. ap length (empty_sidings l x k) ∙ replicate_size (cells_of l k) None;
      });
    }

pub held_after : (l : Plan) (x0 : Machine) (m : Moment) (moves : List Move) → Suits l → IsRun l m moves → HoldsAfter l x0 m → HoldsAfter l x0 (run l m moves)
unfolding IsRun run
held_after l x0 m [] acc r h = h
held_after l x0 m (mv ∷ moves) acc r h = held_after l x0 (next l m mv) moves acc r.1 (kept l x0 m mv acc r.0 h)

none_retired : (l : Plan) (x : Machine) → (opened l x).retired ≡ x.hart.retired + 0
unfolding opened
none_retired l x = omega arith

not_ended : (l : Plan) (x : Machine) → (opened l x).ending ≡ None
unfolding opened
not_ended l x = refl

pub opened_retired : (l : Plan) (x : Machine) → (opened l x).retired ≡ x.hart.retired
unfolding opened
opened_retired l x = refl

-- after every run
pub started : (l : Plan) (x0 : Machine) → length x0.hart.regs ≡ 32 → HoldsAfter l x0 (start l x0)
started l x0 w = record {
  gained = 0;
  machine = x0;
  count = none_retired l x0;
  after = unfold after in refl;
  stage = subst (HoldsAt l (opened l x0) x0.rest x0.output x0) (sym (not_ended l x0)) (opened_sound l x0 w);
}

pub holds_after : (l : Plan) (x0 : Machine) (moves : List Move) → Suits l → length x0.hart.regs ≡ 32 → IsRun l (start l x0) moves →
    HoldsAfter l x0 (run l (start l x0) moves)
holds_after l x0 moves acc w r = held_after l x0 (start l x0) moves acc r (started l x0 w)
