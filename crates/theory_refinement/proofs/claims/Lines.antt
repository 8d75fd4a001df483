-- The retirement lines of a run are those of the sequential machine.
use Rattle.std.proofs.Common.{◌≡◌, ℕ, zero, suc, ◌+◌, ◌-◌, ◌≤◌, List, [], ◌∷◌, ◌++◌, Option, Some, None, refl, sym, ap, subst, ◌∙◌, arith, length, append_assoc, append-nil, ◌⊎◌, inl, inr}
use Rattle.cf_bind.specs.declared.moves.Move.{Move}
use Rattle.cf_bind.specs.declared.moves.Move.TheVariants.{Access, Climb, Emit, Execute, Exit, Fall, Issue, Launch, Leave, Meet, Recover, Send, Serve, Slide}
use Rattle.cf_bind.specs.declared.passenger.End.{End}
use Rattle.cf_layout.specs.Layout.{Plan}
use Rattle.theory_refinement.proofs.moves.Leave.{Left, leave_kept}
use Rattle.theory_refinement.proofs.claims.Runs.{Counts, access_counts, climb_counts, emit_counts, execute_counts, exit_counts, fall_counts, going, issue_counts, kept, launch_counts, meet_counts, opened_retired, recover_counts, send_counts, serve_counts, slide_counts, started}
use Rattle.theory_refinement.proofs.invariant.Invariant.{HoldsAfter, HoldsAt, IsOver, Sound}
use Rattle.theory_refinement.proofs.invariant.Suited.{Suits}
use Rattle.cf_semantics.specs.moves.Bars.{bar}
use Rattle.cf_semantics.specs.moves.Instructions.{Goes, step_here}
use Rattle.cf_semantics.specs.state.Layouts.{isa_of}
use Rattle.cf_semantics.specs.runs.Lines.{Line, lines, lines_at, retires, sequence}
use Rattle.cf_semantics.specs.moves.Moves.{next}
use Rattle.cf_semantics.specs.state.Options.{on}
use Rattle.cf_semantics.specs.runs.Runs.{IsRun, opened, run, start}
use Rattle.cf_semantics.specs.state.State.{Moment, State}
use Rattle.rv_inst.specs.declared.isa.Isa.{Isa}
use Rattle.rv_machine.specs.After.{after}
use Rattle.rv_machine.specs.Machine.{Machine}
use Rattle.cf_semantics.specs.claims.Refines.{gained}

-- one move adds its lines
quiet : (isa : Isa) (x0 : Machine) (s t : State) → Counts s t → sequence isa x0 (gained x0 t) ≡ sequence isa x0 (gained x0 s) ++ []
quiet isa x0 s t c = ap (λ n. sequence isa x0 (n - x0.hart.retired)) c.retired ∙ sym (append-nil (sequence isa x0 (gained x0 s)))

left : (l : Plan) (x0 : Machine) (s t : State) (rest out : List ℕ) (x : Machine) → x0.hart.retired ≤ s.retired → after (isa_of l) x0 (gained x0 s) ≡ Some x →
    Left l s t rest out x → sequence (isa_of l) x0 (gained x0 t) ≡ sequence (isa_of l) x0 (gained x0 s) ++ retires l s Leave
unfolding sequence
left l x0 s t rest out x b a h = go h.how
  where
    seq : ℕ → List Line
    seq n = sequence (isa_of l) x0 n

    stay : t.retired ≡ s.retired → retires l s Leave ≡ [] → seq (gained x0 t) ≡ seq (gained x0 s) ++ retires l s Leave
    stay e n = ap (λ n. seq (n - x0.hart.retired)) e ∙ sym (ap (λ (z : List Line). seq (gained x0 s) ++ z) n ∙ append-nil (seq (gained x0 s)))

    go : ((t.ending ≡ s.ending) × (t.retired ≡ s.retired) × (retires l s Leave ≡ []) × Sound l t rest out x)
        ⊎ (((y : Machine) × (step_here (isa_of l) x ≡ Goes y) × (t.ending ≡ s.ending) × (t.retired ≡ suc s.retired)
        × (retires l s Leave ≡ lines_at (isa_of l) x) × Sound l t rest out y) ⊎ ((e : End) × (t.ending ≡ Some e) × (t.retired ≡ s.retired)
        × (retires l s Leave ≡ []) × IsOver l t rest out x e)) → seq (gained x0 t) ≡ seq (gained x0 s) ++ retires l s Leave
    go (inl q) = stay q.1 q.2
    go (inr (inl q)) =
        let more : gained x0 t ≡ suc (gained x0 s) = omega (arith, q.3) in
        ap seq more ∙ ap (λ (o : Option Machine). seq (gained x0 s) ++ on o [] (lines_at (isa_of l))) a
        ∙ sym (ap (λ (z : List Line). seq (gained x0 s) ++ z) q.4)
    go (inr (inr q)) = stay q.2 q.3

pub gained_is : (l : Plan) (x0 : Machine) (m : Moment) (h : HoldsAfter l x0 m) → gained x0 m.state ≡ h.gained
gained_is l x0 m h = let c = h.count in omega (arith, c)

one : (l : Plan) (x0 : Machine) (m : Moment) (mv : Move) → bar l m.state mv ≡ None → HoldsAfter l x0 m →
    sequence (isa_of l) x0 (gained x0 (next l m mv).state) ≡ sequence (isa_of l) x0 (gained x0 m.state) ++ retires l m.state mv
unfolding next
one l x0 m mv e h = go mv e (subst (HoldsAt l m.state m.rest m.output h.machine) (going l m.state mv e) h.stage)
  where
    s : State
    s = m.state

    isa : Isa
    isa = isa_of l

    go : (mv : Move) → bar l m.state mv ≡ None → Sound l m.state m.rest m.output h.machine →
        sequence (isa_of l) x0 (gained x0 (next l m mv).state) ≡ sequence (isa_of l) x0 (gained x0 m.state) ++ retires l m.state mv
    go (Issue g) e k = quiet isa x0 s _ (issue_counts l s g)
    go Emit e k = quiet isa x0 s _ (emit_counts l s)
    go (Climb i) e k = quiet isa x0 s _ (climb_counts l s i)
    go (Fall i) e k = quiet isa x0 s _ (fall_counts l s i)
    go (Meet i) e k = quiet isa x0 s _ (meet_counts l s i)
    go (Execute i) e k = quiet isa x0 s _ (execute_counts l s i)
    go (Send i) e k = quiet isa x0 s _ (send_counts l s i)
    go (Launch i) e k = quiet isa x0 s _ (launch_counts l s i)
    go (Slide j c) e k = quiet isa x0 s _ (slide_counts l s j c)
    go Access e k = quiet isa x0 s _ (access_counts l s)
    go (Recover i) e k = quiet isa x0 s _ (recover_counts l s i)
    go Leave e k = left l x0 s _ m.rest m.output h.machine (let c = h.count in omega (arith, c)) (ap (after isa x0) (gained_is l x0 m h) ∙ h.after)
        (leave_kept l s h.machine e k)
    go Exit e k = quiet isa x0 s _ (exit_counts l s)
    go Serve e k = quiet isa x0 s _ (serve_counts l m)

pub lines_after : (l : Plan) (x0 : Machine) (m : Moment) (moves : List Move) → Suits l → IsRun l m moves → HoldsAfter l x0 m →
    sequence (isa_of l) x0 (gained x0 (run l m moves).state) ≡ sequence (isa_of l) x0 (gained x0 m.state) ++ lines l m moves
unfolding IsRun run lines
lines_after l x0 m [] acc r h = sym (append-nil (sequence (isa_of l) x0 (gained x0 m.state)))
lines_after l x0 m (mv ∷ moves) acc r h =
    lines_after l x0 (next l m mv) moves acc r.1 (kept l x0 m mv acc r.0 h)
    ∙ ap (λ (z : List Line). z ++ lines l (next l m mv) moves) (one l x0 m mv r.0 h)
    ∙ append_assoc (sequence (isa_of l) x0 (gained x0 m.state)) (retires l m.state mv) (lines l (next l m mv) moves)

none_yet : (l : Plan) (x0 : Machine) → sequence (isa_of l) x0 (gained x0 (start l x0).state) ≡ []
none_yet l x0 = ap (sequence (isa_of l) x0) (zero_gained (opened_retired l x0)) ∙ unfold sequence in refl
  where
    zero_gained : (opened l x0).retired ≡ x0.hart.retired → gained x0 (start l x0).state ≡ 0
    zero_gained e = omega (arith, e)

pub lines_hold : (l : Plan) (x0 : Machine) (moves : List Move) → Suits l → length x0.hart.regs ≡ 32 → IsRun l (start l x0) moves →
    lines l (start l x0) moves ≡ sequence (isa_of l) x0 (gained x0 (run l (start l x0) moves).state)
lines_hold l x0 moves acc w r =
    sym (lines_after l x0 (start l x0) moves acc r (started l x0 w) ∙ ap (λ (z : List Line). z ++ lines l (start l x0) moves) (none_yet l x0))

-- a shorter sequence is a prefix of a longer one
pub prefix : (isa : Isa) (m : Machine) (a d : ℕ) → (more : List Line) × (sequence isa m (d + a) ≡ sequence isa m a ++ more)
unfolding sequence
prefix isa m a zero = let e : 0 + a ≡ a = omega arith in ([], ap (sequence isa m) e ∙ sym (append-nil (sequence isa m a)))
prefix isa m a (suc d) =
    let q = prefix isa m a d in
    let e : suc d + a ≡ suc (d + a) = omega arith in
    let new = on (after isa m (d + a)) [] (lines_at isa) in
    (q.0 ++ new, ap (sequence isa m) e ∙ ap (λ (z : List Line). z ++ new) q.1 ∙ append_assoc (sequence isa m a) q.0 new)
