-- Two maximal runs without Issue from the same moment end alike; and the cached values of a drained state are the
-- registers'.
use Rattle.std.proofs.Common.{◌≡◌, ◌+◌, List, [], ◌∷◌, Some, None, Bool, true, false, refl, sym, ap, subst, ◌∙◌}
use Rattle.rv_inst.specs.declared.isa.Isa.{Isa}
use Rattle.rv_machine.specs.Machine.{Machine}
use Rattle.rv_machine.specs.After.{after}
use Rattle.cf_layout.specs.Layout.{Plan}
use Rattle.cf_bind.specs.declared.moves.Move.{Move}
use Rattle.cf_bind.specs.declared.passenger.End.{End}
use Rattle.cf_semantics.specs.moves.Instructions.{Stops, step_here}
use Rattle.cf_semantics.specs.state.State.{State, Moment}
use Rattle.cf_semantics.specs.state.Layouts.{isa_of}
use Rattle.cf_semantics.specs.claims.Refines.{gained}
use Rattle.cf_semantics.specs.claims.Right.{right, way}
use Rattle.cf_semantics.specs.runs.Runs.{IsRun, run, opened}
use Rattle.cf_semantics.specs.state.Drained.{is_drained}
use Rattle.cf_semantics.specs.claims.Determined.{Drains, EndAlike, EndsAs, EndsAt, IsDrainedAt, IsEndedAt, IsSame, KeepsRegisters}
use Rattle.theory_refinement.proofs.invariant.Invariant.{HoldsAfter, HoldsAt, Sound}
use Rattle.theory_refinement.proofs.claims.Level.{empty_column}
use Rattle.theory_refinement.proofs.claims.Runs.{going}
use Rattle.theory_confluence.proofs.drains.Determined.{some_same}
use Rattle.theory_confluence.proofs.drains.Rested.{empty_keeps}

same_through : (s t u : State) → IsSame s u → IsSame t u → IsSame s t
same_through s t u a b = record {
  cells = a.cells ∙ sym b.cells;
  sidings = a.sidings ∙ sym b.sidings;
  lane = a.lane ∙ sym b.lane;
  fetch = a.fetch ∙ sym b.fetch;
  regs = a.regs ∙ sym b.regs;
  mem = a.mem ∙ sym b.mem;
  retired = a.retired ∙ sym b.retired;
  ending = a.ending ∙ sym b.ending;
  failed = a.failed ∙ sym b.failed;
}

drained_alike : (l : Plan) (x : Machine) (t u : Moment) → IsDrainedAt l x t → IsDrainedAt l x u → EndAlike t u
drained_alike l x t u a b =
    let s = same_through t.state u.state (opened l x) a.same b.same in
    record { ending = s.ending; retired = s.retired; regs = s.regs; mem = s.mem; rest = a.rest ∙ sym b.rest; output = a.output ∙ sym b.output; same = λ _. s }

stops_same : (isa : Isa) (x : Machine) (a b : End) → step_here isa x ≡ Stops a → step_here isa x ≡ Stops b → a ≡ b
stops_same isa x a b e f = let z = sym e ∙ f in cc

ended_alike : (l : Plan) (x : Machine) (t u : Moment) → IsEndedAt l x t → IsEndedAt l x u → EndAlike t u
ended_alike l x t u a b = record {
  ending = a.ending ∙ ap Some (stops_same (isa_of l) x a.end b.end a.stops b.stops) ∙ sym b.ending;
  retired = a.retired ∙ sym b.retired;
  regs = a.regs ∙ sym b.regs;
  mem = a.mem ∙ sym b.mem;
  rest = a.rest ∙ sym b.rest;
  output = a.output ∙ sym b.output;
  same = λ e. absurd (none_some a.end (sym e ∙ a.ending));
}
  where
    none_some : (e : End) → None ≡ Some e → ⊥
    none_some e f = cc

ends_alike : (l : Plan) (b : Bool) (x : Machine) (t u : Moment) → EndsAt b l x t → EndsAt b l x u → EndAlike t u
ends_alike l true x t u a b = ended_alike l x t u a b
ends_alike l false x t u a b = drained_alike l x t u a b

pub agree : (l : Plan) (x0 : Machine) (m t u : Moment) → EndsAs l x0 m t → EndsAs l x0 m u → EndAlike t u
agree l x0 m t u a b = ends_alike l (way (isa_of l) m.state a.at).stop a.final t u a.ends (subst
    (λ (y : Machine). EndsAt (way (isa_of l) m.state a.at).stop l y u) (sym final) (subst (λ (z : Bool). EndsAt z l b.final u) (sym stop) b.ends))
  where
    at : a.at ≡ b.at
    at = some_same a.at b.at (sym a.count ∙ b.count)

    stop : (way (isa_of l) m.state a.at).stop ≡ (way (isa_of l) m.state b.at).stop
    stop = ap (λ (y : Machine). (way (isa_of l) m.state y).stop) at

    final : a.final ≡ b.final
    final = some_same a.final b.final (sym a.more ∙ ap (λ (y : Machine). after (isa_of l) x0 (gained x0 m.state + right (isa_of l) m.state y)) at ∙ b.more)

-- once the program has ended no move is allowed
halted : (l : Plan) (m : Moment) (moves : List Move) (e : End) → m.state.ending ≡ Some e → IsRun l m moves → m ≡ run l m moves
unfolding IsRun run
halted l m [] e f r = refl
halted l m (mv ∷ moves) e f r = absurd (let z = sym (going l m.state mv r.0) ∙ f in cc)

alike_self : (m : Moment) (e : End) → m.state.ending ≡ Some e → EndAlike m m
alike_self m e f = record { ending = refl; retired = refl; regs = refl; mem = refl; rest = refl; output = refl; same = λ n. absurd (let z = sym n ∙ f in cc) }

pub halted_alike : (l : Plan) (m t u : Moment) (e : End) → m.state.ending ≡ Some e → Drains l m t → Drains l m u → EndAlike t u
halted_alike l m t u e f a b =
    let p : m ≡ t = halted l m a.moves e f a.allowed ∙ sym a.is in
    let q : m ≡ u = halted l m b.moves e f b.allowed ∙ sym b.is in
    subst (λ (v : Moment). EndAlike v u) p (subst (λ (v : Moment). EndAlike m v) q (alike_self m e f))

-- in a drained state that has not ended, each cached value is its register's
pub kept_true : (l : Plan) (x0 : Machine) (m : Moment) → HoldsAfter l x0 m → m.state.ending ≡ None → is_drained m.state ≡ true → KeepsRegisters m.state
kept_true l x0 m h e d =
    let sound : Sound l m.state m.rest m.output h.machine = subst (HoldsAt l m.state m.rest m.output h.machine) e h.stage in
    empty_keeps l h.machine m sound (empty_column m.state d)
