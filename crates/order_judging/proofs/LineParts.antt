-- Lines are the same if their parts are, and what retires is the machine's next line or another one.
use Rattle.std.proofs.Common.{◌≡◌, ◌∙◌, ℕ, [], ◌∷◌, Option, Some, None, ap, subst}
use Rattle.rv_inst.specs.declared.instruction.Instr.{Instr}
use Rattle.rv_inst.specs.declared.isa.Isa.{Isa}
use Rattle.cf_layout.specs.Layout.{Plan}
use Rattle.cf_bind.specs.declared.binding.Binding.{Binding}
use Rattle.cf_bind.specs.declared.moves.Move.{Move}
use Rattle.cf_bind.specs.declared.passenger.Passenger.{Passenger}
use Rattle.cf_semantics.specs.runs.Lines.{Line, line_of, row}
use Rattle.cf_semantics.specs.state.Options.{on}
use Rattle.cf_semantics.specs.state.State.{State}
use Rattle.order_rules.specs.declared.rule.Rule.{Rule}
use Rattle.order_model.specs.RuleMoves.{retires_without}
use Rattle.order_machine.specs.declared.stepping.NextStep.{NextStep}
use Rattle.order_judging.specs.Judgements.{HasPartsOf, LeavesApart, RetiresApart, lines_without}
use Rattle.order_judging.specs.Places.{next_lines}

pub whole : (l o : Line) → HasPartsOf l o → l ≡ o
whole l o h = ap (λ (n : ℕ). row n l.what l.wrote) h.0 ∙ ap (λ (i : Instr). row o.pc i l.wrote) h.1 ∙ ap (λ (b : Option Binding). row o.pc o.what b) h.2

pub parts : (l o : Line) → l ≡ o → HasPartsOf l o
parts l o e = (ap (λ (k : Line). k.pc) e, ap (λ (k : Line). k.what) e, ap (λ (k : Line). k.wrote) e)

pub one_line : (l o : Line) → l ≡ o → (l ∷ []) ≡ (o ∷ [])
one_line l o e = ap (λ (k : Line). k ∷ []) e

pub line_of_one : (l o : Line) → (l ∷ []) ≡ (o ∷ []) → l ≡ o
line_of_one l o e = cc

pub ruleset lines_of_steps = (one_line, line_of_one)

-- the line of the instruction that leaves
both_ways : (isa : Isa) (next : NextStep) (o : Option Passenger) (r : Option Line) → on o None (λ p. Some (line_of p)) ≡ r →
    (LeavesApart isa next o → RetiresApart (next_lines isa next) (on r [] (λ l. l ∷ [])))
    × (RetiresApart (next_lines isa next) (on r [] (λ l. l ∷ [])) → LeavesApart isa next o)
both_ways isa next o r e = subst (λ (q : Option Line).
    (LeavesApart isa next o → RetiresApart (next_lines isa next) (on q [] (λ l. l ∷ [])))
    × (RetiresApart (next_lines isa next) (on q [] (λ l. l ∷ [])) → LeavesApart isa next o)) e (go o) where
      go : (o : Option Passenger) → (LeavesApart isa next o → RetiresApart (next_lines isa next) (on (on o None (λ p. Some (line_of p))) [] (λ l. l ∷ [])))
          × (RetiresApart (next_lines isa next) (on (on o None (λ p. Some (line_of p))) [] (λ l. l ∷ [])) → LeavesApart isa next o)
      go None = (λ h. h, λ h. h)
      go (Some p) = (λ h. h, λ h. h)

pub retires_leaving : (isa : Isa) (next : NextStep) (o : Option Passenger) (away : Option Rule) (plan : Plan) (s : State) (m : Move) →
    on o None (λ p. Some (line_of p)) ≡ retires_without away plan s m → LeavesApart isa next o →
    RetiresApart (next_lines isa next) (lines_without away plan s m)
retires_leaving isa next o away plan s m e = (both_ways isa next o (retires_without away plan s m) e).0

pub leaves_retiring : (isa : Isa) (next : NextStep) (o : Option Passenger) (away : Option Rule) (plan : Plan) (s : State) (m : Move) →
    on o None (λ p. Some (line_of p)) ≡ retires_without away plan s m → RetiresApart (next_lines isa next) (lines_without away plan s m) →
    LeavesApart isa next o
leaves_retiring isa next o away plan s m e = (both_ways isa next o (retires_without away plan s m) e).1

pub ruleset lines_of_moves = (retires_leaving, leaves_retiring)
