-- Where a run has arrived over an input whose remaining bytes are unknown: at a machine to which as many steps lead as
-- instructions have retired, each of which finds some input.
use Rattle.std.proofs.Common.{◌≡◌, ℕ, ◌+◌, List, [], ◌∷◌, ◌++◌, Option, Some, None, refl, subst, length}
use Rattle.run_options.specs.declared.reporting.Reporting.{Reporting}
use Rattle.run_options.specs.Reportings as show
use Rattle.rv_machine.specs.Hart.{Hart}
use Rattle.rv_machine.specs.Machine.{Machine}
use Rattle.rv_machine.specs.Streams.{Streams, Becomes, Leaves}
use Rattle.cf_layout.specs.Accepted.{IsAccepted}
use Rattle.cf_layout.specs.Layout.{Plan}
use Rattle.cf_bind.specs.declared.moves.Move.{Move}
use Rattle.cf_semantics.specs.runs.Lines.{Line, retires}
use Rattle.cf_semantics.specs.moves.Moves.{next}
use Rattle.cf_semantics.specs.runs.Runs.{start as start_on}
use Rattle.cf_semantics.specs.state.State.{Moment}
use Rattle.theory_refinement.proofs.claims.Runs.{opened_retired}
use Rattle.theory_unknown_input.specs.UnknownInput.{finding, LeadsTo}
use Rattle.theory_unknown_input.proofs.Invariant.{HoldsAnew}
use Rattle.theory_unknown_input.proofs.Theorems.{holds_anew}
use Rattle.cf_core.specs.Processors.{opened_processor}
use Rattle.cf_run.specs.Going.{moment_of, Leads}
use Rattle.cf_run.specs.Headline.{machine_on, AreTexts, IsRightOverUnknownInput, IsRightOnTheWay}
use Rattle.cf_run.specs.Made.{Made, moves_of, all_shown, shown}
use Rattle.cf_run.specs.Moving.{RunPlace}
use Rattle.cf_run.specs.Reaching.{Reaches}
use Rattle.cf_run.proofs.Arrived.{Arrives, begins}
use Rattle.cf_run.proofs.Retirements.{made-texts}
use Rattle.cf_run.proofs.Throughout.{right-anew, on-the-way}

-- the moves lead to the moment over such an input, with lines whose texts are shown
pub record LeadsAnew (plan : Plan) (m : Moment) (k : ℕ) (trace : List Made) (last : Moment) : Type 0 where
  pub written : List Line
  pub leads : LeadsTo plan m (moves_of trace) last written
  pub texts : AreTexts (m.state.retired + 1) written (all_shown show.retired plan k trace)

-- moves that lead to a moment over it have such lines
pub leads-anew : (plan : Plan) (limit : ℕ) (m : Moment) (k : ℕ) (trace : List Made) (last : Moment) → Leads plan limit None m trace last →
    LeadsAnew plan m k trace last
unfolding Leads LeadsTo all_shown shown
leads-anew plan limit m k [] last h = record { written = []; leads = (h, refl); texts = refl }
leads-anew plan limit m k (made ∷ trace) last (rest, finds, is, h) =
    let t : Moment = next plan (finding rest m) made.move in
    let later : LeadsAnew plan t (k + 1) trace last = leads-anew plan limit t (k + 1) trace last h in
    record {
      written = retires plan m.state made.move ++ later.written;
      leads = (rest, later.written, is.allowed, later.leads, refl);
      texts = made-texts plan limit (finding rest m) made later.written (all_shown show.retired plan (k + 1) trace) is later.texts;
    }

-- if the remaining bytes of an input are unknown, they may be any
untold-input : (told after : Option (List ℕ)) (rest : List ℕ) → told ≡ None → Becomes told after rest
untold-input None after rest none = tt
untold-input (Some told) after rest none = absurd (cc)

-- so the same was left with any rest
pub left-untold : (before after : Streams) (found rest output : List ℕ) → before.input ≡ None → Leaves before after found output →
    Leaves before after rest output
left-untold before after found rest output none h = record { input = untold-input before.input after.input rest none; output = h.output }

-- where a run has arrived over an input whose remaining bytes are unknown
pub record ArrivesAnew (shows : Reporting) (hart : Hart) (moves : List Move) (begin now : RunPlace) : Type 0 where
  pub at : Machine
  pub written : List Line
  pub last : Moment
  pub right : IsRightOverUnknownInput begin.core.plan hart moves at written last
  pub throughout : (made more : List Move) → moves ≡ made ++ more → IsRightOnTheWay begin.core.plan hart made more last written
  pub arrives : Arrives shows at last (hart.retired + 1) written begin now

-- a run has arrived there by the moves that it made
pub arrives-anew : (limit : ℕ) (shows : Reporting) (hart : Hart) (begin now : RunPlace) → IsAccepted begin.core.plan → length hart.regs ≡ 32 →
    begin.core ≡ opened_processor begin.core.plan hart → begin.streams.input ≡ None → (h : Reaches limit shows begin now)
    → ArrivesAnew shows hart (moves_of h.trace) begin now
arrives-anew limit shows hart begin now accepted wide opens none h =
    let plan : Plan = begin.core.plan in
    let x : Machine = machine_on hart h.rest in
    let untold : Leads plan limit None (moment_of begin.core h.rest) h.trace h.last = subst
    (λ (o : Option (List ℕ)). Leads plan limit o (moment_of begin.core h.rest) h.trace h.last) none h.leads in
    let there : Leads plan limit None (start_on plan x) h.trace h.last = subst (λ (m : Moment). Leads plan limit None m h.trace h.last)
    (begins begin.core hart h.rest h.rest opens refl) untold in
    let leads : LeadsAnew plan (start_on plan x) 1 h.trace h.last = leads-anew plan limit (start_on plan x) 1 h.trace h.last there in
    let holds : HoldsAnew plan x leads.written h.last = holds_anew plan x (moves_of h.trace) h.last leads.written accepted wide leads.leads in
    record {
      at = holds.at;
      written = leads.written;
      last = finding holds.rest h.last;
      right = right-anew plan hart h.rest (moves_of h.trace) h.last leads.written accepted leads.leads holds;
      throughout = λ made more parts. on-the-way plan hart h.rest holds.rest made more h.last leads.written accepted wide
          (subst (λ (moves : List Move). LeadsTo plan (start_on plan x) moves h.last leads.written) parts leads.leads);
      arrives = record {
        kept = record { held = holds.held; tidy = holds.tidy };
        core = h.core;
        streams = left-untold begin.streams now.streams h.last.rest holds.rest h.last.output none h.streams;
        trace = h.trace;
        texts = subst (λ (n : ℕ). AreTexts (n + 1) leads.written (all_shown show.retired plan 1 h.trace)) (opened_retired plan x) leads.texts;
        report = h.report;
      };
    }
