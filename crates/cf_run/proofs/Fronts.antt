-- If the output failed, what was written is a prefix of what the sequential machine writes by its next step.
use Rattle.std.proofs.Common.{◌≡◌, ℕ, zero, suc, ◌+◌, List, [], ◌∷◌, ◌++◌, Option, Some, None, true, false, refl, sym, ap, subst, ◌∙◌, take, drop, append_assoc, arith}
use Rattle.std.specs.Prelude.{IsTrue}
use Rattle.std.proofs.lemmas.List.{take-append-drop}
use Rattle.mem_regions.specs.Memory.{Memory}
use Rattle.mem_regions.specs.Ranges.{range_of}
use Rattle.rv_inst.specs.declared.isa.Isa.{Isa}
use Rattle.rv_inst.specs.declared.instruction.Instr.{Instr}
use Rattle.rv_inst.specs.declared.instruction.Instr.TheVariants.{Ecall}
use Rattle.rv_machine.specs.After.{after}
use Rattle.rv_machine.specs.Call.{CallAnswer, call, write, asks_output, second_argument, third_argument}
use Rattle.rv_machine.specs.Call as called
use Rattle.rv_machine.specs.Machine.{Machine}
use Rattle.cf_layout.specs.Layout.{Plan}
use Rattle.cf_layout.specs.Accepted.{IsAccepted}
use Rattle.cf_bind.specs.declared.cell.Cell.{Cell}
use Rattle.cf_bind.specs.declared.moves.Move.TheVariants.{Serve}
use Rattle.cf_bind.specs.declared.passenger.Passenger.{Passenger}
use Rattle.cf_semantics.specs.claims.Ahead.{served_count, has_served, one}
use Rattle.cf_semantics.specs.moves.Bars.{bar}
use Rattle.cf_semantics.specs.moves.Instructions.{is_serial, serve_of}
use Rattle.cf_semantics.specs.state.Layouts.{isa_of}
use Rattle.cf_semantics.specs.moves.Moves.{answered, next, served, with_passenger}
use Rattle.cf_semantics.specs.state.Options.{on, Where}
use Rattle.cf_semantics.specs.state.Passengers.{instruction, kind}
use Rattle.cf_semantics.specs.claims.Refines.{Spoke, gained}
use Rattle.cf_semantics.specs.state.State.{Moment, cell_at, put_cell}
use Rattle.theory_refinement.proofs.invariant.Invariant.{HoldsAfter, HoldsAt, Sound}
use Rattle.theory_refinement.proofs.invariant.Sure as sure
use Rattle.theory_refinement.proofs.layouts.Accepted.{accepted_suits}
use Rattle.theory_refinement.proofs.moves.Rows.{bar_row}
use Rattle.theory_refinement.proofs.claims.Output.{output_ahead}
use Rattle.theory_refinement.proofs.claims.Runs.{going, kept, serve_counts}
use Rattle.theory_refinement.proofs.moves.Serve.{Serves, Scene, scene, serve_ready, next_serve}
use Rattle.theory_confluence.proofs.weight.Bound.{sound_at}
use Rattle.theory_confluence.proofs.drains.Rested.{after_gained}
use Rattle.cf_stages.specs.Changes.{passenger_at}
use Rattle.cf_run.specs.Headline.{IsFrontAfter}

-- a write that passes its tests adds the bytes of its buffer to the output
asked_bytes : (regs : List ℕ) (mem : Memory) (rest bytes : List ℕ) → IsTrue (asks_output regs mem) →
    range_of mem (second_argument regs) (third_argument regs) ≡ Some bytes
    → call regs mem rest ≡ called.Value (record { value = third_argument regs; mem = mem; rest = rest; output = bytes })
unfolding asks_output call write
asked_bytes regs mem rest bytes asks is = grind arith

serve_ecall : (i : Instr) (regs : List ℕ) (mem : Memory) (rest : List ℕ) → i ≡ Ecall → serve_of i regs mem rest ≡ call regs mem rest
unfolding serve_of
serve_ecall i regs mem rest e = rw e refl

-- a changed stage holds its new cell
put_there : (cells : List Cell) (n : ℕ) (c d : Cell) → cell_at cells n ≡ Some c → cell_at (put_cell cells n d) n ≡ Some d
put_there cells zero c d e = absurd (cc)
put_there [] (suc zero) c d e = absurd (cc)
put_there (first ∷ cells) (suc zero) c d e = refl
put_there [] (suc (suc n)) c d e = absurd (cc)
put_there (first ∷ cells) (suc (suc n)) c d e = put_there cells (suc n) c d e

-- an answered call was served
has_answered : (p : Passenger) (v : ℕ) → p.dead ≡ false → is_serial (kind p) ≡ true → p.ending ≡ None → one (has_served (answered p v)) ≡ 1
has_answered p v d k e = grind arith

count_there : (cells : List Cell) (n : ℕ) (c : Cell) (p q : Passenger) → cell_at cells n ≡ Some c → one (has_served q) ≡ 1 →
    on (cell_at (put_cell cells n (with_passenger c q)) n) 0 (λ c. on c.passenger 0 (λ p. one (has_served p))) ≡ 1
count_there cells n c p q e k = rw (put_there cells n c (with_passenger c q) e, k) refl

-- the decoded instruction of the highest stage is that of the Passenger there
calls_there : (cells : List Cell) (n : ℕ) (c : Cell) (p : Passenger) → cell_at cells n ≡ Some c → c.passenger ≡ Some p →
    Where (passenger_at cells n) ⊥ (λ q. instruction q ≡ Ecall) → instruction p ≡ Ecall
calls_there cells n c p e f h =
    let is : passenger_at cells n ≡ Some p = rw e f in
    let P : Option Passenger → Type 0 = λ o. Where o ⊥ (λ q. instruction q ≡ Ecall) in
    subst P is h

-- the outcome of serving a write
record Wrote (plan : Plan) (m : Moment) (bytes : List ℕ) : Type 0 where
  output : (next plan m Serve).output ≡ m.output ++ bytes
  count : served_count plan (next plan m Serve).state ≡ 1

wrote : (plan : Plan) (m : Moment) (bytes : List ℕ) (r : Serves plan m.state) → r.who.ending ≡ None →
    Where (passenger_at m.state.cells plan.stages) ⊥ (λ q. instruction q ≡ Ecall)
    → IsTrue (asks_output m.state.regs m.state.mem) → range_of m.state.mem (second_argument m.state.regs) (third_argument m.state.regs) ≡ Some bytes →
    Wrote plan m bytes
wrote plan m bytes r unended calls asks is =
    let ecall : instruction r.who ≡ Ecall = calls_there m.state.cells plan.stages r.here r.who r.at_here r.sits calls in
    let a : CallAnswer = record { value = third_argument m.state.regs; mem = m.state.mem; rest = m.rest; output = bytes } in
    let answer : serve_of (instruction r.who) m.state.regs m.state.mem m.rest ≡ called.Value a =
    serve_ecall (instruction r.who) m.state.regs m.state.mem m.rest ecall ∙ asked_bytes m.state.regs m.state.mem m.rest bytes asks is in
    let to : next plan m Serve ≡ served m plan.stages r.here r.who (called.Value a) = next_serve plan m r.here r.who (called.Value a) r.at_here r.sits answer in
    record {
      output = ap (λ (q : Moment). q.output) to;
      count = ap (λ (q : Moment). served_count plan q.state) to ∙ count_there m.state.cells plan.stages r.here r.who (answered r.who a.value) r.at_here
          (has_answered r.who a.value r.live (ap is_serial r.serial) unended);
    }

-- the instruction that is to be served has not ended
unended_here : (plan : Plan) (m : Moment) (x : Machine) (r : Serves plan m.state) → Sound plan m.state m.rest m.output x → r.who.ending ≡ None
unfolding sure.SureAt
unended_here plan m x r h =
    let c : Scene plan m.state m.rest m.output x r = scene plan m.state x r h in
    c.certain.0.unended r.undone

-- a prefix of more bytes
front_of : (isa : Isa) (x : Machine) (n : ℕ) (output bytes : List ℕ) (k : ℕ) (at : Machine) → after isa x n ≡ Some at → at.output ≡ output ++ bytes →
    IsFrontAfter isa x n (output ++ take k bytes)
front_of isa x n output bytes k at count is = record {
  at = at;
  count = count;
  more = drop k bytes;
  front = is ∙ ap (λ (z : List ℕ). output ++ z) (sym (take-append-drop k bytes)) ∙ sym (append_assoc output (take k bytes) (drop k bytes));
}

-- what was written if the output failed a write at a moment where the invariant holds: the output of the moment, and
-- any prefix of the buffer's bytes
pub front-after : (plan : Plan) (x : Machine) (m : Moment) (bytes : List ℕ) (k : ℕ) → IsAccepted plan → HoldsAfter plan x m → bar plan m.state Serve ≡ None →
    Where (passenger_at m.state.cells plan.stages) ⊥ (λ q. instruction q ≡ Ecall)
    → IsTrue (asks_output m.state.regs m.state.mem) → range_of m.state.mem (second_argument m.state.regs) (third_argument m.state.regs) ≡ Some bytes
    → IsFrontAfter (isa_of plan) x (gained x m.state + 1) (m.output ++ take k bytes)
front-after plan x m bytes k accepted h free calls asks buffer =
    let r : Serves plan m.state = serve_ready plan m.state (bar_row plan m.state Serve free) in
    let w : Wrote plan m bytes = wrote plan m bytes r (unended_here plan m h.machine r (sound_at plan x m Serve free h)) calls asks buffer in
    let t : Moment = next plan m Serve in
    let later : HoldsAfter plan x t = kept plan x m Serve (accepted_suits plan accepted) free h in
    let unended : t.state.ending ≡ None = (serve_counts plan m).ending ∙ going plan m.state Serve free in
    let sound : Sound plan t.state t.rest t.output later.machine = subst (HoldsAt plan t.state t.rest t.output later.machine) unended later.stage in
    let spoke : Spoke (isa_of plan) x (gained x t.state + served_count plan t.state) t = output_ahead plan x t.state later.machine
    (after_gained plan x t later) sound in
    let number : gained x t.state + served_count plan t.state ≡ gained x m.state + 1 = omega (arith, (serve_counts plan m).retired, w.count) in
    front_of (isa_of plan) x (gained x m.state + 1) m.output bytes k spoke.at (ap (after (isa_of plan) x) (sym number) ∙ spoke.count) (sym spoke.output
    ∙ w.output)
