-- What is kept of decoded instructions stays right until FENCE.I: no other move changes what is fetched. And what is issued
-- by a template is what is issued by decoding again.
use Rattle.std.proofs.Common.{◌≡◌, ◌∙◌, ℕ, List, Option, Some, None, Result, Ok, Err, refl, sym, ap, subst}
use Rattle.std.specs.Prelude.{IfOk}
use Rattle.mem_regions.specs.Memory.{Memory}
use Rattle.mem_regions.specs.Fetching.{fetch_at}
use Rattle.mem_regions.specs.Writing.{memory_with}
use Rattle.mem_regions.proofs.Kept.{fetch_at-break, fetch_at-memory_with}
use Rattle.rv_inst.specs.Ranges.{Fits}
use Rattle.rv_inst.specs.declared.instruction.Instr.{Instr}
use Rattle.rv_inst.specs.declared.isa.Isa.{Isa}
use Rattle.rv_machine.specs.Acts.{Serves}
use Rattle.rv_machine.specs.Call.{second_argument, third_argument}
use Rattle.rv_machine.specs.Streams.{Streams}
use Rattle.rv_machine.specs.declared.outcome.Served.{Served}
use Rattle.rv_machine.specs.declared.outcome.Served.TheVariants as answer
use Rattle.cf_layout.specs.Layout.{Plan}
use Rattle.cf_bind.specs.declared.cell.Op.{Op}
use Rattle.cf_bind.specs.declared.passenger.End.{End}
use Rattle.cf_bind.specs.declared.passenger.Guess.{Guess}
use Rattle.cf_semantics.specs.moves.Bars.{last_op}
use Rattle.cf_semantics.specs.moves.Instructions.{Fetched, fetched, mem_after}
use Rattle.cf_semantics.specs.state.Layouts.{isa_of}
use Rattle.cf_semantics.specs.state.Options.{on}
use Rattle.cf_semantics.specs.state.Passengers.{fresh_undone}
use Rattle.cf_semantics.specs.state.State.{State}
use Rattle.theory_refinement.proofs.instructions.Fetches.{fetched_alike}
use Rattle.theory_refinement.proofs.instructions.Steps.{code_after, fetched_is}
use Rattle.cf_sidings.specs.Sidings.{mem_after_access}
use Rattle.cf_passengers.specs.Facts.{IsFetched, IsInstruction, IsPassenger}
use Rattle.cf_passengers.specs.Issuing.{meant}
use Rattle.cf_passengers.specs.Templates.{AreTemplates, kept_for}
use Rattle.cf_passengers.specs.declared.templates.Template.{Template}
use Rattle.cf_passengers.proofs.Decoded.{decoded-instruction}
use Rattle.cf_passengers.proofs.FromTemplates.{kept-fresh, kept-got, templates-empty, templates-same}
use Rattle.cf_passengers.proofs.Kept.{fresh-passenger}
use Rattle.cf_core.specs.Ends.{issued_at}
use Rattle.cf_core.proofs.moves.KeptCalls.{IsLasting, Keeps, call-keeps}

-- the same words are fetched
same_fetched : (isa : Isa) (m n : Memory) (pc : ℕ) → fetch_at n pc ≡ fetch_at m pc → fetched isa n pc ≡ fetched isa m pc
unfolding fetched
same_fetched isa m n pc e = rw e refl

words_same : (isa : Isa) (m n : Memory) (places : List Template) → ((pc : ℕ) → fetch_at n pc ≡ fetch_at m pc) → AreTemplates isa m places →
    AreTemplates isa n places
words_same isa m n places same = templates-same isa m n places (λ pc. same_fetched isa m n pc (same pc))

-- after bytes were put back
pub templates-written : (isa : Isa) (m : Memory) (places : List Template) (addr len : ℕ) (w : List ℕ) → AreTemplates isa m places →
    AreTemplates isa (memory_with m addr len w) places
templates-written isa m places addr len w = words_same isa m _ places (fetch_at-memory_with m addr len w)

-- after a load or a store
access_same : (isa : Isa) (o : Option Op) (m : Memory) (pc : ℕ) → fetched isa (on o m (λ op. mem_after op.instr op.a op.b m)) pc ≡ fetched isa m pc
access_same isa None m pc = refl
access_same isa (Some op) m pc = fetched_alike isa (mem_after op.instr op.a op.b m) m pc (code_after op.instr op.a op.b m)

pub templates-accessed : (isa : Isa) (m : Memory) (places : List Template) (ops : List (Option Op)) → AreTemplates isa m places →
    AreTemplates isa (mem_after_access ops m) places
unfolding mem_after_access
templates-accessed isa m places ops = templates-same isa m _ places (access_same isa (last_op ops) m)

-- after an environment call
words_lasting : (pc : ℕ) → IsLasting (λ (m : Memory). fetch_at m pc)
words_lasting pc = record { writes = λ m addr len w. fetch_at-memory_with m addr len w pc; break = λ m addr. fetch_at-break m addr pc }

call_words : (regs : List ℕ) (m n : Memory) (before after : Streams) (s : Served) (pc : ℕ) → Serves regs m n before after s → fetch_at n pc ≡ fetch_at m pc
unfolding Serves
call_words regs m n before after (answer.Value v) pc r =
    subst (Keeps (λ (k : Memory). fetch_at k pc) m) r.is (call-keeps (λ (k : Memory). fetch_at k pc) (words_lasting pc) regs m r.rest)
call_words regs m n before after (answer.Exit status) pc r = ap (λ (k : Memory). fetch_at k pc) r.memory
call_words regs m n before after answer.ReadFault pc r =
    ap (λ (k : Memory). fetch_at k pc) r.takes.memory ∙ fetch_at-memory_with m (second_argument regs) (third_argument regs) r.taken pc
call_words regs m n before after answer.WriteFault pc r = ap (λ (k : Memory). fetch_at k pc) r.1

pub templates-served : (isa : Isa) (m n : Memory) (places : List Template) (regs : List ℕ) (before after : Streams) (s : Served) →
    Serves regs m n before after s → AreTemplates isa m places → AreTemplates isa n places
templates-served isa m n places regs before after s r = words_same isa m n places (λ pc. call_words regs m n before after s pc r)

-- what is issued by the template of an address is what is fetched there
pub template-instruction : (isa : Isa) (m : Memory) (pc : ℕ) (t : Template) → Some t ≡ kept_for pc (fetched isa m pc) → IsInstruction isa t.instr
template-instruction isa m pc t e =
    let f = fetched_is isa m pc t.instr (kept-got pc (fetched isa m pc) t e) in
    decoded-instruction isa f.word t.instr f.read

-- an instruction that is fetched is one of the set
pub fetched-instruction : (isa : Isa) (m : Memory) (pc : ℕ) (r : Result Instr End) → meant r ≡ fetched isa m pc → IfOk r (IsInstruction isa)
fetched-instruction isa m pc (Ok i) e =
    let f = fetched_is isa m pc i (sym e) in
    decoded-instruction isa f.word i f.read
fetched-instruction isa m pc (Err end) e = tt

pub fetched-fits : (isa : Isa) (m : Memory) (pc : ℕ) (r : Result Instr End) → meant r ≡ fetched isa m pc → IfOk r (λ i. Fits i)
fetched-fits isa m pc (Ok i) e = (fetched-instruction isa m pc (Ok i) e).fits
fetched-fits isa m pc (Err end) e = tt

pub template-passenger : (plan : Plan) (s : State) (pc : ℕ) (g : Guess) (t : Template) → Some t ≡ kept_for pc (fetched (isa_of plan) s.mem pc) →
    fresh_undone s.cache t.instr pc g ≡ issued_at plan s pc g
template-passenger plan s pc g t e = sym (kept-fresh pc (fetched (isa_of plan) s.mem pc) t s.cache g e)

pub template-facts : (plan : Plan) (s : State) (pc : ℕ) (g : Guess) (t : Template) → Some t ≡ kept_for pc (fetched (isa_of plan) s.mem pc) →
    IsPassenger (isa_of plan) (issued_at plan s pc g)
template-facts plan s pc g t e =
    let f : Fetched = fetched (isa_of plan) s.mem pc in
    let is : IsFetched (isa_of plan) f = subst (IsFetched (isa_of plan)) (sym (kept-got pc f t e)) (template-instruction (isa_of plan) s.mem pc t e) in
    fresh-passenger (isa_of plan) s.cache f pc g is

pub ruleset accessing = (templates-accessed)

pub ruleset putting_back = (templates-written)

pub ruleset forgetting = (templates-empty)

pub ruleset fetching = (fetched-instruction, fetched-fits)
