-- As long as a machine of RV32I goes on, a machine of RV32IM does the same.
use Rattle.std.proofs.Common.{◌≡◌, ℕ, zero, suc, List, [], ◌++◌, Option, Some, None, refl, sym, ap, ◌∙◌}
use Rattle.rv_inst.specs.declared.instruction.Instr.{Instr}
use Rattle.rv_inst.specs.declared.isa.Isa.{Isa}
use Rattle.rv_inst.specs.declared.isa.Isa.TheVariants.{Rv32i, Rv32im}
use Rattle.rv_inst.specs.Decoding.{decoded_as}
use Rattle.rv_inst.specs.Operands.{dest_of}
use Rattle.rv_inst.proofs.Reading.{decoded-encodes}
use Rattle.rv_inst.proofs.Table.{decoded_m_complete}
use Rattle.rv_machine.specs.After.{after, step_from, next_machine}
use Rattle.rv_machine.specs.Machine.{Machine}
use Rattle.rv_machine.specs.Outcome as outcome
use Rattle.rv_machine.specs.Step.{step}
use Rattle.cf_semantics.specs.state.Options.{on}
use Rattle.cf_semantics.specs.moves.Instructions.{Fetched, Got, Bad, fetched, StepResult, Goes, Stops, step_at, step_here, stepped}
use Rattle.cf_semantics.specs.runs.Lines.{Line, lines_at, lines_in, sequence}
use Rattle.theory_refinement.proofs.instructions.OwnLines.{GivesOwn, own_step}
use Rattle.theory_refinement.proofs.instructions.Steps.{IsFetched, fetched_is, bad_step, step_executes, step_is}

-- an instruction of the base set is read by both
read_by_both : (w : ℕ) (i : Instr) → decoded_as Rv32i w ≡ Some i → decoded_as Rv32im w ≡ Some i
unfolding decoded_as
read_by_both w i e = decoded_m_complete w i (decoded-encodes w i e)

fetched_by_both : (x : Machine) (i : Instr) → fetched Rv32i x.hart.mem x.hart.pc ≡ Got i → fetched Rv32im x.hart.mem x.hart.pc ≡ Got i
unfolding fetched
fetched_by_both x i e =
    let q = fetched_is Rv32i x.hart.mem x.hart.pc i (unfold fetched in e) in
    let r = read_by_both q.word i q.read in
    rw (q.aligned, q.found, r) refl

-- the step is then the same
same_step : (x : Machine) (i : Instr) → fetched Rv32i x.hart.mem x.hart.pc ≡ Got i → step_here Rv32i x ≡ step_here Rv32im x
same_step x i e = step_is Rv32i x x.hart.pc i e ∙ sym (step_is Rv32im x x.hart.pc i (fetched_by_both x i e))

-- and its line says the same, read by either set
same_reading : (x : Machine) (i : Instr) (w r : ℕ) (o : outcome.Outcome Machine) → decoded_as Rv32i w ≡ Some i → GivesOwn x w r o →
    lines_in Rv32i o ≡ lines_in Rv32im o
same_reading x i w r (outcome.Next n own) e h =
    let a : decoded_as Rv32i own.word ≡ Some i = ap (decoded_as Rv32i) h.word ∙ e in
    rw (a, read_by_both own.word i a) refl
same_reading x i w r (outcome.Trap cause pc detail) e h = refl
same_reading x i w r (outcome.Exit status) e h = refl

same_line : (x : Machine) (i : Instr) → fetched Rv32i x.hart.mem x.hart.pc ≡ Got i → lines_at Rv32i x ≡ lines_at Rv32im x
unfolding fetched
same_line x i e =
    let q = fetched_is Rv32i x.hart.mem x.hart.pc i (unfold fetched in e) in
    let r : IsFetched Rv32im x.hart.mem x.hart.pc i = record { word = q.word; aligned = q.aligned; found = q.found; read = read_by_both q.word i q.read } in
    same_reading x i q.word (dest_of i) (step Rv32i x) q.read (own_step Rv32i x i q)
    ∙ ap (lines_in Rv32im) (step_executes Rv32i x i q ∙ sym (step_executes Rv32im x i r))

-- the machine after a step that goes on
abbrev onward_of : StepResult → Option Machine
onward_of (Goes m) = Some m
onward_of (Stops e) = None

next_is : (o : outcome.Outcome Machine) → next_machine o ≡ onward_of (stepped o)
next_is (outcome.Next m line) = refl
next_is (outcome.Trap cause pc detail) = refl
next_is (outcome.Exit status) = refl

next_here : (isa : Isa) (x : Machine) → next_machine (step isa x) ≡ onward_of (step_here isa x)
unfolding step_at
next_here isa x = next_is (step isa x)

-- a machine of RV32I that goes on is at an instruction
stands_at : (x y : Machine) → next_machine (step Rv32i x) ≡ Some y → (i : Instr) × (fetched Rv32i x.hart.mem x.hart.pc ≡ Got i)
stands_at x y e = go (fetched Rv32i x.hart.mem x.hart.pc) refl
  where
    go : (q : Fetched) → fetched Rv32i x.hart.mem x.hart.pc ≡ q → (i : Instr) × (fetched Rv32i x.hart.mem x.hart.pc ≡ Got i)
    go (Got i) f = (i, f)
    go (Bad b) f =
        let z : None ≡ Some y = sym (next_here Rv32i x ∙ ap onward_of (bad_step Rv32i x x.hart.pc b f)) ∙ e in
        absurd (cc)

next_alike : (x y : Machine) → next_machine (step Rv32i x) ≡ Some y → next_machine (step Rv32im x) ≡ Some y
next_alike x y e =
    let q = stands_at x y e in
    next_here Rv32im x ∙ ap onward_of (sym (same_step x q.0 q.1)) ∙ sym (next_here Rv32i x) ∙ e

-- the same machine after as many steps, with the same lines
record Alike (m : Machine) (n : ℕ) (x : Machine) : Type 0 where
  count : after Rv32im m n ≡ Some x
  lines : sequence Rv32i m n ≡ sequence Rv32im m n

alike : (m : Machine) (n : ℕ) (x : Machine) → after Rv32i m n ≡ Some x → Alike m n x
unfolding after sequence
alike m zero x e = record { count = e; lines = refl }
alike m (suc n) x e = go (after Rv32i m n) refl e (alike m n)
  where
    go : (o : Option Machine) → after Rv32i m n ≡ o → step_from Rv32i o ≡ Some x → ((y : Machine) → after Rv32i m n ≡ Some y → Alike m n y) → Alike m (suc n) x
    go None f h r = absurd (cc)
    go (Some y) f h r =
        let k = r y f in
        let q = stands_at y x h in
        let added : on (after Rv32i m n) [] (lines_at Rv32i) ≡ on (after Rv32im m n) [] (lines_at Rv32im) =
        ap (λ (o : Option Machine). on o [] (lines_at Rv32i)) f
        ∙ same_line y q.0 q.1
        ∙ sym (ap (λ (o : Option Machine). on o [] (lines_at Rv32im)) k.count) in
        record {
          count = ap (step_from Rv32im) k.count ∙ next_alike y x h;
          lines = ap (λ (l : List Line). l ++ on (after Rv32i m n) [] (lines_at Rv32i)) k.lines ∙ ap (λ (l : List Line). sequence Rv32im m n ++ l) added;
        }

-- the lines of two machines that start alike are those of one
pub one_sequence : (isa other : Isa) (m : Machine) (a b : ℕ) (x y : Machine) → after isa m a ≡ Some x → after other m b ≡ Some y →
    (one : Isa) × (sequence isa m a ≡ sequence one m a) × (sequence other m b ≡ sequence one m b)
one_sequence Rv32i Rv32i m a b x y e f = (Rv32i, refl, refl)
one_sequence Rv32im Rv32im m a b x y e f = (Rv32im, refl, refl)
one_sequence Rv32i Rv32im m a b x y e f = (Rv32im, (alike m a x e).lines, refl)
one_sequence Rv32im Rv32i m a b x y e f = (Rv32im, refl, (alike m b y f).lines)
