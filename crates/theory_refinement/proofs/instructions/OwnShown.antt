-- The line that is read from a step of the sequential machine is that of the step, and no other.
use Rattle.std.proofs.Common.{◌≡◌, ℕ, ◌<◌, ◌^◌, Option, Some, Bool, true, false, refl, sym, ap, subst, ◌∙◌, arith}
use Rattle.std.specs.Prelude.{◌==◌, if◌then◌else◌}
use Rattle.std.proofs.lemmas.Bool.Decides.{nat_tests}
use Rattle.rv_inst.specs.declared.instruction.Instr.{Instr}
use Rattle.rv_inst.specs.declared.instruction.Instr.TheVariants.{Ebreak}
use Rattle.rv_inst.specs.declared.isa.Isa.{Isa}
use Rattle.rv_inst.specs.declared.isa.Isa.TheVariants.{Rv32i, Rv32im}
use Rattle.rv_inst.specs.Decoding.{decoded_as}
use Rattle.rv_inst.specs.Encoding.{Encodes}
use Rattle.rv_inst.specs.Operands.{dest_of}
use Rattle.rv_inst.proofs.Reading.{decoded-encodes, decoded_m-encodes}
use Rattle.rv_inst.proofs.OneWord.{Encodes-inj}
use Rattle.rv_machine.specs.declared.outcome.Retired.{Retired}
use Rattle.rv_machine.specs.Machine.{Machine}
use Rattle.rv_machine.specs.Outcome as outcome
use Rattle.rv_machine.specs.Step.{step}
use Rattle.cf_semantics.specs.state.Options.{on}
use Rattle.cf_semantics.specs.moves.Instructions.{Bad, Fetched, Got, Stops, fetched, step_at, stepped}
use Rattle.cf_semantics.specs.state.Passengers.{value_in}
use Rattle.cf_semantics.specs.runs.Lines.{line_read, named}
use Rattle.cf_semantics.specs.moves.Events.{Shows, register_in}
use Rattle.theory_refinement.proofs.instructions.OwnLines.{GivesOwn, IsOwn, own_step}
use Rattle.theory_refinement.proofs.instructions.Steps.{bad_step, fetched_is}

read_encodes : (isa : Isa) (w : ℕ) (i : Instr) → decoded_as isa w ≡ Some i → Encodes w i
unfolding decoded_as
read_encodes Rv32i w i e = decoded-encodes w i e
read_encodes Rv32im w i e = decoded_m-encodes w i e

register_named : (r v : ℕ) → r ≡ register_in (named r v)
register_named r v = by (r == 0) refl
  where
    by : (b : Bool) → (r == 0) ≡ b → r ≡ register_in (named r v)
    by true e = rw e (grind (arith, nat_tests))
    by false e = rw e refl

value_named : (r v got : ℕ) → v ≡ (if r == 0 then 0 else got) → v ≡ value_in (named r v)
value_named r v got h = by (r == 0) refl
  where
    by : (b : Bool) → (r == 0) ≡ b → v ≡ value_in (named r v)
    by true e = rw e (rw e at h)
    by false e = rw e refl

-- a line that a step gives, with the word that was fetched
own_is : (isa : Isa) (x n : Machine) (own : Retired) → step isa x ≡ outcome.Next n own → (i : Instr) × (word : ℕ) × (decoded_as isa word ≡ Some i)
    × IsOwn x word (dest_of i) n own
unfolding step_at
own_is isa x n own e = by (fetched isa x.hart.mem x.hart.pc) refl
  where
    by : (q : Fetched) → fetched isa x.hart.mem x.hart.pc ≡ q → (i : Instr) × (word : ℕ) × (decoded_as isa word ≡ Some i) × IsOwn x word (dest_of i) n own
    by (Got i) f =
        let h = fetched_is isa x.hart.mem x.hart.pc i f in
        (i, h.word, h.read, subst (GivesOwn x h.word (dest_of i)) e (own_step isa x i h))
    by (Bad b) f = absurd (let z : stepped (outcome.Next n own) ≡ Stops b = ap stepped (sym e) ∙ bad_step isa x x.hart.pc b f in cc)

pub own_shown : (isa : Isa) (x n : Machine) (own : Retired) → step isa x ≡ outcome.Next n own → own.word < 2 ^ 32 → Shows (line_read isa own) own
own_shown isa x n own e b =
    let q = own_is isa x n own e in
    let d : decoded_as isa own.word ≡ Some q.0 = ap (decoded_as isa) q.3.word ∙ q.2 in
    record {
      pc = refl;
      word = subst (λ (o : Option Instr). Encodes own.word (on o Ebreak (λ i. i))) (sym d) (read_encodes isa own.word q.0 d);
      is_word = b;
      register = register_named own.reg own.value;
      value = value_named own.reg own.value q.3.got (q.3.value ∙ ap (λ (r : ℕ). if r == 0 then 0 else q.3.got) (sym q.3.reg));
    }

same_retired : (a b : Retired) → a.pc ≡ b.pc → a.word ≡ b.word → a.reg ≡ b.reg → a.value ≡ b.value → a ≡ b
same_retired a b e f g h = by e f g h
  where
    made : ℕ → ℕ → ℕ → ℕ → Retired
    made pc word reg value = record { pc = pc; word = word; reg = reg; value = value }

    by : {p q v w r s x y : ℕ} → p ≡ q → v ≡ w → r ≡ s → x ≡ y → made p v r x ≡ made q w s y
    by e f g h = rw (e, f, g, h) refl

pub shown_own : (isa : Isa) (x n : Machine) (own shown : Retired) → step isa x ≡ outcome.Next n own → own.word < 2 ^ 32 → Shows (line_read isa own) shown →
    shown ≡ own
shown_own isa x n own shown e b s =
    let o = own_shown isa x n own e b in
    same_retired shown own s.pc (Encodes-inj shown.word own.word (line_read isa own).what s.is_word b s.word o.word) (s.register ∙ sym o.register) (s.value
    ∙ sym o.value)

-- both
pub own_alone : (isa : Isa) (x n : Machine) (own shown : Retired) → step isa x ≡ outcome.Next n own → own.word < 2 ^ 32 →
    Shows (line_read isa own) own × (Shows (line_read isa own) shown → shown ≡ own)
own_alone isa x n own shown e b = (own_shown isa x n own e b, shown_own isa x n own shown e b)
