-- Replies are the same if the answers are.
use Rattle.std.proofs.Common.{◌≡◌, ◌∙◌, ℕ, suc, zero, List, [], Bool, true, false, Option, Some, None, drop, refl, sym, ap, subst}
use Rattle.std.specs.Prelude.{◌==◌, if◌then◌else◌, not, min}
use Rattle.mem_regions.specs.Memory.{Memory}
use Rattle.mem_regions.specs.Ranges.{range_of, can_write}
use Rattle.rv_inst.specs.declared.instruction.Instr.{Instr}
use Rattle.rv_machine.specs.Call.{Called, CallAnswer, call, read, read_into, write, write_from, exit, brk, answered_alone, bad_file, bad_address, no_such_call, is_output, is_exit, call_number, first_argument, second_argument, third_argument}
use Rattle.rv_machine.specs.Call as called
use Rattle.rv_machine.specs.Step.{synchronizes}
use Rattle.rv_machine.specs.declared.outcome.Served.{Served}
use Rattle.rv_machine.specs.declared.outcome.Served.TheVariants as served
use Rattle.cf_semantics.specs.moves.Instructions.{serve_of}
use Rattle.mem_changes.specs.Applied.{memory_after}
use Rattle.mem_changes.specs.Differing.{AreChangesOf}
use Rattle.mem_changes.specs.Images.{IsAsLoaded}
use Rattle.mem_changes.specs.MemoryChanges.{MemoryChanges}
use Rattle.mem_changes.proofs.Once.{listed_once}
use Rattle.order_model.specs.ServeEffects.{told}
use Rattle.order_judging.specs.declared.replies.Reply.{Reply}
use Rattle.order_judging.specs.ReplyClaims.{AreSameReplies, HaveSameEffects, IfValue, IsReply}

-- what an answer leaves of the input
abbrev left_of : Called → List ℕ
left_of (called.Value a) = a.rest
left_of (called.Exit status) = []

drop_none : (n : ℕ) → drop n (let l : List ℕ = [] in l) ≡ []
drop_none zero = refl
drop_none (suc n) = refl

read_leaves : (fd addr len : ℕ) (mem : Memory) → left_of (read fd addr len mem []) ≡ []
unfolding read
read_leaves fd addr len mem = go (not (fd == 0)) (len == 0) (not (can_write mem addr len)) where
  go : (a b c : Bool) → left_of
      (if a then answered_alone bad_file mem [] else if b then answered_alone 0 mem [] else if c then answered_alone bad_address mem []
      else read_into addr len mem []) ≡ []
  go true b c = refl
  go false true c = refl
  go false false true = refl
  go false false false = drop_none (min len 0)

write_leaves : (fd addr len : ℕ) (mem : Memory) → left_of (write fd addr len mem []) ≡ []
unfolding write
write_leaves fd addr len mem = go (not (is_output fd)) (len == 0) (range_of mem addr len) where
  go : (a b : Bool) (r : Option (List ℕ)) → left_of (if a then answered_alone bad_file mem [] else if b then answered_alone 0 mem []
      else write_from r len mem []) ≡ []
  go true b r = refl
  go false true r = refl
  go false false None = refl
  go false false (Some bytes) = refl

call_leaves : (regs : List ℕ) (mem : Memory) → left_of (call regs mem []) ≡ []
unfolding call
call_leaves regs mem = go (call_number regs == 63) (call_number regs == 64) (is_exit (call_number regs)) (call_number regs == 214) where
  go : (r w e b : Bool) → left_of
      (if r then read (first_argument regs) (second_argument regs) (third_argument regs) mem [] else
      if w then write (first_argument regs) (second_argument regs) (third_argument regs) mem [] else
      if e then exit (first_argument regs) else if b then brk (first_argument regs) mem [] else answered_alone no_such_call mem []) ≡ []
  go true w e b = read_leaves (first_argument regs) (second_argument regs) (third_argument regs) mem
  go false true e b = write_leaves (first_argument regs) (second_argument regs) (third_argument regs) mem
  go false false true b = refl
  go false false false true = refl
  go false false false false = refl

-- no answer leaves any input if there is none
serve_leaves : (i : Instr) (regs : List ℕ) (mem : Memory) → left_of (serve_of i regs mem []) ≡ []
unfolding serve_of
serve_leaves i regs mem = go (synchronizes i) refl where
  go : (t : Bool) → synchronizes i ≡ t → left_of (serve_of i regs mem []) ≡ []
  go true e = rw e refl
  go false e = rw e (call_leaves regs mem)

abbrev replied : ℕ → Memory → List ℕ → List ℕ → Called
replied value mem rest output = called.Value (record { value = value; mem = mem; rest = rest; output = output })

same_reply : (u v : CallAnswer) → u.value ≡ v.value → u.mem ≡ v.mem → u.rest ≡ v.rest → u.output ≡ v.output → called.Value u ≡ called.Value v
same_reply u v e f g h = ap (λ (n : ℕ). replied n u.mem u.rest u.output) e ∙ ap (λ (m : Memory). replied v.value m u.rest u.output) f
    ∙ ap (λ (l : List ℕ). replied v.value v.mem l u.output) g ∙ ap (λ (l : List ℕ). replied v.value v.mem v.rest l) h

told_value : (m n : ℕ) → served.Value m ≡ served.Value n → m ≡ n
told_value m n e = cc

told_exit : (m n : ℕ) → served.Exit m ≡ served.Exit n → m ≡ n
told_exit m n e = cc

-- the same replies represent the same answer
calls_same : (loaded mem other : Memory) (c d : Called) (a b : Reply) → left_of c ≡ left_of d → IsReply loaded mem c a → IsReply loaded other d b →
    AreSameReplies a b → c ≡ d
calls_same loaded mem other (called.Value u) (called.Value v) a b r h k s =
    let effects : HaveSameEffects a b = subst (λ (t : Served). IfValue t (HaveSameEffects a b)) h.told s.1 in
    same_reply u v (told_value u.value v.value (sym h.told ∙ s.0 ∙ k.told))
    (h.changes.makes ∙ ap (λ (j : MemoryChanges). memory_after j loaded) effects.0 ∙ sym k.changes.makes) r (sym h.output ∙ effects.1 ∙ k.output)
calls_same loaded mem other (called.Value u) (called.Exit status) a b r h k s =
    absurd (let e : served.Value u.value ≡ served.Exit status = sym h.told ∙ s.0 ∙ k.told in cc)
calls_same loaded mem other (called.Exit status) (called.Value v) a b r h k s =
    absurd (let e : served.Exit status ≡ served.Value v.value = sym h.told ∙ s.0 ∙ k.told in cc)
calls_same loaded mem other (called.Exit m) (called.Exit n) a b r h k s = ap called.Exit (told_exit m n (sym h.told ∙ s.0 ∙ k.told))

-- an answer has only one reply, except for the memory of a program that ends
values_same : (loaded mem other : Memory) (c d : Called) (a b : Reply) → IsAsLoaded loaded → IsReply loaded mem c a → IsReply loaded other d b → c ≡ d →
    AreSameReplies a b
values_same loaded mem other (called.Value u) (called.Value v) a b l h k e =
    let f : u ≡ v = cc in
    let effects : HaveSameEffects a b = (
      listed_once loaded u.mem a.changes b.changes l h.changes
          (subst (λ (w : Memory). AreChangesOf loaded w b.changes) (sym (ap (λ (y : CallAnswer). y.mem) f)) k.changes),
      h.output ∙ ap (λ (y : CallAnswer). y.output) f ∙ sym k.output,
    ) in
    (h.told ∙ ap (λ (y : CallAnswer). served.Value y.value) f ∙ sym k.told, subst (λ (t : Served). IfValue t (HaveSameEffects a b)) (sym h.told) effects)
values_same loaded mem other (called.Value u) (called.Exit status) a b l h k e = absurd (cc)
values_same loaded mem other (called.Exit status) (called.Value v) a b l h k e = absurd (cc)
values_same loaded mem other (called.Exit m) (called.Exit n) a b l h k e =
    (h.told ∙ ap told e ∙ sym k.told, subst (λ (t : Served). IfValue t (HaveSameEffects a b)) (sym h.told) tt)

pub serves_same : (loaded mem other : Memory) (i : Instr) (regs others : List ℕ) (a b : Reply) → IsReply loaded mem (serve_of i regs mem []) a →
    IsReply loaded other (serve_of i others other []) b → AreSameReplies a b → serve_of i regs mem [] ≡ serve_of i others other []
serves_same loaded mem other i regs others a b h k s = calls_same loaded mem other (serve_of i regs mem []) (serve_of i others other []) a b
    (serve_leaves i regs mem ∙ sym (serve_leaves i others other)) h k s

pub replies_same : (loaded mem other : Memory) (i : Instr) (regs others : List ℕ) (a b : Reply) → IsAsLoaded loaded →
    IsReply loaded mem (serve_of i regs mem []) a →
    IsReply loaded other (serve_of i others other []) b → serve_of i regs mem [] ≡ serve_of i others other [] → AreSameReplies a b
replies_same loaded mem other i regs others a b l h k e = values_same loaded mem other (serve_of i regs mem []) (serve_of i others other []) a b l h k e

pub ruleset replies_of_calls = (serves_same, replies_same)
