-- Instructions on their way up as bytes.
use Rattle.std.specs.Prelude.{ℕ, ◌+◌, ◌%◌, ◌^◌, ◌==◌, if◌then◌else◌, Bool, false, Option, None, Some, List, [], ◌∷◌, ◌++◌}
use Rattle.rv_inst.specs.declared.instruction.Instr.{Instr}
use Rattle.cf_bind.specs.declared.binding.Binding.{Binding}
use Rattle.cf_bind.specs.declared.packet.Packet.{Packet}
use Rattle.cf_bind.specs.declared.passenger.Guess.{Guess}
use Rattle.cf_bind.specs.declared.passenger.Guess.TheVariants.{Next, Taken, Wait, To}
use Rattle.cf_bind.specs.declared.passenger.End.{End}
use Rattle.cf_bind.specs.declared.passenger.End.TheVariants.{Trap, Exit}
use Rattle.cf_bind.specs.declared.passenger.Passenger.{Passenger}
use Rattle.cf_semantics.specs.state.Options.{is_some, on}
use Rattle.order_keys.specs.declared.passenger_flags.PassengerFlags.{PassengerFlags}
use Rattle.order_keys.specs.declared.passenger_flags.OriginFlags.{OriginFlags}
use Rattle.order_keys.specs.Unpacked.{Unpacked, got, as_read}
use Rattle.order_keys.specs.Numbers.{leading_byte, behind, packed_byte, unpacked_byte, packed_word, unpacked_word}
use Rattle.order_keys.specs.Compounds.{packed_triple, unpacked_triple, packed_some, unpacked_some}
use Rattle.order_keys.specs.Instructions.{packed_instr, unpacked_instr}
use Rattle.order_keys.specs.Bindings.{packed_binding, unpacked_binding, has_value}
use Rattle.order_keys.specs.Results.{packed_packet, unpacked_packet}
use Rattle.order_keys.specs.PassengerFlags.{packed_flags, unpacked_flags, packed_origin_flags, unpacked_origin_flags}

unfoldable pub packed_guess : Guess → List ℕ
packed_guess Next = 0 ∷ []
packed_guess Taken = 1 ∷ []
packed_guess Wait = 2 ∷ []
packed_guess (To target) = (3 ∷ []) ++ packed_word target

unfoldable pub unpacked_guess : List ℕ → Unpacked Guess
unpacked_guess bs =
    if leading_byte bs == 0 then got Next (behind bs) else
    if leading_byte bs == 1 then got Taken (behind bs) else
    if leading_byte bs == 2 then got Wait (behind bs) else
    as_read (λ x. To x) (unpacked_word (behind bs))

unfoldable pub packed_end : End → List ℕ
packed_end (Trap cause pc detail) = (0 ∷ []) ++ packed_triple packed_byte packed_word packed_word (cause, pc, detail)
packed_end (Exit status) = (1 ∷ []) ++ packed_byte status

unfoldable pub unpacked_end : List ℕ → Unpacked End
unpacked_end bs =
    if leading_byte bs == 0 then as_read (λ x. Trap x.0 x.1 x.2) (unpacked_triple unpacked_byte unpacked_word unpacked_word (behind bs)) else
    as_read (λ x. Exit x) (unpacked_byte (behind bs))

-- the guess, if it is another than that the next instruction follows
abbrev pub other_guess : Guess → Option Guess
other_guess Next = None
other_guess Taken = Some Taken
other_guess Wait = Some Wait
other_guess (To target) = Some (To target)

-- whether the program goes on with the instruction behind the one at this address
abbrev pub follows : ℕ → Option ℕ → Bool
follows pc next = on next false (λ n. n == (pc + 4) % 2 ^ 32)

-- where the program goes on, if it does not with the instruction behind the one at this address
unfoldable pub packed_next : ℕ → Option ℕ → List ℕ
packed_next pc next = if follows pc next then [] else packed_some packed_word next

unfoldable pub unpacked_next : ℕ → Bool → Bool → List ℕ → Unpacked (Option ℕ)
unpacked_next pc behind_it there bs = if behind_it then got (Some ((pc + 4) % 2 ^ 32)) bs else unpacked_some unpacked_word there bs

-- how far it has come
abbrev pub flags_of : Passenger → PassengerFlags
flags_of p = record {
  done = p.done;
  launched = p.launched;
  recovered = p.recovered;
  dead = p.dead;
  next = is_some p.next;
  follows = follows p.pc p.next;
  ending = is_some p.ending;
  owes = is_some p.owes;
}

-- what it came with
abbrev pub origin_flags_of : Passenger → OriginFlags
origin_flags_of p = record {
  what = is_some p.what;
  guess = is_some (other_guess p.guess);
  src1 = is_some p.src1;
  src1_value = has_value p.src1;
  src2 = is_some p.src2;
  src2_value = has_value p.src2;
  dst = is_some p.dst;
  dst_value = has_value p.dst;
}

-- its address, the instruction if there is one, and the guess
unfoldable pub packed_origin : ℕ × Option Instr × Guess → List ℕ
packed_origin x = packed_word x.0 ++ (packed_some packed_instr x.1 ++ packed_some packed_guess (other_guess x.2))

unfoldable pub unpacked_origin : OriginFlags → List ℕ → Unpacked (ℕ × Option Instr × Guess)
unpacked_origin flags bs =
    let pc = unpacked_word bs in
    let what = unpacked_some unpacked_instr flags.what pc.left in
    let guess = unpacked_some unpacked_guess flags.guess what.left in
    got (pc.value, what.value, on guess.value Next (λ g. g)) guess.left

-- its two sources and its destination
unfoldable pub packed_bindings : Option Binding × Option Binding × Option Binding → List ℕ
packed_bindings x = packed_some packed_binding x.0 ++ (packed_some packed_binding x.1 ++ packed_some packed_binding x.2)

unfoldable pub unpacked_bindings : OriginFlags → List ℕ → Unpacked (Option Binding × Option Binding × Option Binding)
unpacked_bindings flags bs =
    let src1 = unpacked_some (unpacked_binding flags.src1_value) flags.src1 bs in
    let src2 = unpacked_some (unpacked_binding flags.src2_value) flags.src2 src1.left in
    let dst = unpacked_some (unpacked_binding flags.dst_value) flags.dst src2.left in
    got (src1.value, src2.value, dst.value) dst.left

-- where the program goes on after it, how it ends the program, and what it owes; the address is that of the instruction
unfoldable pub packed_outcome : ℕ → Option ℕ × Option End × Option Packet → List ℕ
packed_outcome pc x = packed_next pc x.0 ++ (packed_some packed_end x.1 ++ packed_some packed_packet x.2)

unfoldable pub unpacked_outcome : ℕ → PassengerFlags → List ℕ → Unpacked (Option ℕ × Option End × Option Packet)
unpacked_outcome pc flags bs =
    let next = unpacked_next pc flags.follows flags.next bs in
    let ending = unpacked_some unpacked_end flags.ending next.left in
    let owes = unpacked_some unpacked_packet flags.owes ending.left in
    got (next.value, ending.value, owes.value) owes.left

unfoldable pub packed_passenger : Passenger → List ℕ
packed_passenger p =
    packed_flags (flags_of p) ++
    (packed_origin_flags (origin_flags_of p) ++
    (packed_origin (p.pc, p.what, p.guess) ++
    (packed_bindings (p.src1, p.src2, p.dst) ++
    packed_outcome p.pc (p.next, p.ending, p.owes))))

-- the instruction of these parts
abbrev pub passenger_of : PassengerFlags → ℕ × Option Instr × Guess → Option Binding × Option Binding × Option Binding →
    Option ℕ × Option End × Option Packet → Passenger
passenger_of flags origin bindings outcome = record {
  pc = origin.0;
  what = origin.1;
  guess = origin.2;
  src1 = bindings.0;
  src2 = bindings.1;
  dst = bindings.2;
  done = flags.done;
  launched = flags.launched;
  recovered = flags.recovered;
  next = outcome.0;
  ending = outcome.1;
  owes = outcome.2;
  dead = flags.dead;
}

unfoldable pub unpacked_passenger : List ℕ → Unpacked Passenger
unpacked_passenger bs =
    let flags = unpacked_flags bs in
    let came = unpacked_origin_flags flags.left in
    let origin = unpacked_origin came.value came.left in
    let bindings = unpacked_bindings came.value origin.left in
    let outcome = unpacked_outcome origin.value.0 flags.value bindings.left in
    got (passenger_of flags.value origin.value bindings.value outcome.value) outcome.left
