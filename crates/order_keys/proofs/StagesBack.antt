-- The contents of stages and of cells of sidings are read back.
use Rattle.std.proofs.Common.{◌≡◌, ℕ, ◌+◌, ◌%◌, ◌^◌, if◌then◌else◌, Bool, true, false, true≢false, Option, None, Some, List, [], ◌++◌, refl, sym, ap, append_assoc, arith}
use Rattle.std.proofs.lemmas.Bool.Decides.{nat_tests}
use Rattle.cf_semantics.specs.state.Options.{is_some, on}
use Rattle.cf_bind.specs.declared.binding.Binding.{Binding}
use Rattle.cf_bind.specs.declared.packet.Packet.{Packet}
use Rattle.cf_bind.specs.declared.packet.Packet.TheVariants.{Value, Turn, Halt}
use Rattle.cf_bind.specs.declared.packet.Fetch.{Fetch}
use Rattle.cf_bind.specs.declared.packet.Fetch.TheVariants.{Running, Waiting}
use Rattle.cf_bind.specs.declared.passenger.Guess.{Guess}
use Rattle.cf_bind.specs.declared.passenger.Guess.TheVariants.{Next, Taken, Wait, To}
use Rattle.cf_bind.specs.declared.passenger.End.{End}
use Rattle.cf_bind.specs.declared.passenger.End.TheVariants.{Trap, Exit}
use Rattle.cf_bind.specs.declared.passenger.Passenger.{Passenger}
use Rattle.order_keys.specs.Unpacked.{Unpacked, got, ReadsBack}
use Rattle.order_keys.specs.Numbers.{leading_byte, behind, packed_word}
use Rattle.order_keys.specs.Bindings.{packed_binding, unpacked_binding, has_value}
use Rattle.order_keys.specs.Compounds.{packed_some, unpacked_some}
use Rattle.order_keys.specs.Results.{packed_packet, unpacked_packet, packed_fetch, unpacked_fetch}
use Rattle.order_keys.specs.Passengers.{packed_guess, unpacked_guess, packed_end, unpacked_end, other_guess, follows, packed_next, unpacked_next, flags_of, origin_flags_of, packed_origin, unpacked_origin, packed_bindings, unpacked_bindings, packed_outcome, unpacked_outcome, packed_passenger, unpacked_passenger}
use Rattle.order_keys.specs.Cells.{packed_cell, unpacked_cell, packed_source, unpacked_source, packed_values, unpacked_values, packed_op, unpacked_op}
use Rattle.order_keys.proofs.NumbersBack.{byte_back, word_back}
use Rattle.order_keys.proofs.BitsBack.{flags_back, origin_flags_back, stage_flags_back}
use Rattle.order_keys.proofs.CompoundsBack.{pair_back, triple_back, option_back, some_read}
use Rattle.order_keys.proofs.InstructionsBack.{instr_back}

binding_read : (b : Binding) (rest : List ℕ) → unpacked_binding (is_some b.value) (packed_binding b ++ rest) ≡ got b rest
unfolding packed_binding unpacked_binding
binding_read b rest = simp (append_assoc, byte_back.back, some_read word_back) refl

bound_read : (bound : Option Binding) (rest : List ℕ) →
    unpacked_some (unpacked_binding (has_value bound)) (is_some bound) (packed_some packed_binding bound ++ rest) ≡ got bound rest
unfolding packed_some unpacked_some
bound_read None rest = refl
bound_read (Some b) rest = simp (binding_read b rest) refl

packet_reads : (x : Packet) (rest : List ℕ) → unpacked_packet (packed_packet x ++ rest) ≡ got x rest
unfolding packed_packet unpacked_packet leading_byte behind
packet_reads (Value reg value) rest = simp ((pair_back byte_back word_back).back (reg, value) rest) refl
packet_reads (Turn target) rest = simp (word_back.back target rest) refl
packet_reads Halt rest = refl

pub packet_back : ReadsBack packed_packet unpacked_packet
packet_back = record { back = packet_reads }

fetch_reads : (x : Fetch) (rest : List ℕ) → unpacked_fetch (packed_fetch x ++ rest) ≡ got x rest
unfolding packed_fetch unpacked_fetch leading_byte behind
fetch_reads (Running pc) rest = simp (word_back.back pc rest) refl
fetch_reads Waiting rest = refl

pub fetch_back : ReadsBack packed_fetch unpacked_fetch
fetch_back = record { back = fetch_reads }

guess_reads : (x : Guess) (rest : List ℕ) → unpacked_guess (packed_guess x ++ rest) ≡ got x rest
unfolding packed_guess unpacked_guess leading_byte behind
guess_reads Next rest = refl
guess_reads Taken rest = refl
guess_reads Wait rest = refl
guess_reads (To target) rest = simp (word_back.back target rest) refl

pub guess_back : ReadsBack packed_guess unpacked_guess
guess_back = record { back = guess_reads }

end_reads : (x : End) (rest : List ℕ) → unpacked_end (packed_end x ++ rest) ≡ got x rest
unfolding packed_end unpacked_end leading_byte behind
end_reads (Trap cause pc detail) rest = simp ((triple_back byte_back word_back word_back).back (cause, pc, detail) rest) refl
end_reads (Exit status) rest = simp (byte_back.back status rest) refl

pub end_back : ReadsBack packed_end unpacked_end
end_back = record { back = end_reads }

guess_read : (guess : Guess) (rest : List ℕ) →
    let read = unpacked_some unpacked_guess (is_some (other_guess guess)) (packed_some packed_guess (other_guess guess) ++ rest) in
    got (on read.value Next (λ g. g)) read.left ≡ got guess rest
guess_read Next rest = simp (some_read guess_back) refl
guess_read Taken rest = simp (some_read guess_back) refl
guess_read Wait rest = simp (some_read guess_back) refl
guess_read (To target) rest = simp (some_read guess_back) refl

next_cases : (pc : ℕ) (next : Option ℕ) (rest : List ℕ) (behind_it : Bool) → follows pc next ≡ behind_it →
    unpacked_next pc behind_it (is_some next) ((if behind_it then [] else packed_some packed_word next) ++ rest) ≡ got next rest
unfolding unpacked_next
next_cases pc next rest false e = some_read word_back next rest
next_cases pc None rest true e = absurd (true≢false (sym e))
next_cases pc (Some n) rest true e = let is : (pc + 4) % 2 ^ 32 ≡ n = grind (arith, e, nat_tests) in ap (λ (k : ℕ). got (Some k) rest) is

next_read : (pc : ℕ) (next : Option ℕ) (rest : List ℕ) →
    unpacked_next pc (follows pc next) (is_some next) (packed_next pc next ++ rest) ≡ got next rest
unfolding packed_next
next_read pc next rest = next_cases pc next rest (follows pc next) refl

origin_read : (p : Passenger) (rest : List ℕ) →
    unpacked_origin (origin_flags_of p) (packed_origin (p.pc, p.what, p.guess) ++ rest) ≡ got (p.pc, p.what, p.guess) rest
unfolding packed_origin unpacked_origin
origin_read p rest =
    simp (append_assoc, word_back.back, some_read instr_back) (ap (λ (g : Unpacked Guess). got (p.pc, p.what, g.value) g.left) (guess_read p.guess rest))

bindings_read : (p : Passenger) (rest : List ℕ) →
    unpacked_bindings (origin_flags_of p) (packed_bindings (p.src1, p.src2, p.dst) ++ rest) ≡ got (p.src1, p.src2, p.dst) rest
unfolding packed_bindings unpacked_bindings
bindings_read p rest = simp (append_assoc, bound_read) refl

outcome_read : (p : Passenger) (rest : List ℕ) →
    unpacked_outcome p.pc (flags_of p) (packed_outcome p.pc (p.next, p.ending, p.owes) ++ rest) ≡ got (p.next, p.ending, p.owes) rest
unfolding packed_outcome unpacked_outcome
outcome_read p rest = simp (append_assoc, next_read, some_read end_back, some_read packet_back) refl

pub passenger_back : ReadsBack packed_passenger unpacked_passenger
unfolding packed_passenger unpacked_passenger
passenger_back = record {
  back = λ p rest. simp (append_assoc, flags_back.back, origin_flags_back.back, origin_read p, bindings_read p, outcome_read p) refl;
}

pub cell_back : ReadsBack packed_cell unpacked_cell
unfolding packed_cell unpacked_cell
cell_back = record {
  back = λ c rest. simp (append_assoc, stage_flags_back.back, some_read passenger_back, some_read packet_back) refl;
}

source_back : ReadsBack packed_source unpacked_source
source_back = pair_back word_back instr_back

values_back : ReadsBack packed_values unpacked_values
values_back = triple_back word_back word_back (option_back word_back)

pub op_back : ReadsBack packed_op unpacked_op
unfolding packed_op unpacked_op
op_back = record { back = λ o rest. simp (append_assoc, source_back.back, values_back.back) refl }
