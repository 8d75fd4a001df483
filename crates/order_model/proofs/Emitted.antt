-- What leaves the lane, and what a result that leaves at the bottom does to the cache.
use Rattle.std.proofs.Common.{◌≡◌, ℕ, ◌<◌, List, [], ◌∷◌, Option, Some, Bool, true, false, length, refl, arith}
use Rattle.std.specs.Prelude.{slice_index, slice_index_or}
use Rattle.std.specs.List.{remove}
use Rattle.cf_bind.specs.declared.cell.Cell.{Cell}
use Rattle.cf_bind.specs.declared.packet.Packet.TheVariants.{Value, Turn, Halt}
use Rattle.cf_semantics.specs.state.State.{State, with_cell}
use Rattle.cf_semantics.specs.moves.Moves.{emitted, keeps}
use Rattle.cf_semantics.specs.state.Passengers.{cleared}

pub emits : (s : State) (n : ℕ) (lane : List ℕ) (c : Cell) (r : ℕ) → 0 < length lane → r ≡ slice_index_or lane 0 r →
    emitted s n lane c ≡ record (with_cell s n (record c { packet = Some (Value r (slice_index s.regs r)); met = false })) { lane = remove lane 0 }
emits s n [] c r h e = absurd (omega arith)
emits s n (q ∷ lane) c r h e = rw e refl

pub emits_none : (s : State) (n : ℕ) (lane : List ℕ) (c : Cell) → length lane ≡ 0 → emitted s n lane c ≡ s
emits_none s n [] c e = refl
emits_none s n (q ∷ lane) c e = absurd (omega arith)

pub ruleset emitting = (emits, emits_none)

pub keeps_turn : (b : Bool) (cache : List (Option ℕ)) (pc : ℕ) → keeps b cache (Turn pc) ≡ cleared cache
keeps_turn true cache pc = refl
keeps_turn false cache pc = refl

pub keeps_halt : (b : Bool) (cache : List (Option ℕ)) → keeps b cache Halt ≡ cleared cache
keeps_halt true cache = refl
keeps_halt false cache = refl

pub ruleset clearing = (keeps_turn, keeps_halt)
