-- Results and the state of fetch, as bytes: the number of the form, then its contents.
use Rattle.std.specs.Prelude.{ℕ, ◌==◌, if◌then◌else◌, List, [], ◌∷◌, ◌++◌}
use Rattle.cf_bind.specs.declared.packet.Packet.{Packet}
use Rattle.cf_bind.specs.declared.packet.Packet.TheVariants.{Value, Turn, Halt}
use Rattle.cf_bind.specs.declared.packet.Fetch.{Fetch}
use Rattle.cf_bind.specs.declared.packet.Fetch.TheVariants.{Running, Waiting}
use Rattle.order_keys.specs.Unpacked.{Unpacked, got, as_read}
use Rattle.order_keys.specs.Numbers.{leading_byte, behind, packed_byte, unpacked_byte, packed_word, unpacked_word}
use Rattle.order_keys.specs.Compounds.{packed_pair, unpacked_pair}

unfoldable pub packed_packet : Packet → List ℕ
packed_packet (Value reg value) = (0 ∷ []) ++ packed_pair packed_byte packed_word (reg, value)
packed_packet (Turn target) = (1 ∷ []) ++ packed_word target
packed_packet Halt = 2 ∷ []

unfoldable pub unpacked_packet : List ℕ → Unpacked Packet
unpacked_packet bs =
    if leading_byte bs == 0 then as_read (λ x. Value x.0 x.1) (unpacked_pair unpacked_byte unpacked_word (behind bs)) else
    if leading_byte bs == 1 then as_read (λ x. Turn x) (unpacked_word (behind bs)) else
    got Halt (behind bs)

unfoldable pub packed_fetch : Fetch → List ℕ
packed_fetch (Running pc) = (0 ∷ []) ++ packed_word pc
packed_fetch Waiting = 1 ∷ []

unfoldable pub unpacked_fetch : List ℕ → Unpacked Fetch
unpacked_fetch bs = if leading_byte bs == 0 then as_read (λ x. Running x) (unpacked_word (behind bs)) else got Waiting (behind bs)
