-- The flags of an instruction on its way up, as the bits of two bytes.
use Rattle.std.specs.Prelude.{ℕ, ◌+◌, ◌*◌, List, [], ◌∷◌}
use Rattle.order_keys.specs.declared.passenger_flags.PassengerFlags.{PassengerFlags}
use Rattle.order_keys.specs.declared.passenger_flags.OriginFlags.{OriginFlags}
use Rattle.order_keys.specs.Unpacked.{Unpacked, got}
use Rattle.order_keys.specs.Numbers.{leading_byte, behind}
use Rattle.order_keys.specs.Bits.{half, is_set}

-- how far it has come
unfoldable pub packed_flags : PassengerFlags → List ℕ
packed_flags p = (half p.done p.launched p.recovered p.dead + 16 * half p.next p.follows p.ending p.owes) ∷ []

unfoldable pub unpacked_flags : List ℕ → Unpacked PassengerFlags
unpacked_flags bs =
    got
    (record {
      done = is_set 1 (leading_byte bs);
      launched = is_set 2 (leading_byte bs);
      recovered = is_set 4 (leading_byte bs);
      dead = is_set 8 (leading_byte bs);
      next = is_set 16 (leading_byte bs);
      follows = is_set 32 (leading_byte bs);
      ending = is_set 64 (leading_byte bs);
      owes = is_set 128 (leading_byte bs);
    })
    (behind bs)

-- what it came with
unfoldable pub packed_origin_flags : OriginFlags → List ℕ
packed_origin_flags p =
    (half p.what p.guess p.src1 p.src1_value + 16 * half p.src2 p.src2_value p.dst p.dst_value) ∷ []

unfoldable pub unpacked_origin_flags : List ℕ → Unpacked OriginFlags
unpacked_origin_flags bs =
    got
    (record {
      what = is_set 1 (leading_byte bs);
      guess = is_set 2 (leading_byte bs);
      src1 = is_set 4 (leading_byte bs);
      src1_value = is_set 8 (leading_byte bs);
      src2 = is_set 16 (leading_byte bs);
      src2_value = is_set 32 (leading_byte bs);
      dst = is_set 64 (leading_byte bs);
      dst_value = is_set 128 (leading_byte bs);
    })
    (behind bs)
