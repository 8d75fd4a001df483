use Rattle.std.proofs.Common.{◌≡◌, ◌≤◌, ◌-◌, ◌++◌, length}
use Rattle.order_keys.specs.Unpacked.{got}
use Rattle.order_keys.specs.Numbers.{unpacked_byte}
use Rattle.order_keys.specs.Lists.{unpacked_list, unpacked_items}
use Rattle.order_keys.proofs.situation_parts.unpack_lane.Given as goal

-- with the requests that are still to be read it is the whole lane
abbrev pub invariant-loop : goal.invariant-loop
invariant-loop l =
    let others = unpacked_items unpacked_byte (l.count - l.counter) l.key in record {
      whole : got (l.lane.items ++ others.value) others.left ≡ unpacked_list unpacked_byte l.fn.key;
      size : length l.lane.items ≡ l.counter;
      few : l.count ≤ 64;
    }
