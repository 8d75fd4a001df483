use Rattle.order_keys.proofs.PlacesRead.{ReadUpTo}
use Rattle.order_keys.proofs.places.unpack_places.Given as goal

-- the places so far are read
abbrev pub invariant-loop-i : goal.invariant-loop-i
invariant-loop-i l = record { read : ReadUpTo l.fn.key l.i l.empty l.key l.places }
