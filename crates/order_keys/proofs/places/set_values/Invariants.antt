use Rattle.order_keys.proofs.PlacesRead.{HasValues}
use Rattle.order_keys.proofs.places.set_values.Given as goal

-- the values so far are those of their places
abbrev pub invariant-loop-i : goal.invariant-loop-i
invariant-loop-i l = record { valued : HasValues l.i l.regs l.places }
