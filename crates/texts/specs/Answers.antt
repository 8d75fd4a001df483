-- Reading in steps, each of which may refuse: the first refusal is the answer.
use Rattle.std.specs.Prelude.{Option, Some, None, Result, Ok, Err}

-- the first step's refusal, or the second step's answer for the value of the first
abbrev pub and_then : {A B E : Type 0} → Result A E → (A → Result B E) → Result B E
and_then (Ok a) step = step a
and_then (Err e) step = Err e

-- the value, or this refusal if it is missing
abbrev pub needed : {A E : Type 0} → E → Option A → Result A E
needed e (Some a) = Ok a
needed e None = Err e
