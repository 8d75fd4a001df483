use Rattle.std.proofs.Common.{◌≡◌, drop}
use Rattle.std.specs.List.{find}
use Rattle.cf_index.specs.Alone.{stands_alone}
use Rattle.cf_rounds.proofs.choosing.alone.Given as goal

-- none so far is made alone
abbrev pub invariant-loop-place : goal.invariant-loop-place
invariant-loop-place l = find (stands_alone l.core.plan l.core.state) (drop l.place l.c) ≡ find (stands_alone l.core.plan l.core.state) l.c
