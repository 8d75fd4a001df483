use Rattle.std.proofs.Common.{◌≡◌, drop}
use Rattle.std.specs.List.{list_any}
use Rattle.cf_index.specs.Sites.{shares}
use Rattle.cf_rounds.proofs.choosing.shares_any.Given as goal

-- none so far shares a site with the move
abbrev pub invariant-loop-place : goal.invariant-loop-place
invariant-loop-place l = list_any (shares l.core.plan l.mv) (drop l.place l.set) ≡ list_any (shares l.core.plan l.mv) l.set
