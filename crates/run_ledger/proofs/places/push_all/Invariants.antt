use Rattle.std.proofs.Common.{◌≡◌, ◌+◌, ◌++◌, drop, length}
use Rattle.run_ledger.proofs.places.push_all.Given as goal

-- those in the list and the remaining ones make up the whole list
abbrev pub invariant-loop-place : goal.invariant-loop-place
invariant-loop-place l = record {
  places : l.places.items ++ drop l.place-index l.more ≡ l.initial.places.items ++ l.more;
  size : length l.places.items ≡ length l.initial.places.items + l.place-index;
}
