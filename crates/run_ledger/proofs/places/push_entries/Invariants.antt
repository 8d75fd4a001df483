use Rattle.std.proofs.Common.{◌≡◌, ◌+◌, ◌≤◌, ◌++◌, length, map}
use Rattle.std.specs.Prelude.{◌==◌, filter}
use Rattle.cf_layout.specs.Layout.{launch_stage}
use Rattle.cf_semantics.specs.moves.Candidates.{counted_from}
use Rattle.cf_index.specs.Sites.{way_in}
use Rattle.run_ledger.specs.Ledgers.{place_number}
use Rattle.run_ledger.proofs.places.push_entries.Given as goal

-- the sites of the sidings so far are in the list
abbrev pub invariant-loop-k : goal.invariant-loop-k
invariant-loop-k l = record {
  places : l.places.items ≡ l.initial.places.items ++ map place_number (map way_in (filter (λ k. launch_stage l.layout k == l.i) (counted_from 0 l.k)));
  few : length l.places.items ≤ length l.initial.places.items + l.k;
}
