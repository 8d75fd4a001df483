use Rattle.std.proofs.Common.{◌≡◌, ◌+◌, ◌≤◌, ◌++◌, length, map}
use Rattle.std.specs.Prelude.{◌==◌, filter}
use Rattle.cf_layout.specs.Layout.{recover_stage}
use Rattle.cf_semantics.specs.moves.Candidates.{counted_from}
use Rattle.cf_index.specs.Sites.{way_out}
use Rattle.run_ledger.specs.Ledgers.{place_number}
use Rattle.run_ledger.proofs.places.push_exits.Given as goal

-- the sites of the sidings so far are in the list
abbrev pub invariant-loop-k : goal.invariant-loop-k
invariant-loop-k l = record {
  places : l.places.items ≡ l.initial.places.items ++ map place_number (map (way_out l.layout)
      (filter (λ k. recover_stage l.layout k == l.i) (counted_from 0 l.k)));
  few : length l.places.items ≤ length l.initial.places.items + l.k;
}
