use Rattle.std.proofs.Common.{◌≡◌, drop}
use Rattle.run_ledger.specs.Ledgers.{put_marks, with_marks}
use Rattle.run_ledger.proofs.ledger.Ledger.put.Given as goal

-- the marks of the remaining sites make up the rest, and nothing else is set
abbrev pub invariant-loop-place : goal.invariant-loop-place
invariant-loop-place l = record {
  marks : put_marks l.mark l.self.marks (drop l.place-index l.places) ≡ put_marks l.mark l.initial.self.marks l.places;
  others : l.self ≡ with_marks l.initial.self l.self.marks;
}
