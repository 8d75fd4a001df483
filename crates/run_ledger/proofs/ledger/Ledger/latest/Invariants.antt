use Rattle.std.proofs.Common.{◌≡◌, drop, map}
use Rattle.run_ledger.specs.Ledgers.{latest_of, chain_mark_at, no_chain_mark}
use Rattle.run_ledger.proofs.ledger.Ledger.latest.Given as goal

-- it is the latest mark so far
abbrev pub invariant-loop-place : goal.invariant-loop-place
invariant-loop-place l = latest_of l.latest (map (chain_mark_at l.self.marks) (drop l.place-index l.places))
    ≡ latest_of no_chain_mark (map (chain_mark_at l.self.marks) l.places)
